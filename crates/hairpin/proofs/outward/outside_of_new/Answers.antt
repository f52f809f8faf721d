use Rattle.std.proofs.Common.{IfSome, IfNone, Ok, sym, subst, ap, ◌∙◌}
use Rattle.packet.specs.declared.endpoint.Endpoint.{Endpoint}
use Rattle.sessions.specs.Laws.{IsMapping}
use Rattle.sessions.specs.Listing.{listing}
use Rattle.hairpin.specs.Legs.{outside_for}
use Rattle.hairpin.proofs.Mapped.{mapped, not_mapped}
use Rattle.hairpin.proofs.outward.outside_of_new.Goals as goal

pub returns-in-Some : goal.returns-in-Some
returns-in-Some c = λ now.
    let held = c.args.asking.now.table.now.held in
    let view = c.args.asking.now.view.now in
    let m = mapped c.args.asking.now.bounds.now (listing held) c.requires.goes_out.translations.sound view.proto view.src c.in-Some.outside (subst (λ o. IfSome o (IsMapping (listing held) view.proto view.src)) c.in-Some.is c.requires.mapping.mapped) in
    sym (ap (outside_for c.args.asking.now.bounds.now c.args.asking.now.rules.now (listing held) now view) m.1 ∙ ap Ok m.2)

pub returns-in-None : goal.returns-in-None
returns-in-None c = λ now.
    let held = c.args.asking.now.table.now.held in
    let view = c.args.asking.now.view.now in
    let none = not_mapped c.args.asking.now.bounds.now (listing held) c.requires.goes_out.translations.sound view.proto view.src (subst (λ o. IfNone o ((outside : Endpoint) → ¬ IsMapping (listing held) view.proto view.src outside)) c.in-None.is c.requires.mapping.unmapped) in
    c.outside_by_rules.ensures now ∙ sym (ap (outside_for c.args.asking.now.bounds.now c.args.asking.now.rules.now (listing held) now view) none)
