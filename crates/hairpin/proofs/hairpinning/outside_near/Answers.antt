use Rattle.std.proofs.Common.{IfSome, IfNone, Ok, sym, subst, ap, ◌∙◌}
use Rattle.packet.specs.declared.endpoint.Endpoint.{Endpoint}
use Rattle.portpick.specs.Pool.{near_choice}
use Rattle.sessions.specs.Laws.{IsMapping}
use Rattle.sessions.specs.Listing.{listing}
use Rattle.hairpin.specs.Legs.{or_no_port, outside_near}
use Rattle.hairpin.proofs.Apart.{or_no_port-is}
use Rattle.hairpin.proofs.Mapped.{chosen_by, mapped, not_mapped}
use Rattle.hairpin.proofs.hairpinning.outside_near.Goals as goal

pub returns-in-Some : goal.returns-in-Some
returns-in-Some c = λ rules now.
    let view = c.args.asking.now.view.now in
    let held = c.args.asking.now.table.now.held in
    let m = mapped c.args.asking.now.bounds.now (listing held) c.requires.hairpins.translations.sound view.proto view.src c.in-Some.outside (subst (λ o. IfSome o (IsMapping (listing held) view.proto view.src)) c.in-Some.is c.requires.mapping.mapped) in
    sym (ap (outside_near c.args.asking.now.bounds.now rules (listing held) now view) m.1 ∙ ap (λ e. Ok e) m.2)

pub returns-in-None : goal.returns-in-None
returns-in-None c = λ rules now.
    let config = c.args.asking.now.bounds.now in
    let held = c.args.asking.now.table.now.held in
    let view = c.args.asking.now.view.now in
    let translations = c.requires.hairpins.translations in
    let choice = c.choose_near-choice.result in
    let absent = subst (λ o. IfNone o ((outside : Endpoint) → ¬ IsMapping (listing held) view.proto view.src outside)) c.in-None.is c.requires.mapping.unmapped in
    let is = chosen_by config c.facts.ensures.valid held c.args.asking.now.translations.now translations view.proto view.src.addr choice (λ uses taken pool. near_choice uses taken pool view.dst.addr view.src.port) c.choose_near-choice.ensures in
    c.ok_or.ensures.value ∙ or_no_port-is choice ∙ ap or_no_port is ∙ sym (ap (outside_near config rules (listing held) now view) (not_mapped config (listing held) translations.sound view.proto view.src absent))
