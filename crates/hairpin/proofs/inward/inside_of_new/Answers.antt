use Rattle.std.proofs.Common.{sym, ap, ◌∙◌}
use Rattle.sessions.specs.Listing.{listing}
use Rattle.verdict.specs.Hooks.{prerouting_verdict}
use Rattle.hairpin.proofs.Incoming.{inside-mapped}
use Rattle.hairpin.proofs.inward.inside_of_new.Goals as goal

pub returns-in-None : goal.returns-in-None
returns-in-None c = λ now.
    let config = c.args.bounds.now in
    let asked = ap (λ f. prerouting_verdict config f c.args.rules.now) (sym c.facts_of-facts.ensures) ∙ sym c.in-None.ensures in
    c.mapped_inside.ensures ∙ sym (inside-mapped config c.args.rules.now (listing c.args.table.now.held) now c.args.view.now (sym c.if-is_inside.ensures) asked)
