use Rattle.std.proofs.Common.{Contains, sym, ap, subst, ◌∙◌}
use Rattle.packet.specs.Config.{Pool}
use Rattle.portpick.specs.Pool.{pool_choice}
use Rattle.sessions.specs.Listing.{listing}
use Rattle.verdict.specs.Hooks.{postrouting_verdict}
use Rattle.hairpin.proofs.Apart.{or_no_port-is}
use Rattle.hairpin.proofs.Mapped.{chosen_at, chosen_by}
use Rattle.hairpin.specs.Legs.{or_no_port, outside_by_rules}
use Rattle.hairpin.proofs.outward.outside_by_rules.Goals as goal

pub choose_at-choice-requires-clause-external : goal.choose_at-choice-requires-clause-external
choose_at-choice-requires-clause-external c =
    subst (λ (pool : Pool). Contains pool c.in-From.addr) (sym c.requires.translations.external) (c.requires.bounded.from c.facts_out.result c.in-From.addr (sym c.postrouting.ensures ∙ c.in-From.is))

pub returns-in-From : goal.returns-in-From
returns-in-From c = λ now.
    let config = c.args.asking.now.bounds.now in
    let rules = c.args.asking.now.rules.now in
    let view = c.args.asking.now.view.now in
    let held = c.args.asking.now.table.now.held in
    let addr = c.in-From.addr in
    let choice = c.choose_at-choice.result in
    let asked = sym c.postrouting.ensures ∙ c.in-From.is in
    let listed = c.requires.bounded.from c.facts_out.result addr asked in
    let is = chosen_at config c.facts.ensures.valid held c.args.asking.now.translations.now c.requires.translations view.proto addr view.src.port choice listed c.choose_at-choice.ensures in
    let verdict = ap (λ f. postrouting_verdict config f rules) (sym c.facts_out.ensures) ∙ asked in
    c.ok_or.ensures.value ∙ or_no_port-is choice ∙ ap or_no_port is ∙ sym (ap (outside_by_rules config rules (listing held) now view) verdict)

pub returns-in-Masquerade : goal.returns-in-Masquerade
returns-in-Masquerade c = λ now.
    let config = c.args.asking.now.bounds.now in
    let rules = c.args.asking.now.rules.now in
    let view = c.args.asking.now.view.now in
    let held = c.args.asking.now.table.now.held in
    let choice = c.choose_for-choice.result in
    let verdict = ap (λ f. postrouting_verdict config f rules) (sym c.facts_out.ensures) ∙ sym c.postrouting.ensures ∙ c.in-Masquerade.is in
    let is = chosen_by config c.facts.ensures.valid held c.args.asking.now.translations.now c.requires.translations view.proto view.src.addr choice (λ uses taken pool. pool_choice uses taken pool view.src.port) c.choose_for-choice.ensures in
    c.ok_or-in-Masquerade.ensures.value ∙ or_no_port-is choice ∙ ap or_no_port is ∙ sym (ap (outside_by_rules config rules (listing held) now view) verdict)
