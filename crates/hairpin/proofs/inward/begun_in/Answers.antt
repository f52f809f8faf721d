use Rattle.std.proofs.Common.{refl, sym, ap, ◌∙◌}
use Rattle.std.proofs.lemmas.Bool.{false≢true}
use Rattle.verdict.specs.Hooks.{forward_verdict}
use Rattle.hairpin.proofs.Incoming.{begun-clash, begun-dropped, begun-full, begun-plans}
use Rattle.hairpin.proofs.inward.begun_in.Goals as goal

pub returns-then-clashes_with : goal.returns-then-clashes_with
returns-then-clashes_with c =
    let t = c.new_session-session in
    begun-clash c.args.bounds.now c.args.rules.now c.args.table.now.held c.args.now c.args.view.now c.args.inside t.result t.ensures (c.if-clashes_with.ensures.0 refl)

pub returns-in-Drop : goal.returns-in-Drop
returns-in-Drop c =
    let t = c.new_session-session in
    begun-dropped c.args.bounds.now c.args.rules.now c.args.table.now.held c.args.now c.args.view.now c.args.inside t.result t.ensures (λ any. false≢true (c.if-clashes_with.ensures.1 any))
    (ap (λ f. forward_verdict c.args.bounds.now f c.args.rules.now) (sym c.facts_of-facts.ensures) ∙ sym c.in-Drop.ensures)

pub returns-then-count-eq-MOST_SESSIONS : goal.returns-then-count-eq-MOST_SESSIONS
returns-then-count-eq-MOST_SESSIONS c =
    let t = c.new_session-session in
    begun-full c.args.bounds.now c.args.rules.now c.args.table.now.held c.args.now c.args.view.now c.args.inside t.result t.ensures (λ any. false≢true (c.if-clashes_with.ensures.1 any))
    (ap (λ f. forward_verdict c.args.bounds.now f c.args.rules.now) (sym c.facts_of-facts.ensures) ∙ sym c.in-Pass.ensures) (sym c.count.ensures ∙ c.if-count-eq-MOST_SESSIONS.true)

pub returns-else-count-eq-MOST_SESSIONS : goal.returns-else-count-eq-MOST_SESSIONS
returns-else-count-eq-MOST_SESSIONS c =
    let t = c.new_session-session in
    begun-plans c.args.bounds.now c.args.rules.now c.args.table.now.held c.args.now c.args.view.now c.args.inside t.result t.ensures (λ any. false≢true (c.if-clashes_with.ensures.1 any))
    (ap (λ f. forward_verdict c.args.bounds.now f c.args.rules.now) (sym c.facts_of-facts.ensures) ∙ sym c.in-Pass.ensures) c.requires.few (λ e. c.if-count-eq-MOST_SESSIONS.false (c.count.ensures ∙ e)) c.requires.placed
