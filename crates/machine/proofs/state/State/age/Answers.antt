use Rattle.std.proofs.Common.{sym, ap, subst, ◌∙◌}
use Rattle.sessions.specs.Listing.{listing}
use Rattle.machine.specs.Core.{state_of}
use Rattle.machine.specs.Machine.{EndsNone}
use Rattle.machine.proofs.Expiry.{none_due}
use Rattle.machine.proofs.Rising.{all-alive, core-aged}
use Rattle.machine.proofs.Steps.{latest_later}
use Rattle.machine.proofs.state.State.age.Goals as goal

pub expire_since-requires-clause-latest : goal.expire_since-requires-clause-latest
expire_since-requires-clause-latest g c =
    let own = c.self.inside in
    latest_later own.bounds own.in_force.text own.in_force.rules own.clock c.args.moment c.later_of-now.result own.flows.table.held c.self.invariant.sound c.later_of-now.ensures

pub invariant_of-self : goal.invariant_of-self
invariant_of-self g c =
    let own = c.self.inside in
    core-aged own.bounds own.in_force.text own.in_force.rules own.flows c.expire_since.new.self own.clock c.args.moment c.later_of-now.result c.later_of-now.ensures c.in-Ok.ensures.ok c.facts.ensures.valid c.self.invariant c.expire_since.ensures.external

pub returns-in-Ok-clause-none : goal.returns-in-Ok-clause-none
returns-in-Ok-clause-none g c = rw (← c.self.view_is) (λ unready.
    let own = c.self.inside in
    let same = c.in-Ok.ensures.none unready in (
      subst (λ n. EndsNone n (state_of own.in_force.text own.in_force.rules own.flows.table.held own.clock)) c.later_of-now.ensures
          (all-alive c.later_of-now.result (listing own.flows.table.held) (sym c.in-Ok.ensures.ok ∙ ap listing same.0)),
      same.1,
    ))

pub returns-in-Err-clause-succeeds : goal.returns-in-Err-clause-succeeds
returns-in-Err-clause-succeeds g c = rw (← c.self.view_is) (λ none.
    let own = c.self.inside in
    c.in-Err.ensures.succeeds (none_due own.flows.table.held c.later_of-now.result
    (subst (λ n. EndsNone n (state_of own.in_force.text own.in_force.rules own.flows.table.held own.clock)) (sym c.later_of-now.ensures) none)))
