use Rattle.std.proofs.Common.{◌≤◌, Result, IsOkAnd, sym, subst, arith}
use Rattle.packet.specs.declared.fault.Fault.{Fault}
use Rattle.packet.specs.declared.view.View.{View}
use Rattle.packet.proofs.Routes.{routed_is_on_route}
use Rattle.machine.proofs.Reading.{ports_are_some}
use Rattle.machine.specs.Core.{state_of}
use Rattle.machine.specs.Machine.{leg}
use Rattle.machine.proofs.Rising.{core-sent, few-any}
use Rattle.machine.proofs.Steps.{latest_held}
use Rattle.machine.proofs.state.State.answer_by_plan.Goals as goal

pub plan_for-plan-requires-clause-ports : goal.plan_for-plan-requires-clause-ports
plan_for-plan-requires-clause-ports g c = ports_are_some c.args.packet.now c.args.view.now c.requires.read

pub answer_planned-requires-clause-read : goal.answer_planned-requires-clause-read
answer_planned-requires-clause-read g c =
    subst (λ (r : Result View Fault). IsOkAnd r (λ (v : View). 2 ≤ v.ttl)) (sym c.requires.read) (routed_is_on_route c.args.self.now.config c.requires.routed.0 c.args.view.now c.args.route c.requires.routed.1).0

pub answer_planned-requires-clause-latest : goal.answer_planned-requires-clause-latest
answer_planned-requires-clause-latest g c =
    let own = c.self.inside in
    latest_held own.bounds own.in_force.text own.in_force.rules own.clock own.clock own.flows.table.held c.self.invariant.sound (omega arith)

pub answer_planned-requires-clause-planned : goal.answer_planned-requires-clause-planned
answer_planned-requires-clause-planned g c = (_, rw (← c.self.view_is) at c.plan_for-plan.ensures)

pub invariant_of-self : goal.invariant_of-self
invariant_of-self g c =
    let own = c.self.inside in
    let routed = rw (← c.self.view_is) at c.requires.routed in
    core-sent own.bounds c.facts.ensures.valid own.in_force.text own.in_force.rules own.flows c.answer_planned.new.flows own.clock c.self.invariant c.answer_planned.ensures.external routed.0 c.args.packet.now c.args.view.now c.args.route c.requires.read routed.1
    c.answer_planned.new.packet c.plan_for-plan.result (rw (← c.self.view_is) at c.plan_for-plan.ensures) c.answer_planned.result c.answer_planned.ensures.ok c.answer_planned.ensures.err

pub returns-clause-no_memory : goal.returns-clause-no_memory
returns-clause-no_memory g c = rw (← c.self.view_is) (λ few.
    let own = c.self.inside in
    let way = leg own.bounds (state_of own.in_force.text own.in_force.rules own.flows.table.held own.clock) c.args.view.now c.args.route in
    c.answer_planned.ensures.no_memory way (rw (← c.self.view_is) at c.plan_for-plan.ensures)
    (few-any own.in_force.text own.in_force.rules own.flows.table.held own.clock c.args.packet.now way few))
