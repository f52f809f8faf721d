use Rattle.std.proofs.Common.{◌≤◌, Result, IsOkAnd, sym, subst, ◌∙◌, arith}
use Rattle.packet.specs.declared.fault.Fault.{Fault}
use Rattle.packet.specs.declared.view.View.{View}
use Rattle.packet.proofs.Routes.{routed_is_on_route}
use Rattle.hairpin.specs.Going.{planned}
use Rattle.machine.proofs.Rising.{core-sent}
use Rattle.machine.proofs.Steps.{latest_held}
use Rattle.machine.proofs.state.State.answer_packet.Goals as goal

pub answer_going-requires-clause-read : goal.answer_going-requires-clause-read
answer_going-requires-clause-read g c =
    let is = sym c.read.ensures ∙ c.in-Ok.is in
    subst (λ (r : Result View Fault). IsOkAnd r (λ (v : View). 2 ≤ v.ttl)) (sym is) (routed_is_on_route c.self.inside.bounds c.args.iface c.in-Ok.view c.in-Ok-route.route (sym c.route.ensures ∙ c.in-Ok-route.is)).0

pub answer_going-requires-clause-planned : goal.answer_going-requires-clause-planned
answer_going-requires-clause-planned g c =
    let own = c.self.inside in
    (_, rw c.table.ensures at (c.in-Some.ensures.way own.flows.translations.external own.clock))

pub answer_going-requires-clause-latest : goal.answer_going-requires-clause-latest
answer_going-requires-clause-latest g c =
    let own = c.self.inside in
    latest_held own.bounds own.in_force.text own.in_force.rules own.clock own.clock own.flows.table.held c.self.invariant.sound (omega arith)

pub invariant_of-self : goal.invariant_of-self
invariant_of-self g c =
    let own = c.self.inside in
    core-sent own.bounds c.facts.ensures.valid own.in_force.text own.in_force.rules own.flows c.answer_going.new.flows own.clock c.self.invariant c.answer_going.ensures.external c.args.iface c.args.packet.now c.in-Ok.view c.in-Ok-route.route
    (sym c.read.ensures ∙ c.in-Ok.is) (sym c.route.ensures ∙ c.in-Ok-route.is) c.answer_going.new.packet (planned c.in-Some.going) (rw c.table.ensures at (c.in-Some.ensures.way own.flows.translations.external own.clock)) c.answer_going.result c.answer_going.ensures.ok c.answer_going.ensures.err
