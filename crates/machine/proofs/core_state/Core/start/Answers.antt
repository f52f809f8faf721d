use Rattle.std.proofs.Common.{◌∙◌}
use Rattle.machine.proofs.Steps.{begins, started}
use Rattle.machine.proofs.core_state.Core.start.Goals as goal

pub invariant_of-state : goal.invariant_of-state
invariant_of-state c = started c.args.bounds c.of.result c.none.result c.in-Ok.flows c.args.moment (c.in-Ok.ensures.external ∙ c.external.ensures) (c.of.ensures ∙ c.new-in-Ok.ensures.items) c.none.ensures c.in-Ok.ensures.none

pub returns-in-Ok : goal.returns-in-Ok
returns-in-Ok c = begins c.args.bounds c.of.result c.none.result c.in-Ok.flows.table.held c.args.moment (c.of.ensures ∙ c.new-in-Ok.ensures.items) c.none.ensures c.in-Ok.ensures.none
