use Rattle.std.proofs.Common.{arith}
use Rattle.machine.proofs.Costs.{cost-end}
use Rattle.machine.proofs.flows.Flows.end_noted.Goals as goal

pub note-requires-clause-room : goal.note-requires-clause-room
note-requires-clause-room g c = λ keeps. let few = cost-end c.flow_of.result in omega (arith, few, c.requires.room keeps)

pub returns-in-Some-clause-room : goal.returns-in-Some-clause-room
returns-in-Some-clause-room g c = λ keeps. let few = cost-end c.flow_of.result in omega (arith, few, c.note.ensures.room keeps)
