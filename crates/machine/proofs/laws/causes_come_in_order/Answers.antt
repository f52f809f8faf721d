use Rattle.machine.proofs.Answered.{causes-in-order}
use Rattle.machine.proofs.laws.causes_come_in_order.Goals as goal

pub returns : goal.returns
returns c = causes-in-order
