use Rattle.machine.proofs.Beginnings.{out-came-in}
use Rattle.machine.proofs.laws.packets_out_came_in.Goals as goal

pub returns : goal.returns
returns c = out-came-in
