use Rattle.machine.proofs.Pooling.{stranger-drops}
use Rattle.machine.proofs.laws.strangers_are_filtered.Goals as goal

pub returns : goal.returns
returns c = stranger-drops
