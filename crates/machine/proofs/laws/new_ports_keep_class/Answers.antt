use Rattle.machine.proofs.Pooling.{class-kept}
use Rattle.machine.proofs.laws.new_ports_keep_class.Goals as goal

pub returns : goal.returns
returns c = class-kept
