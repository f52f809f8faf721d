use Rattle.machine.proofs.Lasting.{step-takes}
use Rattle.machine.proofs.laws.loads_take_force.Goals as goal

pub returns : goal.returns
returns c = step-takes
