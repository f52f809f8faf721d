use Rattle.machine.proofs.Lasting.{step-refuses}
use Rattle.machine.proofs.laws.refusals_change_nothing.Goals as goal

pub returns : goal.returns
returns c = step-refuses
