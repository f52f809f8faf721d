use Rattle.machine.proofs.Lived.{living-stay}
use Rattle.machine.proofs.laws.living_sessions_stay.Goals as goal

pub returns : goal.returns
returns c = living-stay
