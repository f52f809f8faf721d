use Rattle.entries.proofs.Again.{restart-there}
use Rattle.entries.proofs.laws.restarts_are_there.Goals as goal

pub returns : goal.returns
returns c = restart-there
