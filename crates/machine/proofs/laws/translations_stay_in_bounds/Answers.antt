use Rattle.machine.proofs.Bounded.{bounds-kept}
use Rattle.machine.proofs.laws.translations_stay_in_bounds.Goals as goal

pub returns : goal.returns
returns c = bounds-kept
