use Rattle.machine.proofs.Pooling.{step-filtered}
use Rattle.machine.proofs.laws.filtered_by_address_alone.Goals as goal

pub returns : goal.returns
returns c = step-filtered
