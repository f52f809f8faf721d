use Rattle.machine.proofs.Pooling.{passed-over}
use Rattle.machine.proofs.laws.full_addresses_are_passed_over.Goals as goal

pub returns : goal.returns
returns c = passed-over
