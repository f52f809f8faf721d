use Rattle.machine.proofs.Pooling.{known-let-in}
use Rattle.machine.proofs.laws.known_addresses_are_let_in.Goals as goal

pub returns : goal.returns
returns c = known-let-in
