use Rattle.machine.proofs.Bounded.{left-to-pool}
use Rattle.machine.proofs.laws.only_translations_move_hosts.Goals as goal

pub returns : goal.returns
returns c = left-to-pool
