use Rattle.machine.proofs.Pooling.{known-alone}
use Rattle.machine.proofs.laws.only_known_addresses_come_in.Goals as goal

pub returns : goal.returns
returns c = λ config s judged bytes view passage by came passes new outside alone. known-alone config s judged bytes view passage by passes new outside alone
