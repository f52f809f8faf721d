use Rattle.machine.proofs.Passing.{goes-out}
use Rattle.machine.proofs.laws.sessions_go_out.Goals as goal

pub returns : goal.returns
returns c = λ config s judged bytes view t sound is lives came has lets. goes-out config s judged bytes view sound t is lives came has lets
