use Rattle.machine.proofs.Passing.{comes-in}
use Rattle.machine.proofs.laws.answers_come_in.Goals as goal

pub returns : goal.returns
returns c = λ config s judged bytes view t sound is lives came has lets. comes-in config s judged bytes view sound t is lives came has lets
