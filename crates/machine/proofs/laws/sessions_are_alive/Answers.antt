use Rattle.machine.proofs.Lasting.{step-alive}
use Rattle.machine.proofs.laws.sessions_are_alive.Goals as goal

pub returns : goal.returns
returns c = λ config s judged t is_one sound is. step-alive config is_one s judged t sound is
