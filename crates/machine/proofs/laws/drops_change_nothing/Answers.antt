use Rattle.machine.proofs.Lasting.{step-dropped}
use Rattle.machine.proofs.laws.drops_change_nothing.Goals as goal

pub returns : goal.returns
returns c = λ config s judged number is_one sound e. step-dropped config is_one s judged number sound e
