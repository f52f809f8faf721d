use Rattle.machine.proofs.Soundness.{step-sound}
use Rattle.machine.proofs.laws.steps_keep_sound.Goals as goal

pub returns : goal.returns
returns c = λ config s event judged is_one is sound. step-sound config is_one s judged is.right sound
