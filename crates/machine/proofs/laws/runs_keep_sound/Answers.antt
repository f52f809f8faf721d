use Rattle.machine.proofs.Soundness.{run-sound}
use Rattle.machine.proofs.laws.runs_keep_sound.Goals as goal

pub returns : goal.returns
returns c = λ config s events judged is_one are sound. run-sound config is_one s events judged are sound
