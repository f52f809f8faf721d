use Rattle.machine.proofs.Soundness.{start-sound}
use Rattle.machine.proofs.laws.start_is_sound.Goals as goal

pub returns : goal.returns
returns c = start-sound
