use Rattle.entries.proofs.Pinned.{pinned-nothing, pinned-restart, pinned-seen}
use Rattle.entries.proofs.laws.packets_are_told.Goals as goal

pub returns : goal.returns
returns c = λ config ss s sender flags now sound is. record {
  anew = pinned-restart ss sound.rises s is sender flags now;
  nothing = pinned-nothing ss sound.rises s is sender flags now;
  seen = pinned-seen ss sound.rises s is sender flags now;
}
