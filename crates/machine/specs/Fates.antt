-- What an event is answered that comes to this.
use Rattle.std.specs.Prelude.{ℕ, List}
use Rattle.machine.specs.declared.event.Answer.{Answer}
use Rattle.machine.specs.declared.event.Answer.TheVariants as answer
use Rattle.machine.specs.declared.event.Fate.{Fate}
use Rattle.machine.specs.declared.event.Fate.TheVariants as fate

-- the answer; a packet that leaves has these bytes then
abbrev pub answer_of : Fate → List ℕ → Answer
answer_of (fate.Leaves iface) packet = answer.Forward iface packet
answer_of (fate.Dropped cause) packet = answer.Dropped cause
answer_of fate.Loaded packet = answer.Loaded
answer_of fate.Refused packet = answer.Refused
answer_of fate.Ticked packet = answer.Ticked
