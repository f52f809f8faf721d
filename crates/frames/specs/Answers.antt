-- Answer frames.
use Rattle.std.specs.Prelude.{ℕ, List, [], ◌∷◌, ◌++◌, length}
use Rattle.std.specs.List.{flat_map}
use Rattle.byteorder.specs.Endian.{big_bytes}
use Rattle.packet.specs.declared.endpoint.Iface.{Iface}
use Rattle.packet.specs.declared.endpoint.Iface.TheVariants.{Lan, Wan}
use Rattle.machine.specs.declared.event.Answer.{Answer}
use Rattle.machine.specs.declared.event.Answer.TheVariants as answer

abbrev pub iface_byte : Iface → ℕ
iface_byte Lan = 0
iface_byte Wan = 1

abbrev pub kind_byte : Answer → ℕ
kind_byte (answer.Forward iface packet) = 1
kind_byte (answer.Dropped n) = 2
kind_byte answer.Loaded = 3
kind_byte answer.Refused = 4
kind_byte answer.Ticked = 5

abbrev pub answer_body : Answer → List ℕ
answer_body (answer.Forward iface packet) = iface_byte iface ∷ packet
answer_body (answer.Dropped n) = n ∷ []
answer_body answer.Loaded = []
answer_body answer.Refused = []
answer_body answer.Ticked = []

-- what stands in a frame before its body: kind, number, length of the body
abbrev pub frame_head : ℕ × Answer → List ℕ
frame_head p = kind_byte p.1 ∷ big_bytes 8 p.0 ++ big_bytes 4 (length (answer_body p.1))

-- the frame of an event's number and answer
unfoldable pub frame : ℕ × Answer → List ℕ
frame p = frame_head p ++ answer_body p.1

abbrev pub frames : List (ℕ × Answer) → List ℕ
frames answers = flat_map frame answers
