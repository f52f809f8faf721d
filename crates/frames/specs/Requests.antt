-- A request at the front of the bytes: a header of 14 bytes (kind, interface, length of the body, moment), and the
-- body.
use Rattle.std.specs.Prelude.{◌≡◌, ◌≤◌, ℕ, ◌+◌, ◌-◌, List, length, take, drop, slice_index, Result, Ok, Err, nat_lt, ◌==◌, if◌then◌else◌}
use Rattle.byteorder.specs.Endian.{big_number}
use Rattle.packet.specs.declared.endpoint.Iface.TheVariants.{Lan, Wan}
use Rattle.rulesyntax.specs.Text.{greatest_length}
use Rattle.machine.specs.declared.event.Event.{Event}
use Rattle.machine.specs.declared.event.What.{What}
use Rattle.machine.specs.declared.event.What.TheVariants as what
use Rattle.frames.specs.declared.fault.HeaderFault.{HeaderFault}
use Rattle.frames.specs.declared.fault.HeaderFault.TheVariants.{BadKind, BadInterface, TooLong}
use Rattle.frames.specs.declared.request.Kind.{Kind}
use Rattle.frames.specs.declared.request.Kind.TheVariants as kind
use Rattle.frames.specs.declared.request.Head.{Head}
use Rattle.frames.specs.declared.request.Head.TheVariants as head
use Rattle.frames.specs.declared.request.Front.{Front}
use Rattle.frames.specs.declared.request.Front.TheVariants as front

-- a kind that has no interface: its byte is 0
abbrev pub without_interface : ℕ → Kind → Result Kind HeaderFault
without_interface iface k = if iface == 0 then Ok k else Err BadInterface

-- what a kind and an interface announce
abbrev pub announced : ℕ → ℕ → Result Kind HeaderFault
announced k iface =
    if k == 1 then (if iface == 0 then Ok (kind.Packet Lan)
    else if iface == 1 then Ok (kind.Packet Wan) else Err BadInterface)
    else if k == 2 then without_interface iface kind.Load
    else if k == 3 then without_interface iface kind.Moment
    else Err BadKind

-- the greatest length of a body
abbrev pub longest : Kind → ℕ
longest (kind.Packet iface) = 65535
longest kind.Load = greatest_length
longest kind.Moment = 0

-- the first fault of kind, interface and length, or the header
abbrev pub head_with : Result Kind HeaderFault → ℕ → ℕ → Head
head_with (Err fault) len moment = head.Bad fault
head_with (Ok k) len moment =
    if nat_lt (longest k) len then head.Bad TooLong
    else head.Frame k moment len

-- the header at the front, tested once its 14 bytes are there; numbers stand with the highest byte first
unfoldable pub head_of : List ℕ → Head
head_of bytes = if nat_lt (length bytes) 14 then head.Cut
    else head_with (announced (slice_index bytes 0) (slice_index bytes 1))
    (big_number 4 (drop 2 bytes)) (big_number 8 (drop 6 bytes))

abbrev pub what_of : Kind → List ℕ → What
what_of (kind.Packet iface) body = what.Packet iface body
what_of kind.Load body = what.Load body
what_of kind.Moment body = what.Moment

-- what stands at the front: a whole frame and the rest, less than a frame, or a faulty header
pub data Next : Type 0 where
  Whole : Event → List ℕ → Next
  Cut : Next
  Bad : HeaderFault → Next

abbrev pub with_body : Head → List ℕ → Next
with_body head.Cut bytes = Cut
with_body (head.Bad fault) bytes = Bad fault
with_body (head.Frame k moment len) bytes = if nat_lt (length bytes) (14 + len) then Cut
    else Whole (record {
      moment = moment;
      what = what_of k (take len (drop 14 bytes));
    }) (drop (14 + len) bytes)

unfoldable pub next : List ℕ → Next
next bytes = with_body (head_of bytes) bytes

-- what was read is what stands at the front; a whole frame is told by its kind, its moment and its length
abbrev pub IsFront : Front → List ℕ → Type 0
IsFront front.Cut bytes = next bytes ≡ Cut
IsFront (front.Bad fault) bytes = next bytes ≡ Bad fault
IsFront (front.Whole k moment size) bytes = (next bytes ≡ Whole (record {
  moment = moment;
  what = what_of k (take (size - 14) (drop 14 bytes));
}) (drop size bytes)) × (14 ≤ size) × (size ≤ length bytes) × (size ≤ 14 + longest k)
