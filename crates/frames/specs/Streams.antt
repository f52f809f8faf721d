-- Streams in the words of the format: whole frames, and then an end.
use Rattle.std.specs.Prelude.{◌≡◌, ◌≢◌, ◌<◌, ◌≤◌, ◌^◌, ◌==◌, ◌||◌, ◌&&◌, ◌⊎◌, ℕ, List, [], ◌∷◌, ◌++◌, length, Option, Some, None, not, nat_lt, if◌then◌else◌}
use Rattle.std.specs.List.{flat_map, AllByRecursion}
use Rattle.byteorder.specs.Endian.{big_bytes}
use Rattle.rulesyntax.specs.Text.{greatest_length}
use Rattle.machine.specs.declared.event.Event.{Event}
use Rattle.machine.specs.declared.event.What.{What}
use Rattle.machine.specs.declared.event.What.TheVariants as what
use Rattle.frames.specs.declared.fault.HeaderFault.{HeaderFault}
use Rattle.frames.specs.declared.fault.HeaderFault.TheVariants.{BadKind, BadInterface, TooLong}
use Rattle.frames.specs.Answers.{iface_byte}
use Rattle.frames.specs.Framing.{Remainder, Rest, Fault, EventsAndRest}

-- 1 packet, 2 load, 3 moment
abbrev pub kind_of : What → ℕ
kind_of (what.Packet iface packet) = 1
kind_of (what.Load text) = 2
kind_of what.Moment = 3

abbrev pub interface_of : What → ℕ
interface_of (what.Packet iface packet) = iface_byte iface
interface_of (what.Load text) = 0
interface_of what.Moment = 0

abbrev pub request_body : What → List ℕ
request_body (what.Packet iface packet) = packet
request_body (what.Load text) = text
request_body what.Moment = []

-- the greatest length of a body of this kind
abbrev pub longest_body : ℕ → ℕ
longest_body kind = if kind == 1 then 65535 else if kind == 2 then greatest_length else 0

-- kind, interface, length of the body, moment: 14 bytes
abbrev pub header : ℕ → ℕ → ℕ → ℕ → List ℕ
header kind iface len moment = kind ∷ iface ∷ big_bytes 4 len ++ big_bytes 8 moment

-- the frame of an event
abbrev pub request : Event → List ℕ
request event = header (kind_of event.what) (interface_of event.what)
    (length (request_body event.what)) event.moment ++ request_body event.what

-- a frame can carry the event
pub record FitsFrame (event : Event) : Type 0 where
  pub moment : event.moment < 2 ^ 64
  pub body : length (request_body event.what) ≤ longest_body (kind_of event.what)

-- fewer bytes than a header has, or a frame that lacks some of its end
abbrev pub IsNoFrame : List ℕ → Type 0
IsNoFrame rest = (length rest < 14)
    ⊎ ((event : Event) × (lacking : List ℕ) × FitsFrame event × (lacking ≢ [])
    × (rest ++ lacking ≡ request event))

-- a header's first fault
unfoldable pub header_fault : ℕ → ℕ → ℕ → Option HeaderFault
header_fault kind iface len =
    if not (kind == 1 || kind == 2 || kind == 3) then Some BadKind
    else if not (iface == 0 || kind == 1 && iface == 1) then Some BadInterface
    else if nat_lt (longest_body kind) len then Some TooLong
    else None

-- bytes that begin with a header of this fault
pub record IsFaulty (fault : HeaderFault) (bytes : List ℕ) : Type 0 where
  pub kind : ℕ
  pub iface : ℕ
  pub len : ℕ
  pub moment : ℕ
  pub more : List ℕ
  pub bytes_are : bytes ≡ header kind iface len moment ++ more
  pub fits : len < 2 ^ 32
  pub faulty : header_fault kind iface len ≡ Some fault

-- what stands behind the whole frames
abbrev pub Ending : List ℕ → Remainder → Type 0
Ending tail (Rest rest) = (tail ≡ rest) × IsNoFrame rest
Ending tail (Fault fault) = IsFaulty fault tail

-- the bytes are the frames of these events, and then this end
pub record IsStream (bytes : List ℕ) (framed : EventsAndRest) : Type 0 where
  pub fit : AllByRecursion FitsFrame framed.events
  pub tail : List ℕ
  pub bytes_are : bytes ≡ flat_map request framed.events ++ tail
  pub ending : Ending tail framed.remainder
