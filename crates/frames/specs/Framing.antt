-- The events of a stream of requests, and what stands behind them.
use Rattle.std.specs.Prelude.{ℕ, zero, suc, List, [], ◌∷◌, ◌++◌, length}
use Rattle.machine.specs.declared.event.Event.{Event}
use Rattle.frames.specs.declared.fault.HeaderFault.{HeaderFault}
use Rattle.frames.specs.Requests.{Next, Whole, Cut, Bad, next}

-- behind the whole frames: bytes that are no whole frame, or a faulty header
pub data Remainder : Type 0 where
  Rest : List ℕ → Remainder
  Fault : HeaderFault → Remainder

pub record EventsAndRest : Type 0 where
  pub events : List Event
  pub remainder : Remainder

-- with these events in front
abbrev pub with_first : List Event → EventsAndRest → EventsAndRest
with_first events f = record { events = events ++ f.events; remainder = f.remainder }

-- what stands at the front, and then what more gives of the rest
abbrev pub go_on : Next → List ℕ → (List ℕ → EventsAndRest) → EventsAndRest
go_on (Whole event rest) bytes more = with_first (event ∷ []) (more rest)
go_on Cut bytes more = record { events = []; remainder = Rest bytes }
go_on (Bad fault) bytes more = record { events = []; remainder = Fault fault }

-- of at most n frames
unfoldable pub whole_frames_within : ℕ → List ℕ → EventsAndRest
whole_frames_within zero bytes = record { events = []; remainder = Rest bytes }
whole_frames_within (suc n) bytes = go_on (next bytes) bytes (λ rest. whole_frames_within n rest)

-- the whole frames at the front; each has a byte at least, so there are no more than bytes
unfoldable pub whole_frames : List ℕ → EventsAndRest
whole_frames bytes = whole_frames_within (length bytes) bytes
