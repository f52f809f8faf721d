-- How the packets of turns are counted.
use Rattle.std.specs.Prelude.{◌≡◌, ℕ, List, [], ◌∷◌, length, map, Result, Ok, Err}
use Rattle.frames.specs.Answers.{answer_body, kind_byte}
use Rattle.gateway.specs.Told.{Told, TookAll}
use Rattle.machine.specs.Machine.{later}
use Rattle.machine.specs.declared.event.Answer.{Answer}
use Rattle.socket_edge.specs.declared.fault.EdgeFault.{EdgeFault}
use Rattle.to_devices.specs.Counting.{AreCounted}
use Rattle.to_devices.specs.Replies.{Reply}
use Rattle.to_devices.specs.declared.counts.Counts.{Counts}
use Rattle.carrying.specs.Turns.{Turn, events_of, gathered_to_lan, ungathered}

-- a carrier: its latest moment, in seconds, and how many packets there were
pub record Carrying : Type 0 where
  pub told : ℕ
  pub counts : Counts

-- what is counted of a numbered answer
abbrev pub reply_of : ℕ × Answer → Reply
reply_of a = record { kind = kind_byte a.1; number = a.0; body = answer_body a.1 }

-- how many events of a turn stand before those of wan's packets
abbrev pub before_wan : ℕ → Turn → ℕ
before_wan last turn = length (gathered_to_lan turn (ungathered last)).headers

-- The answers to the events of a turn were counted, in order, each once.
abbrev pub CountsTurn : ℕ → Turn → Told → Told → Counts → Counts → Type 0
CountsTurn last turn told told' counts counts' = (answered : List (ℕ × Answer))
    × TookAll told told' (events_of last turn) answered
    × AreCounted (before_wan last turn) 0 (map reply_of answered) counts counts'

-- behind a turn that failed nothing is counted
abbrev pub CountsIfOk : Result (Unit {0}) EdgeFault → ℕ → Turn → Told → Told → Counts → Counts → Type 0
CountsIfOk (Ok done) last turn told told' counts counts' = CountsTurn last turn told told' counts counts'
CountsIfOk (Err fault) last turn told told' counts counts' = counts' ≡ counts

-- of turns, one after the other
abbrev pub CountsTurns : ℕ → List Turn → Told → Told → Counts → Counts → Type 0
CountsTurns last [] told told' counts counts' = (told' ≡ told) × (counts' ≡ counts)
CountsTurns last (turn ∷ turns) told told' counts counts' = (now : Told) × (between : Counts)
    × CountsTurn last turn told now counts between
    × CountsTurns (later last turn.moment) turns now told' between counts'
