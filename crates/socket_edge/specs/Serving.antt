-- What the parts of a run do. No public clause cites this module.
use Rattle.std.specs.Prelude.{◌≡◌, ℕ, List, [], ◌∷◌, ◌++◌, length, false, Result, Ok, Err}
use Rattle.disk_model.specs.Disk.{Files}
use Rattle.machine.specs.declared.event.Answer.{Answer}
use Rattle.machine.specs.declared.event.Event.{Event}
use Rattle.frames.specs.declared.fault.HeaderFault.{HeaderFault}
use Rattle.frames.specs.declared.fault.HeaderFault.TheVariants as header_fault
use Rattle.frames.specs.Requests.{Cut, Bad, next}
use Rattle.frames.specs.Framing.{with_first, whole_frames}
use Rattle.frames.specs.Answers.{frames}
use Rattle.gateway.specs.declared.fault.GatewayFault.{GatewayFault}
use Rattle.gateway.specs.Told.{Told}
use Rattle.gateway.specs.Kept.{Kept}
use Rattle.gateway.specs.Running.{Stands, Ends, IsWhy, CarriesOn, BreaksOff}
use Rattle.socket_edge.specs.declared.fault.EdgeFault.{EdgeFault}
use Rattle.socket_edge.specs.declared.fault.EdgeFault.TheVariants.{BadKind, BadInterface, TooLong, Truncated, Input, Output, Gateway}
use Rattle.socket_edge.specs.declared.serving.Halt.{Halt}
use Rattle.socket_edge.specs.declared.serving.Halt.TheVariants as halt
use Rattle.socket_edge.specs.declared.edge.ReadOutcome.{ReadOutcome}
use Rattle.socket_edge.specs.declared.edge.ReadOutcome.TheVariants as read_outcome
use Rattle.socket_edge.specs.Progress.{Progress}
use Rattle.socket_edge.specs.Turns.{Turn, Gave, ReadFailed, Took, WriteFailed, AllPass, LastIs, LastTookNone, given, taken, times_asked}
use Rattle.socket_edge.specs.Running.{AllAnswered, ComesBy, EndsBy, Fares, Explains, LastTurn, events_in}

-- the peer was asked for nothing
abbrev pub NeverAsks : List Turn → Type 0
NeverAsks [] = Unit {0}
NeverAsks (Gave bytes ∷ turns) = ⊥
NeverAsks (ReadFailed ∷ turns) = ⊥
NeverAsks (Took bytes ∷ turns) = NeverAsks turns
NeverAsks (WriteFailed ∷ turns) = NeverAsks turns

-- it was asked once at most, and before all else
abbrev pub AsksFirst : List Turn → Type 0
AsksFirst [] = Unit {0}
AsksFirst (Gave bytes ∷ turns) = NeverAsks turns
AsksFirst (ReadFailed ∷ turns) = NeverAsks turns
AsksFirst (Took bytes ∷ turns) = ⊥
AsksFirst (WriteFailed ∷ turns) = ⊥

module _ {P : Type 0} (went : P → P → List Turn → Type 0) where
  -- it was handed these bytes and took all of them, and was asked for nothing
  pub record Hands (old new : P) (bytes : List ℕ) : Type 0 where
    pub turns : List Turn
    pub goes : went old new turns
    pub unasked : NeverAsks turns
    pub takes : taken turns ≡ bytes

  -- and at each turn it took some
  pub record HandsAll (old new : P) (bytes : List ℕ) : Type 0 where
    pub turns : List Turn
    pub goes : went old new turns
    pub unasked : NeverAsks turns
    pub takes : taken turns ≡ bytes
    pub passed : AllPass turns

  -- so a beginning of the bytes, and then it took none
  pub record HandsFront (old new : P) (bytes : List ℕ) : Type 0 where
    pub written : List ℕ
    pub lost : List ℕ
    pub splits : written ++ lost ≡ bytes
    pub hands : Hands old new written
    pub last : LastTookNone hands.turns

  -- it was asked once at most, and gave these bytes; then it was handed those and took all of them
  pub record AsksOnce (old new : P) (got sent : List ℕ) : Type 0 where
    pub turns : List Turn
    pub goes : went old new turns
    pub asks : AsksFirst turns
    pub gives : given turns ≡ got
    pub takes : taken turns ≡ sent

-- the stream so far is these events, and then these bytes
pub record Reads (given : List ℕ) (events : List Event) (unanswered : List ℕ) : Type 0 where
  pub goes : (more : List ℕ) → whole_frames (given ++ more)
      ≡ with_first events (whole_frames (unanswered ++ more))

-- the whole frames at the front were answered, and these bytes are left
pub record Served (old new : Told) (bytes rest sent : List ℕ) (count : ℕ) : Type 0 where
  pub events : List Event
  pub reads : Reads bytes events rest
  pub cut : next rest ≡ Cut
  pub count_is : count ≡ length events
  pub progress : Progress old new events [] sent
  pub none : old.held ≡ [] → new.held ≡ []

-- what the frames at the front came to; no end of the input is seen here, so that the fault is never Truncated (⊥)
abbrev pub FrontCame : Result ℕ EdgeFault → Told → Told → List ℕ → List ℕ → List ℕ → Type 0
FrontCame (Ok count) old new bytes rest sent = Served old new bytes rest sent count
FrontCame (Err fault) old new bytes rest sent = EndsBy fault old new bytes sent ⊥

-- the turns by which these answers were sent
abbrev pub SentBy : Result ℕ EdgeFault → List Turn → Type 0
SentBy (Ok count) turns = AllPass turns
SentBy (Err fault) turns = LastTurn fault turns

-- the turns of one read, and of the answers to all that it made whole
abbrev pub ReadBy : Result ReadOutcome EdgeFault → List Turn → Type 0
ReadBy (Ok (read_outcome.More count)) turns = AllPass turns × (times_asked turns ≡ 1)
ReadBy (Ok read_outcome.End) turns = LastIs (Gave []) turns
ReadBy (Err fault) turns = LastTurn fault turns

-- what one read, and all that it made whole, came to
abbrev pub ReadCame : Result ReadOutcome EdgeFault → Told → Told → List ℕ → List ℕ → List ℕ → Type 0
    → Type 0
ReadCame (Ok (read_outcome.More count)) old new bytes rest sent at_end =
    Served old new bytes rest sent count
ReadCame (Ok read_outcome.End) old new bytes rest sent at_end =
    AllAnswered 0 old new bytes sent at_end
ReadCame (Err fault) old new bytes rest sent at_end = EndsBy fault old new bytes sent at_end

-- what a halt means for the run
abbrev pub end_of : Halt → Result (Unit {0}) EdgeFault
end_of halt.Cut = Ok tt
end_of (halt.Bad header_fault.BadKind) = Err BadKind
end_of (halt.Bad header_fault.BadInterface) = Err BadInterface
end_of (halt.Bad header_fault.TooLong) = Err TooLong
end_of (halt.Refused fault) = Err (Gateway fault)

module _ {D : Type 0} (honest : D → Type 0) (moment : D → ℕ) (left : D → ℕ → Files → Type 0) where
  -- Between the two the run came by one gateway, and went on as it was while it sent these answers: all was settled
  -- before, and behind them the file may have been compacted.
  pub record ComesByOne (old new : Kept D) (events : List Event) (sent : List ℕ) : Type 0 where
    pub now : Kept D
    pub comes : ComesBy honest moment left old now new events events sent

module _ {D : Type 0} (honest : D → Type 0) (moment : D → ℕ) (left : D → ℕ → Files → Type 0)
    (failed : D → ℕ) where
  -- What all whole frames at the front came to. Refused: the bytes read as these events and then `later`, and the first
  -- of the events were taken.
  abbrev pub Offered : Halt → List ℕ → List ℕ → Kept D → Kept D → List (ℕ × Answer)
      → List (ℕ × Answer) → Type 0
  Offered halt.Cut bytes rest old new before out =
      (events : List Event) × Reads bytes events rest × (next rest ≡ Cut)
      × CarriesOn honest moment left failed old new events before out
  Offered (halt.Bad fault) bytes rest old new before out =
      (events : List Event) × Reads bytes events rest × (next rest ≡ Bad fault)
      × CarriesOn honest moment left failed old new events before out
  Offered (halt.Refused fault) bytes rest old new before out =
      (events : List Event) × (later : List ℕ) × Reads bytes events later
      × BreaksOff honest moment left failed old new events before out fault

  -- the events of the frames at the front were taken, and their answers handed out; nothing is held
  pub record IsSettled (start now : Kept D) (events : List Event)
      (out : List (ℕ × Answer)) : Type 0 where
    pub stands : Stands honest moment left failed start now events out
    pub none : now.told.held ≡ []

  -- the frames at the front, behind which a header is faulty, were settled
  pub record IsBad (fault : HeaderFault) (bytes rest : List ℕ) (start now : Kept D)
      (out : List (ℕ × Answer)) : Type 0 where
    pub events : List Event
    pub reads : Reads bytes events rest
    pub bad : next rest ≡ Bad fault
    pub settled : IsSettled start now events out

  -- the gateway's fault ended it behind the first of the events
  pub record GatewayRefuses (fault : GatewayFault) (bytes : List ℕ) (start now : Kept D)
      (out : List (ℕ × Answer)) : Type 0 where
    pub front : List Event
    pub back : List Event
    pub split : events_in bytes ≡ front ++ back
    pub ends : Ends honest moment left failed start now front out
    pub is_why : IsWhy honest moment left failed start now fault
    pub no_failure : now.fallen ≡ false → failed now.disk ≡ failed start.disk
    pub none : start.told.held ≡ [] → now.fallen ≡ false → now.told.held ≡ []

  -- the frames at the front were settled, or why not
  abbrev pub Closed : Result (Unit {0}) EdgeFault → List ℕ → List ℕ → Kept D → Kept D
      → List (ℕ × Answer) → Type 0
  Closed (Ok done) bytes rest start now out =
      (events : List Event) × Reads bytes events rest × (next rest ≡ Cut)
      × IsSettled start now events out
  Closed (Err BadKind) bytes rest start now out =
      IsBad header_fault.BadKind bytes rest start now out
  Closed (Err BadInterface) bytes rest start now out =
      IsBad header_fault.BadInterface bytes rest start now out
  Closed (Err TooLong) bytes rest start now out =
      IsBad header_fault.TooLong bytes rest start now out
  Closed (Err Truncated) bytes rest start now out = ⊥
  Closed (Err Input) bytes rest start now out = ⊥
  Closed (Err Output) bytes rest start now out = ⊥
  Closed (Err (Gateway fault)) bytes rest start now out =
      GatewayRefuses fault bytes start now out

  -- all whole frames at the front were settled and their answers sent, or why not, which is never Truncated (⊥)
  abbrev pub SettledAndSent : Result ℕ EdgeFault → Kept D → Kept D → List ℕ → List ℕ
      → List (ℕ × Answer) → List ℕ → Type 0
  SettledAndSent (Ok count) old new bytes rest out sent =
      (events : List Event) × Reads bytes events rest × (next rest ≡ Cut) × (count ≡ length events)
      × IsSettled old new events out × (sent ≡ frames out)
  SettledAndSent (Err fault) old new bytes rest out sent =
      EndsBy fault old.told new.told bytes sent ⊥
      × Fares honest moment left old new (events_in bytes) sent
      × Explains honest moment left failed fault old new
