-- What a run does.
use Rattle.std.specs.Prelude.{◌≡◌, ◌≢◌, ◌⊎◌, ◌≤◌, ◌+◌, ◌-◌, ◌^◌, ℕ, List, [], ◌∷◌, ◌++◌, length, take, false, true, Result, Ok, Err}
use Rattle.packet.specs.Laws.{AreBytes}
use Rattle.packet.specs.declared.endpoint.Iface.{Iface}
use Rattle.machine.specs.declared.event.What.TheVariants.{Packet}
use Rattle.disk_model.specs.Disk.{Files, Grew, LeavesNow, LeavesOnly}
use Rattle.durable.specs.Recovery.{IsConfigured}
use Rattle.machine.specs.Judged.{Judged, AreJudged}
use Rattle.machine.specs.declared.event.Event.{Event}
use Rattle.frames.specs.declared.fault.HeaderFault.TheVariants as header_fault
use Rattle.frames.specs.Framing.{Remainder, Rest, Fault, whole_frames}
use Rattle.frames.specs.Answers.{frames}
use Rattle.gateway.specs.Told.{Told}
use Rattle.gateway.specs.Kept.{Kept, IsAtRest, IsSafe}
use Rattle.gateway.specs.Running.{IsWhy}
use Rattle.socket_edge.specs.declared.fault.EdgeFault.{EdgeFault}
use Rattle.socket_edge.specs.declared.fault.EdgeFault.TheVariants.{BadKind, BadInterface, TooLong, Truncated, Input, Output, Gateway}
use Rattle.socket_edge.specs.Progress.{replies, Progress, Reached, AnsweredFirst, BeginsFrames}
use Rattle.socket_edge.specs.Turns.{Turn, Gave, ReadFailed, AllPass, Asks, LastIs, LastTookNone, given, taken, times_asked}

-- the events of the bytes
abbrev pub events_in : List ℕ → List Event
events_in bytes = (whole_frames bytes).events

-- what is left behind them, or the fault of the header that stands there
abbrev pub remainder_of : List ℕ → Remainder
remainder_of bytes = (whole_frames bytes).remainder

-- of bytes, the packet of each event is bytes too
abbrev pub PacketsAreBytes : Type 0
PacketsAreBytes = (bytes : List ℕ) (before : List Event) (event : Event) (after : List Event)
    (iface : Iface) (packet : List ℕ) → AreBytes bytes
    → events_in bytes ≡ before ++ event ∷ after
    → event.what ≡ Packet iface packet → AreBytes packet

-- The events of the bytes were taken. Where nothing was held before, all of them are answered by the bytes sent, and
-- nothing is held.
pub record Answered (old new : Told) (bytes sent : List ℕ) : Type 0 where
  pub progress : Progress old new (events_in bytes) [] sent
  pub none : old.held ≡ [] → new.held ≡ []
  pub all : old.held ≡ [] → sent ≡ frames (replies old progress.took.judged)

-- These bytes were sent for these, all whole frames of which are answered, and no faulty header stands behind them.
abbrev pub MayGoOn : Told → List ℕ → List ℕ → Type 0
MayGoOn old bytes sent = (now : Told) × Answered old now bytes sent
    × ((rest : List ℕ) × (remainder_of bytes ≡ Rest rest))

-- Each time that the peer was asked for more, what it had taken by then answered all whole frames that it had given by
-- then, if nothing was held before; and none that it had given is faulty.
abbrev pub AnswersFirst : Told → List Turn → Type 0
AnswersFirst old turns = (before : List Turn) (turn : Turn) (after : List Turn)
    → turns ≡ before ++ turn ∷ after → Asks turn → MayGoOn old (given before) (taken before)

-- what a fault says of the bytes that were read and sent; `at_end` is that the input has ended
abbrev pub EndsBy : EdgeFault → Told → Told → List ℕ → List ℕ → Type 0 → Type 0
EndsBy BadKind old new bytes sent at_end = (remainder_of bytes ≡ Fault header_fault.BadKind)
    × Answered old new bytes sent
EndsBy BadInterface old new bytes sent at_end =
    (remainder_of bytes ≡ Fault header_fault.BadInterface) × Answered old new bytes sent
EndsBy TooLong old new bytes sent at_end = (remainder_of bytes ≡ Fault header_fault.TooLong)
    × Answered old new bytes sent
EndsBy Truncated old new bytes sent at_end = (rest : List ℕ)
    × (remainder_of bytes ≡ Rest rest) × (rest ≢ [])
    × Answered old new bytes sent × at_end
EndsBy Input old new bytes sent at_end = Answered old new bytes sent
EndsBy Output old new bytes sent at_end = BeginsFrames old new (events_in bytes) sent
EndsBy (Gateway fault) old new bytes sent at_end =
    AnsweredFirst old new (events_in bytes) sent

-- all was read and answered, and it was whole frames
pub record AllAnswered (count : ℕ) (old new : Told) (bytes sent : List ℕ)
    (at_end : Type 0) : Type 0 where
  pub answered : Answered old new bytes sent
  pub whole : remainder_of bytes ≡ Rest []
  pub count_is : count ≡ length (events_in bytes)
  pub ended : at_end

-- how a run ended
abbrev pub RunEnded : Result ℕ EdgeFault → Told → Told → List ℕ → List ℕ → Type 0 → Type 0
RunEnded (Ok count) old new bytes sent at_end = AllAnswered count old new bytes sent at_end
RunEnded (Err fault) old new bytes sent at_end = EndsBy fault old new bytes sent at_end

-- By which turn a run ended with this fault. Truncated: a read gave nothing. Input: a read failed. Output: a write
-- failed, or took nothing. Bytes went at each turn before, and with any other fault at each.
abbrev pub LastTurn : EdgeFault → List Turn → Type 0
LastTurn BadKind turns = AllPass turns
LastTurn BadInterface turns = AllPass turns
LastTurn TooLong turns = AllPass turns
LastTurn Truncated turns = LastIs (Gave []) turns
LastTurn Input turns = LastIs ReadFailed turns
LastTurn Output turns = LastTookNone turns
LastTurn (Gateway fault) turns = AllPass turns

-- By which turn a run ended. If it ended well, a read gave nothing. Input comes too behind 2^64 - 1 reads that each
-- gave some.
abbrev pub TurnsEnd : Result ℕ EdgeFault → List Turn → Type 0
TurnsEnd (Ok count) turns = LastIs (Gave []) turns
TurnsEnd (Err fault) turns = LastTurn fault turns
    ⊎ ((fault ≡ Input) × AllPass turns × (times_asked turns ≡ 2 ^ 64 - 1))

module _ {D : Type 0} (honest : D → Type 0) (moment : D → ℕ) (left : D → ℕ → Files → Type 0)
    (old new : Kept D) where
  -- Of an honest disk, where nothing was held at the entry. The first of the events were taken, and a beginning of
  -- their answers' frames was sent.
  pub record Outlives (events : List Event) (sent : List ℕ) : Type 0 where
    pub front : List Event
    pub back : List Event
    pub split : events ≡ front ++ back
    pub judged : List Judged
    pub are_judged : AreJudged old.told.config front judged
    pub reached : Reached old.told new.told judged
    pub unsent : List ℕ
    pub begins : sent ++ unsent ≡ frames (replies old.told judged)
    -- A crash at any moment since the entry leaves what the model has after a beginning of them.
    pub any_moment : LeavesOnly moment left old.disk new.disk
        (IsSafe old.told.config old.told.state front 0)
    -- A crash now leaves what it has after one that holds each event whose frame lies whole in what was sent.
    pub at_exit : (n : ℕ) → n ≤ length front
        → length (frames (take n (replies old.told judged))) ≤ length sent
        → LeavesNow moment left new.disk (IsSafe old.told.config old.told.state front n)

  -- how the files fare while such events are taken, and such bytes sent
  pub record Fares (events : List Event) (sent : List ℕ) : Type 0 where
    pub was_honest : honest new.disk → honest old.disk
    pub stays_honest : new.fallen ≡ false → honest old.disk → honest new.disk
    pub configured : honest old.disk → old.fallen ≡ false
        → LeavesOnly moment left old.disk new.disk (IsConfigured old.told.config)
    pub outlives : IsAtRest honest old → Outlives events sent
    -- unless a call of the disk has failed, nothing is held behind it
    pub none : old.told.held ≡ [] → new.fallen ≡ false → new.told.held ≡ []

module _ {D : Type 0} (honest : D → Type 0) (moment : D → ℕ) (left : D → ℕ → Files → Type 0)
    (old now later : Kept D) where
  -- A crash since the gateway was `now`, and before it was `later`, leaves what the model has after a beginning of the
  -- events that were taken by then, which holds each event whose answer's frame lies whole in these bytes.
  pub record Preserves (events : List Event) (sent : List ℕ) : Type 0 where
    pub front : List Event
    pub back : List Event
    pub split : events ≡ front ++ back
    pub judged : List Judged
    pub are_judged : AreJudged old.told.config front judged
    pub reached : Reached old.told later.told judged
    -- these bytes are a beginning of the frames of their answers
    pub unsent : List ℕ
    pub begins : sent ++ unsent ≡ frames (replies old.told judged)
    pub since : (n : ℕ) → n ≤ length front
        → length (frames (take n (replies old.told judged))) ≤ length sent
        → LeavesOnly moment left now.disk later.disk
        (IsSafe old.told.config old.told.state front n)
    pub configured : LeavesOnly moment left now.disk later.disk (IsConfigured old.told.config)

  -- A run came by `now`: it had taken the first of the events so far, and these bytes, which were sent by then or with
  -- the turn that began then, are a beginning of their answers' frames. Then it came by `later`, when it had taken the
  -- first of these events. Of an honest disk, where nothing was held at the entry, no crash between the two loses what
  -- the bytes answer.
  pub record ComesBy (so_far events : List Event) (sent : List ℕ) : Type 0 where
    pub until : Fares honest moment left old now so_far sent
    pub since : IsAtRest honest old → Preserves events sent

module _ {D : Type 0} (honest : D → Type 0) (moment : D → ℕ) (left : D → ℕ → Files → Type 0)
    (old new : Kept D) where
  -- By which gateways a run came from turn to turn.
  pub record AtEachTurn (turns : List Turn) : Type 0 where
    -- the gateway when these of the turns had gone, and the next one began, or the run ended
    pub by : List Turn → Kept D
    pub first : by [] ≡ old
    pub last : by turns ≡ new
    -- As a turn begins, the first of the events are taken that were given before it. What the peer has taken by its end
    -- is a beginning of their answers' frames. A crash since it began, up to the next turn or the end, loses nothing that
    -- these answer, and leaves nothing of an event that is given later.
    pub each : (before : List Turn) (turn : Turn) (after : List Turn)
        → turns ≡ before ++ turn ∷ after
        → ComesBy honest moment left old (by before) (by (before ++ turn ∷ []))
        (events_in (given before)) (events_in (given (before ++ turn ∷ [])))
        (taken (before ++ turn ∷ []))

module _ {D : Type 0} (failed : D → ℕ) (old new : Kept D) where
  -- no call of the disk has failed, and the gateway stands
  abbrev pub NoneFailed : Type 0
  NoneFailed = (new.fallen ≡ false) × (failed new.disk ≡ failed old.disk)

  -- The gateway has fallen exactly if a call of the disk has failed, and then no other one followed.
  pub record FallsByAFailure : Type 0 where
    pub no_failure : new.fallen ≡ false → failed new.disk ≡ failed old.disk
    pub device : new.fallen ≡ true → Grew (failed old.disk) (failed new.disk)
    pub by_one : failed new.disk ≤ failed old.disk + 1

module _ {D : Type 0} (honest : D → Type 0) (moment : D → ℕ) (left : D → ℕ → Files → Type 0)
    (failed : D → ℕ) where
  -- Why a run ended, that a gateway which stood began. If what was read, or a failed read, has ended it, no call of the
  -- disk has failed. If a failed write has, one may have, and then the gateway has fallen by it. A fault of the gateway
  -- has its cause, and unless the gateway has fallen, no call of the disk has failed.
  abbrev pub Explains : EdgeFault → Kept D → Kept D → Type 0
  Explains BadKind old new = NoneFailed failed old new
  Explains BadInterface old new = NoneFailed failed old new
  Explains TooLong old new = NoneFailed failed old new
  Explains Truncated old new = NoneFailed failed old new
  Explains Input old new = NoneFailed failed old new
  Explains Output old new = FallsByAFailure failed old new
  Explains (Gateway fault) old new = IsWhy honest moment left failed old new fault
      × (new.fallen ≡ false → failed new.disk ≡ failed old.disk)
