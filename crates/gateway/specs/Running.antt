-- How far a run of events has come, against where it began.
use Rattle.std.specs.Prelude.{◌≡◌, ◌≢◌, ◌↔◌, ℕ, ◌+◌, ◌-◌, ◌^◌, ◌<◌, ◌≤◌, List, [], ◌++◌, length, true, false}
use Rattle.disk_model.specs.Disk.{Files, LeavesNow, LeavesOnly, Grew}
use Rattle.durable.specs.Entering.{Durable}
use Rattle.durable.specs.Recovery.{IsConfigured, Recovers}
use Rattle.machine.specs.Judged.{Judged, AreJudged}
use Rattle.machine.specs.declared.event.Answer.{Answer}
use Rattle.machine.specs.declared.event.Event.{Event}
use Rattle.gateway.specs.Told.{TookAll}
use Rattle.gateway.specs.declared.fault.GatewayFault.{GatewayFault}
use Rattle.gateway.specs.declared.fault.GatewayFault.TheVariants as gateway_fault
use Rattle.gateway.specs.Kept.{Kept, IsAtRest, IsSafe}
use Rattle.gateway.specs.Standing.{Standing, StandsFor}

-- between calls: what the files stand for, the present state, and how many answers are held
abbrev pub standing : {D : Type 0} → Durable → Kept D → Standing
standing d g = record { durable = d; state = g.told.state; held = length g.told.held }

module _ {D : Type 0} (honest : D → Type 0) (moment : D → ℕ) (left : D → ℕ → Files → Type 0)
    (failed : D → ℕ)
    (start now : Kept D) where
  -- What the files stand for, whatever a crash leaves now, and the present state are the model's after these events.
  pub record AgreesWithModel (events : List Event) : Type 0 where
    pub durable : Durable
    pub leaves : LeavesNow moment left now.disk (λ files. Recovers files durable)
    pub judged : List Judged
    pub are_judged : AreJudged start.told.config events judged
    pub stands_for : StandsFor start.told.config start.told.state judged (standing durable now)

  -- The events were taken, and a crash at any moment since the start leaves what the model has after a beginning of
  -- them.
  pub record Ran (events : List Event) (out : List (ℕ × Answer)) : Type 0 where
    pub took : TookAll start.told now.told events out
    pub stood : start.fallen ≡ false
    pub was_honest : honest now.disk → honest start.disk
    pub stays_honest : now.fallen ≡ false → honest start.disk → honest now.disk
    pub any_moment : IsAtRest honest start
        → LeavesOnly moment left start.disk now.disk
        (IsSafe start.told.config start.told.state events 0)
    pub configured : honest start.disk
        → LeavesOnly moment left start.disk now.disk (IsConfigured start.told.config)

  -- it has come through these events, and no call of the disk has failed
  pub record Stands (events : List Event) (out : List (ℕ × Answer)) : Type 0 where
    pub ran : Ran events out
    pub stands : now.fallen ≡ false
    pub no_failure : failed now.disk ≡ failed start.disk
    pub rests : IsAtRest honest start → AgreesWithModel events

  -- it ends behind these events: a crash now leaves a beginning that holds those whose answers were handed out
  pub record Ends (events : List Event) (out : List (ℕ × Answer)) : Type 0 where
    pub ran : Ran events out
    pub at_exit : IsAtRest honest start
        → LeavesNow moment left now.disk
        (IsSafe start.told.config start.told.state events (length out))

  -- why a run ends that stood at its start
  pub record IsWhy (why : GatewayFault) : Type 0 where
    pub stood : why ≢ gateway_fault.Reopen
    pub made_room : (why ≢ gateway_fault.HeldFull) × (why ≢ gateway_fault.Full)
    pub numbers_out : why ≡ gateway_fault.NumbersOut → now.told.last ≡ 2 ^ 64 - 1
    pub fell : (why ≡ gateway_fault.Device) ↔ (now.fallen ≡ true)
    pub device : why ≡ gateway_fault.Device → Grew (failed start.disk) (failed now.disk)
    -- no call of the disk followed one that failed, since that one might have failed too
    pub by_one : failed now.disk ≤ failed start.disk + 1
    pub generations : why ≡ gateway_fault.Generations → now.generation ≡ 2 ^ 64 - 1

  -- it ends behind these events, with a fault
  pub record Stops (events : List Event) (out : List (ℕ × Answer))
      (why : GatewayFault) : Type 0 where
    pub ends : Ends events out
    pub is_why : IsWhy why
    -- where no call of the disk failed, it stands as before, and may go on
    pub stays : why ≢ gateway_fault.Device → Stands events out

  -- it ends behind the first of these events, with a fault, and takes none behind them
  pub record StopsWithin (events : List Event) (out : List (ℕ × Answer))
      (why : GatewayFault) : Type 0 where
    pub front : List Event
    pub back : List Event
    pub split : events ≡ front ++ back
    pub stops : Stops front out why

module _ {D : Type 0} (honest : D → Type 0) (moment : D → ℕ) (left : D → ℕ → Files → Type 0)
    (failed : D → ℕ)
    (old new : Kept D) where
  -- Each run that stood at `old` with the answers `before` handed out stands at `new`, behind the events `more` too,
  -- with `out` handed out.
  abbrev pub CarriesOn : List Event → List (ℕ × Answer) → List (ℕ × Answer) → Type 0
  CarriesOn more before out =
      (start : Kept D) (events : List Event)
      → Stands honest moment left failed start old events before
      → Stands honest moment left failed start new (events ++ more) out

  -- Each such run ends at `new`, behind a first part of `more`, with `out` handed out, and with this fault.
  abbrev pub BreaksOff : List Event → List (ℕ × Answer) → List (ℕ × Answer) → GatewayFault → Type 0
  BreaksOff more before out why =
      (start : Kept D) (events : List Event)
      → Stands honest moment left failed start old events before
      → (front back : List Event) × (more ≡ front ++ back)
      × Stops honest moment left failed start new (events ++ front) out why

  -- Each such run loses none of these answers within the call: a crash at any moment of it leaves what the model has
  -- after a beginning of the run's events, which holds those whose answers were handed out, with its configuration.
  abbrev pub SafeWithin : List (ℕ × Answer) → Type 0
  SafeWithin before =
      (start : Kept D) (events : List Event)
      → Stands honest moment left failed start old events before → IsAtRest honest start
      → LeavesOnly moment left old.disk new.disk
      (IsSafe start.told.config start.told.state events (length before))
      × LeavesOnly moment left old.disk new.disk (IsConfigured start.told.config)

  -- Nor does it within calls that take these events: then what a crash leaves may hold some of these too.
  abbrev pub SafeThrough : List Event → List (ℕ × Answer) → Type 0
  SafeThrough more before =
      (start : Kept D) (events : List Event)
      → Stands honest moment left failed start old events before → IsAtRest honest start
      → LeavesOnly moment left old.disk new.disk
      (IsSafe start.told.config start.told.state (events ++ more) (length before))
      × LeavesOnly moment left old.disk new.disk (IsConfigured start.told.config)

  -- It takes these events, which are answered so. The answers that were held and then these are handed out or held, in
  -- order; if one is held still that was held before, none is handed out.
  pub record Proceeds (events : List Event) (answers : List (ℕ × Answer)) : Type 0 where
    pub out : List (ℕ × Answer)
    pub order : out ++ new.told.held ≡ old.told.held ++ answers
    pub few : length answers < length new.told.held → out ≡ []
    pub carries : (before : List (ℕ × Answer)) → CarriesOn events before (before ++ out)

  -- It takes none of them, but may have handed out what was held.
  pub record Fails (events : List Event) (why : GatewayFault) : Type 0 where
    pub out : List (ℕ × Answer)
    pub order : out ++ new.told.held ≡ old.told.held
    pub few : new.told.held ≢ [] → out ≡ []
    pub breaks : (before : List (ℕ × Answer)) → BreaksOff events before (before ++ out) why
    pub state : new.told.state ≡ old.told.state
    pub last : new.told.last ≡ old.told.last

  -- It takes these events, and puts what it hands out behind a list.
  pub record PutsBehind (events : List Event) (list list' : List (ℕ × Answer)) : Type 0 where
    pub out : List (ℕ × Answer)
    pub behind : list' ≡ list ++ out
    pub carries : (before : List (ℕ × Answer)) → CarriesOn events before (before ++ out)

  -- It takes a first part of them, with this fault, and puts what it has handed out behind a list.
  pub record FailsBehind (events : List Event) (list list' : List (ℕ × Answer))
      (why : GatewayFault) : Type 0 where
    pub out : List (ℕ × Answer)
    pub behind : list' ≡ list ++ out
    pub breaks : (before : List (ℕ × Answer)) → BreaksOff events before (before ++ out) why
