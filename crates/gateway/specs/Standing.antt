-- Between the calls of a gateway: what the two files stand for, which is the state after the answered events, and the
-- present state, which is that after all.
use Rattle.std.specs.Prelude.{◌≡◌, ◌≤◌, ◌⊎◌, ℕ, ◌+◌, ◌-◌, List, [], ◌∷◌, length, take, IsTrue}
use Rattle.packet.specs.Config.{Config, is_config}
use Rattle.durable.specs.Entering.{Durable}
use Rattle.machine.specs.Judged.{Judged, IsJudged, AreJudged}
use Rattle.machine.specs.Machine.{State, step, after}
use Rattle.machine.specs.Noted.{HasEntry, lasting}
use Rattle.machine.specs.Sound.{IsSoundState}
use Rattle.machine.specs.declared.event.Event.{Event}

-- calls that no device fault ended
pub data Call : Type 0 where
  Offered : Event → Call
  Flushed : Call
  Compacted : Call

-- what the files stand for, the present state, and how many events are held
pub record Standing : Type 0 where
  pub durable : Durable
  pub state : State
  pub held : ℕ

-- an event is taken: it is held, or answered at once where nothing is held and the event has no entry
pub record Offers (config : Config) (event : Event) (old new : Standing) : Type 0 where
  pub stays : new.durable ≡ old.durable
  pub judged : Judged
  pub is_judged : IsJudged config event judged
  pub steps : new.state ≡ (step config old.state judged).0
  pub given : (new.held ≡ old.held + 1)
      ⊎ ((old.held ≡ 0) × (new.held ≡ 0) × ¬ HasEntry config old.state judged)

-- nothing is held any longer, and the files stand for the present state
pub record Settles (old new : Standing) : Type 0 where
  pub same : new.state ≡ old.state
  pub present : new.durable ≡ lasting old.state
  pub none : new.held ≡ 0

-- a gateway is compacted where nothing is held
abbrev pub CallLeads : Config → Call → Standing → Standing → Type 0
CallLeads config (Offered event) old new = Offers config event old new
CallLeads config Flushed old new = Settles old new
CallLeads config Compacted old new = (old.held ≡ 0) × Settles old new

abbrev pub AllCallsLead : Config → List Call → Standing → Standing → Type 0
AllCallsLead config [] old new = new ≡ old
AllCallsLead config (call ∷ calls) old new = (mid : Standing) × CallLeads config call old mid
    × AllCallsLead config calls mid new

-- the events that the calls took, in order
abbrev pub events_of : List Call → List Event
events_of [] = []
events_of (Offered event ∷ calls) = event ∷ events_of calls
events_of (Flushed ∷ calls) = events_of calls
events_of (Compacted ∷ calls) = events_of calls

-- nothing is held, and the files stand for this state
abbrev pub settled_standing : State → Standing
settled_standing s = record { durable = lasting s; state = s; held = 0 }

-- the files stand for the state after the events that were answered, and the present state is that after all of them
pub record StandsFor (config : Config) (start : State) (judged : List Judged)
    (now : Standing) : Type 0 where
  pub fewer : now.held ≤ length judged
  pub answered : now.durable ≡ lasting (after config start (take (length judged - now.held) judged))
  pub all : now.state ≡ after config start judged

-- After any calls the two states are the model's after the answered events, and after all.
abbrev pub CallsStandForTheModel : Type 0
CallsStandForTheModel =
    (config : Config) (start : State) (calls : List Call) (now : Standing)
    → IsTrue (is_config config) → IsSoundState config start
    → AllCallsLead config calls (settled_standing start) now → (judged : List Judged)
    × AreJudged config (events_of calls) judged × StandsFor config start judged now
