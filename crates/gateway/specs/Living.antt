-- That the calls of a gateway make lives, as `specs/Lives` defines them.
use Rattle.std.specs.Prelude.{◌≡◌, ℕ, List, [], ◌∷◌, ◌++◌, IsTrue, OnErr, OnOk, Result}
use Rattle.packet.specs.Config.{Config, is_config}
use Rattle.disk_model.specs.Disk.{Files}
use Rattle.durable.specs.Entering.{Durable}
use Rattle.durable.specs.Recovery.{Recovers}
use Rattle.machine.specs.Judged.{Judged, AreJudged}
use Rattle.machine.specs.Machine.{State}
use Rattle.machine.specs.Noted.{IsResumed}
use Rattle.machine.specs.Sound.{IsSoundState}
use Rattle.machine.specs.declared.event.Answer.{Answer}
use Rattle.machine.specs.declared.event.Event.{Event}
use Rattle.gateway.specs.Given.{handed}
use Rattle.gateway.specs.Kept.{Kept, IsAtRest}
use Rattle.gateway.specs.Lives.{Life, Opened, IsLife}
use Rattle.gateway.specs.Running.{CarriesOn, Ends, SafeThrough, SafeWithin, Stands}
use Rattle.gateway.specs.Syncing.{Syncs}
use Rattle.gateway.specs.Taking.{Takes}
use Rattle.gateway.specs.Told.{TookAll}
use Rattle.gateway.specs.declared.fault.GatewayFault.{GatewayFault}
use Rattle.gateway.specs.declared.given.Given.{Given}

module _ {D : Type 0} (honest : D → Type 0) (moment : D → ℕ) (left : D → ℕ → Files → Type 0)
    (seen : D → Files) where
  -- A gateway as `open` gives it, over this disk and at this moment.
  pub record IsOpened (config : Config) (entry : D) (opened_at : ℕ)
      (gateway : Kept D) : Type 0 where
    pub valid : IsTrue (is_config config)
    pub was_honest : honest entry
    pub rests : IsAtRest honest gateway
    pub configured : gateway.told.config ≡ config
    pub first : gateway.told.last ≡ 0
    pub resumed : (d : Durable) × Recovers (seen entry) d
        × IsResumed config d opened_at gateway.told.state

  -- The life of a gateway that began with this state, took these events and gave out these answers, and was stopped
  -- within a call that began with the disk `old` and would have ended with `new`. If they are one, it was stopped
  -- between two calls.
  abbrev pub life_of : D → ℕ → State → List Event → List Judged → List (ℕ × Answer) → D → D → Life D
  life_of entry opened_at start events judged given old new = record {
    disk = entry;
    opened_at = opened_at;
    course = Opened (record {
      start = start;
      events = events;
      judged = judged;
      given = given;
      since = moment old;
      disk = new;
    });
  }

  -- This is a life, of a gateway that was opened as `begun`.
  pub record IsLived (config : Config) (entry : D) (opened_at : ℕ) (begun : Kept D)
      (events : List Event) (given : List (ℕ × Answer)) (old new : D) : Type 0 where
    pub judged : List Judged
    pub is_life : IsLife honest moment left seen config
        (life_of entry opened_at begun.told.state events judged given old new)

  -- A gateway in its life that holds nothing: it was opened as `begun`, has taken these events since, and has given out
  -- all their answers.
  pub record RestsInLife (config : Config) (entry : D) (opened_at : ℕ) (begun : Kept D)
      (events : List Event) (given : List (ℕ × Answer)) (now : Kept D) : Type 0 where
    pub opened : IsOpened config entry opened_at begun
    pub took : TookAll begun.told now.told events given
    pub rests : IsAtRest honest now

  module _ (old new : Kept D) where
    -- One call takes a list of events, and leads from the one to the other. Whatever life the gateway is in, a stop
    -- within the call is its end, with none of their answers given out; and so is a stop after it, with these.
    abbrev pub RunsInLife : List Event → List (ℕ × Answer) → Type 0
    RunsInLife more out = (config : Config) (entry : D) (opened_at : ℕ) (begun : Kept D)
        (events : List Event) (given : List (ℕ × Answer))
        → RestsInLife config entry opened_at begun events given old
        → IsLived config entry opened_at begun (events ++ more) given old.disk new.disk
        × IsLived config entry opened_at begun (events ++ more) (given ++ out) new.disk new.disk

    -- After it the gateway rests in the same life, with these answers given out.
    abbrev pub RestsAgain : List Event → List (ℕ × Answer) → Type 0
    RestsAgain more out = (config : Config) (entry : D) (opened_at : ℕ) (begun : Kept D)
        (events : List Event) (given : List (ℕ × Answer))
        → RestsInLife config entry opened_at begun events given old
        → RestsInLife config entry opened_at begun (events ++ more) (given ++ out) new

module _ {D : Type 0} (honest : D → Type 0) (moment : D → ℕ) (left : D → ℕ → Files → Type 0)
    (seen : D → Files) (failed : D → ℕ) where
  -- A gateway in its life: since it rested last it has come through more events, and given out answers.
  pub record IsInLife (config : Config) (entry : D) (opened_at : ℕ) (begun : Kept D)
      (events : List Event) (given : List (ℕ × Answer)) (now : Kept D) : Type 0 where
    pub earlier : List Event
    pub answered : List (ℕ × Answer)
    pub rested : Kept D
    pub rests : RestsInLife honest moment left seen config entry opened_at begun earlier answered
        rested
    pub more : List Event
    pub out : List (ℕ × Answer)
    pub stands : Stands honest moment left failed rested now more out
    pub events_are : events ≡ earlier ++ more
    pub given_are : given ≡ answered ++ out

  -- a gateway that rests in its life is in it
  abbrev pub RestingIsLiving : Kept D → Type 0
  RestingIsLiving now = (config : Config) (entry : D) (opened_at : ℕ) (begun : Kept D)
      (events : List Event) (given : List (ℕ × Answer))
      → RestsInLife honest moment left seen config entry opened_at begun events given now
      → IsInLife config entry opened_at begun events given now

  module _ (old new : Kept D) where
    -- Whatever life the gateway is in, a stop within the call that leads from the one to the other is its end, with the
    -- answers that were given out before the call.
    abbrev pub StopsInLife : Type 0
    StopsInLife = (config : Config) (entry : D) (opened_at : ℕ) (begun : Kept D)
        (events : List Event) (given : List (ℕ × Answer))
        → IsInLife config entry opened_at begun events given old
        → IsLived honest moment left seen config entry opened_at begun events given old.disk
        new.disk

    -- The call takes these events. Whatever life the gateway is in, and whatever it holds, a stop within it is its end,
    -- with the answers that were given out before it.
    abbrev pub StopsTaking : List Event → Type 0
    StopsTaking taken = (config : Config) (entry : D) (opened_at : ℕ) (begun : Kept D)
        (events : List Event) (given : List (ℕ × Answer))
        → IsInLife config entry opened_at begun events given old
        → IsLived honest moment left seen config entry opened_at begun (events ++ taken) given
        old.disk new.disk

    -- After the call it is in the same life, with these answers given out too.
    abbrev pub GoesOnInLife : List (ℕ × Answer) → Type 0
    GoesOnInLife out = (config : Config) (entry : D) (opened_at : ℕ) (begun : Kept D)
        (events : List Event) (given : List (ℕ × Answer))
        → IsInLife config entry opened_at begun events given old
        → IsInLife config entry opened_at begun events (given ++ out) new

    -- The call takes these events. Whatever life the gateway is in, and whatever it holds, it is in the same life after
    -- it, with these answers given out too.
    abbrev pub TakesAllInLife : List Event → List (ℕ × Answer) → Type 0
    TakesAllInLife taken out = (config : Config) (entry : D) (opened_at : ℕ) (begun : Kept D)
        (events : List Event) (given : List (ℕ × Answer))
        → IsInLife config entry opened_at begun events given old
        → IsInLife config entry opened_at begun (events ++ taken) (given ++ out) new

    -- the same of one event
    abbrev pub TakesInLife : Event → List (ℕ × Answer) → Type 0
    TakesInLife event = TakesAllInLife (event ∷ [])

    -- The call takes these events, and a stop after it is the end of the life, with these answers given out too.
    abbrev pub EndsTaking : List Event → List (ℕ × Answer) → Type 0
    EndsTaking taken out = (config : Config) (entry : D) (opened_at : ℕ) (begun : Kept D)
        (events : List Event) (given : List (ℕ × Answer))
        → IsInLife config entry opened_at begun events given old
        → IsLived honest moment left seen config entry opened_at begun (events ++ taken)
        (given ++ out) new.disk new.disk

    -- The call takes these events. A gateway that rested before is in the same life after it, with these answers given
    -- out too; it may hold others.
    abbrev pub StaysInLife : List Event → List (ℕ × Answer) → Type 0
    StaysInLife more out = (config : Config) (entry : D) (opened_at : ℕ) (begun : Kept D)
        (events : List Event) (given : List (ℕ × Answer))
        → RestsInLife honest moment left seen config entry opened_at begun events given old
        → IsInLife config entry opened_at begun (events ++ more) (given ++ out) new

    -- A stop after the call is the end of its life.
    abbrev pub EndsLife : Type 0
    EndsLife = (config : Config) (entry : D) (opened_at : ℕ) (begun : Kept D)
        (events : List Event) (given : List (ℕ × Answer))
        → IsInLife config entry opened_at begun events given old
        → IsLived honest moment left seen config entry opened_at begun events given new.disk
        new.disk

  -- A gateway in its life may be stopped between two calls; and if it holds nothing, it rests. What its calls promise leads
  -- on in its life, or is its end: what they say of an event that was taken (`takes`: `took`, `now`, `filled`, `stood`,
  -- `numbers_left`, `held_few`, `disk` and `fallen` of `offer`, or `ok` and `beside` of `take_packet` and `take_event`; and
  -- `config` and `sound` of `facts`), of answers that were synced (`syncs`), and of a run (`carries`). What the calls of
  -- `running` promise of a run that began where it rested leads on in its life (`Stands`), or to its end (`Ends`). A stop
  -- within them is its end (`SafeWithin`, `SafeThrough`), with all answers given out that were before.
  pub record CallsAreLives : Type 0 where
    pub between : (now : Kept D) → EndsLife now now
    pub at_rest : (config : Config) (entry : D) (opened_at : ℕ) (begun now : Kept D)
        (events : List Event) (given : List (ℕ × Answer))
        → IsInLife config entry opened_at begun events given now → now.told.held ≡ []
        → RestsInLife honest moment left seen config entry opened_at begun events given now
    pub takes : (old new : Kept D) (event : Event) (given : Given)
        → IsTrue (is_config old.told.config) → IsSoundState old.told.config old.told.state
        → Takes old new event given → new.disk ≡ old.disk → new.fallen ≡ old.fallen
        → StopsInLife old new × TakesInLife old new event (handed given)
    pub syncs : (called : D → ℕ) (old new : Kept D) (end : Result (Unit {0}) GatewayFault)
        → Syncs honest moment left seen called failed old new end
        → StopsInLife old new × OnOk end (GoesOnInLife old new old.told.held)
        × OnErr end (EndsLife old new)
    pub carries : (old new : Kept D) (taken : List Event) (out : List (ℕ × Answer))
        → ((before : List (ℕ × Answer))
        → CarriesOn honest moment left failed old new taken before (before ++ out))
        → TakesAllInLife old new taken out
    pub safe : (old new : Kept D)
        → ((before : List (ℕ × Answer)) → SafeWithin honest moment left failed old new before)
        → StopsInLife old new
    pub stands : (config : Config) (entry : D) (opened_at : ℕ) (begun rested now : Kept D)
        (events more : List Event) (given out : List (ℕ × Answer))
        → RestsInLife honest moment left seen config entry opened_at begun events given rested
        → Stands honest moment left failed rested now more out
        → IsInLife config entry opened_at begun (events ++ more) (given ++ out) now
    pub within : (config : Config) (entry : D) (opened_at : ℕ) (begun rested old new : Kept D)
        (events more : List Event) (given out : List (ℕ × Answer))
        → RestsInLife honest moment left seen config entry opened_at begun events given rested
        → Stands honest moment left failed rested old more out
        → SafeWithin honest moment left failed old new out
        → IsLived honest moment left seen config entry opened_at begun (events ++ more)
        (given ++ out) old.disk new.disk
    -- A stop within calls that take events ends a life in which these count as taken, each as it is judged. Answers may
    -- be held when the calls begin.
    pub through : (config : Config) (entry : D) (opened_at : ℕ) (begun rested old new : Kept D)
        (events more taken : List Event) (judged : List Judged) (given out : List (ℕ × Answer))
        → RestsInLife honest moment left seen config entry opened_at begun events given rested
        → Stands honest moment left failed rested old more out
        → AreJudged old.told.config taken judged
        → SafeThrough honest moment left failed old new taken out
        → IsLived honest moment left seen config entry opened_at begun ((events ++ more) ++ taken)
        (given ++ out) old.disk new.disk
    pub ends : (config : Config) (entry : D) (opened_at : ℕ) (begun rested now : Kept D)
        (events more : List Event) (given out : List (ℕ × Answer))
        → RestsInLife honest moment left seen config entry opened_at begun events given rested
        → Ends honest moment left failed rested now more out
        → IsLived honest moment left seen config entry opened_at begun (events ++ more)
        (given ++ out) now.disk now.disk
