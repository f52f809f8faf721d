-- The state of a gateway, its last number and the answers that it holds; and what taking events makes of them.
use Rattle.std.specs.Prelude.{◌≡◌, ℕ, ◌+◌, List, [], ◌∷◌, ◌++◌, length}
use Rattle.packet.specs.Config.{Config}
use Rattle.machine.specs.Judged.{Judged, IsJudged, AreJudged}
use Rattle.machine.specs.declared.event.Event.{Event}
use Rattle.machine.specs.declared.event.Answer.{Answer}
use Rattle.gateway.specs.declared.given.Given.{Given}
use Rattle.gateway.specs.Given.{handed, number_of}
use Rattle.machine.specs.Machine.{State, step, after, answers, numbered}

-- the state at a configuration, the last number, and the answers that wait
pub record Told : Type 0 where
  pub config : Config
  pub state : State
  pub last : ℕ
  pub held : List (ℕ × Answer)

-- the event was taken, as it is judged: what was handed out and what is held are the former held, and the new answer
pub record Took (old new : Told) (event : Event) (given : Given) : Type 0 where
  pub judged : Judged
  pub is_judged : IsJudged old.config event judged
  pub config : new.config ≡ old.config
  pub state : new.state ≡ (step old.config old.state judged).0
  pub last : new.last ≡ old.last + 1
  pub number : number_of given ≡ new.last
  pub order : handed given ++ new.held ≡ old.held
      ++ (old.last + 1, (step old.config old.state judged).1) ∷ []

-- the events were taken in turn, as they are judged: what was handed out and what is held are the former held, and
-- their answers
pub record TookAll (old new : Told) (events : List Event) (out : List (ℕ × Answer)) : Type 0 where
  pub judged : List Judged
  pub are_judged : AreJudged old.config events judged
  pub config : new.config ≡ old.config
  pub state : new.state ≡ after old.config old.state judged
  pub last : new.last ≡ old.last + length events
  pub order : out ++ new.held ≡ old.held ++ numbered old.last (answers old.config old.state judged)

-- the first of the events were taken, and none behind them
pub record TookFirst (old new : Told) (events : List Event) (out : List (ℕ × Answer)) : Type 0 where
  pub front : List Event
  pub back : List Event
  pub split : events ≡ front ++ back
  pub took : TookAll old new front out
