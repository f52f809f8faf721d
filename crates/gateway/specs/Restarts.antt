-- Which state a gateway begins with that is opened again: text, rules and sessions. What the model says of mappings, of
-- hosts and of the time that a session has left follows from these.
use Rattle.std.specs.Prelude.{◌≡◌, ◌≤◌, ℕ, List, IsTrue, length, take}
use Rattle.packet.specs.Config.{Config, is_config}
use Rattle.durable.specs.Entering.{Durable}
use Rattle.machine.specs.Judged.{Judged, AreJudged}
use Rattle.machine.specs.Machine.{State, after}
use Rattle.machine.specs.Noted.{IsResumed, lasting}
use Rattle.machine.specs.Sound.{IsSoundState}
use Rattle.machine.specs.declared.event.Event.{Event}
use Rattle.gateway.specs.Lives.{MaySurvive, again_at}

pub record RestartsKeepTheState : Type 0 where
  -- of what is stored there is one state to begin with
  pub one : (config : Config) (d : Durable) (moment : ℕ) (s t : State)
      → IsResumed config d moment s → IsResumed config d moment t → s ≡ t
  -- Of what is stored of a sound state, it is that state again.
  pub same : (config : Config) (s again : State) (moment : ℕ) → IsSoundState config s
      → IsResumed config (lasting s) moment again → again ≡ again_at moment s
  -- Of what may survive of a life, it is again the state that the model has after some first events of that life, which
  -- hold the first n.
  pub after_a_life : (config : Config) (s again : State) (events : List Event) (n moment : ℕ)
      (d : Durable) → IsTrue (is_config config) → IsSoundState config s
      → MaySurvive config s events n d → IsResumed config d moment again
      → (count : ℕ) × (n ≤ count) × (count ≤ length events) × (judged : List Judged)
      × AreJudged config (take count events) judged
      × (again ≡ again_at moment (after config s judged))
