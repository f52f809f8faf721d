-- The soundness of a state: its sessions are sound (`sessions/specs/Sound`), none is later than the clock, and the
-- rules are those of the text.
use Rattle.std.specs.Prelude.{◌≡◌, ◌⊎◌, ℕ, ◌≤◌, List, []}
use Rattle.packet.specs.Config.{Config}
use Rattle.ruletree.specs.declared.tree.Spelled.{Spelled}
use Rattle.ruletext.specs.Texts.{Loads}
use Rattle.sessions.specs.Listing.{In}
use Rattle.sessions.specs.declared.session.Session.{Session}
use Rattle.sessions.specs.Sound.{AreSound}
use Rattle.machine.specs.Machine.{State, no_tables}

-- the rules are those that the text loads; before a text has loaded there are none
abbrev pub IsInForce : Config → List ℕ → Spelled → Type 0
IsInForce config text rules = ((text ≡ []) × (rules ≡ no_tables)) ⊎ Loads config text rules

-- what every state keeps
pub record IsSoundState (config : Config) (state : State) : Type 0 where
  pub sessions : AreSound config state.sessions
  pub latest : (s : Session) → In s state.sessions → s.last ≤ state.clock
  pub in_force : IsInForce config state.text state.rules
