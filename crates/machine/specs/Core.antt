-- What contracts see of a core, and what it is made of.
use Rattle.std.specs.Prelude.{◌≡◌, ℕ, List, Option}
use Rattle.packet.specs.Config.{Config}
use Rattle.ruletree.specs.declared.tree.Spelled.{Spelled}
use Rattle.sessions.specs.Listing.{listing}
use Rattle.sessions.specs.declared.session.Session.{Session}
use Rattle.machine.specs.Machine.{State, KeepsCount, EndsNone}
use Rattle.machine.specs.Sound.{IsSoundState}
use Rattle.machine.specs.Flows.{Flows}
use Rattle.machine.specs.declared.event.Answer.{Answer}

-- the configuration and the state
pub record Core : Type 0 where
  pub config : Config
  pub state : State

-- the state whose sessions are those that are held
abbrev pub state_of : List ℕ → Spelled → List (Option Session) → ℕ → State
state_of text rules held now =
    record { text = text; rules = rules; sessions = listing held; clock = now }

-- what a core is made of: the configuration, the text in force with its rules, the sessions with their timers and
-- mappings, and the clock
pub record Parts : Type 0 where
  pub config : Config
  pub text : List ℕ
  pub rules : Spelled
  pub flows : Flows
  pub clock : ℕ

abbrev pub state_in : Parts → State
state_in p = state_of p.text p.rules p.flows.table.held p.clock

-- the flows are those of a sound state, all of them alive, and translate at its external addresses
pub record IsCore (config : Config) (text : List ℕ) (rules : Spelled) (flows : Flows)
    (clock : ℕ) : Type 0 where
  pub external : flows.translations.external ≡ config.external
  pub sound : IsSoundState config (state_of text rules flows.table.held clock)
  pub live : EndsNone clock (state_of text rules flows.table.held clock)

-- what is done leads from the sessions that were held to those that are held, whatever text and rules
abbrev pub IsTransition : (State → State × Answer) → List (Option Session) → List (Option Session)
    → ℕ → Answer → Type 0
IsTransition does old new now answer = (text : List ℕ) (rules : Spelled)
    → does (state_of text rules old now) ≡ (state_of text rules new now, answer)

-- what is done adds no session, whatever text and rules
abbrev pub AddsNoSession : (State → State × Answer) → List (Option Session) → ℕ → Type 0
AddsNoSession does held now = (text : List ℕ) (rules : Spelled)
    → KeepsCount (state_of text rules held now) (does (state_of text rules held now))
