-- What contracts see of the sessions with their timers and mappings, and what ties these to the sessions.
use Rattle.std.specs.Prelude.{◌≡◌, ◌≢◌, ℕ, ◌≤◌, List, Option, Some, None, Result, count_by, is_some, false, slice_index_or}
use Rattle.std.specs.Option.{option_map}
use Rattle.packet.specs.Config.{Pool}
use Rattle.packet.specs.Same.{same_endpoint}
use Rattle.sessions.specs.Life.{IsSeen}
use Rattle.sessions.specs.Table as table
use Rattle.sessions.specs.declared.session.Change.{Change}
use Rattle.sessions.specs.declared.session.Change.TheVariants.{Begin, Seen, Restart}
use Rattle.sessions.specs.declared.session.Session.{Session}
use Rattle.timers.specs.Due as due
use Rattle.timers.specs.Laws.{idle_of}
use Rattle.mappings.specs.declared.map.Mapping.{Mapping}
use Rattle.mappings.specs.Map.{Mappings, times}
use Rattle.hairpin.specs.Tallies.{tally}
use Rattle.hairpin.specs.Legs.{Passage}
use Rattle.hairpin.specs.Plans.{Gives, GiveAll, Plans}
use Rattle.hairpin.specs.Translations.{Translations, HasRoom, IsExternal}
use Rattle.hairpin.specs.declared.cause.Cause.{Cause}
use Rattle.hairpin.specs.declared.plan.Plan.{Plan}

-- each session that is held, and no other slot, is watched with its last moment and its timeout; each
-- mapping is held as often as translated sessions have it
pub record Tied (sessions : table.Sessions) (watched : due.Watched)
    (mappings : Mappings) : Type 0 where
  pub idle : (slot : ℕ) → due.at watched slot ≡ option_map idle_of (table.at sessions slot)
  pub counts : (p : Mapping) → times mappings p ≡ tally p sessions.held

-- the session is alive no longer
abbrev pub IsDue : ℕ → Session → Type 0
IsDue now s = due.IsOver now (idle_of s)

-- what a contract sees of the flows: the sessions, a number below which each slot is watched with no
-- memory, and the mappings
pub record Flows : Type 0 where
  pub table : table.Sessions
  pub watchable : ℕ
  pub translations : Translations

-- so many more sessions take no memory
pub record TakesMore (n : ℕ) (f : Flows) : Type 0 where
  pub table : n ≤ f.table.room
  pub watchable : f.table.slots ≤ f.watchable
  pub translations : HasRoom n f.translations

module _ (f : Flows) (now : ℕ) where
  -- among these sessions the change gives this one
  abbrev pub ChangeGives : Change → Session → Type 0
  ChangeGives = Gives f.translations.external f.table.held now

  -- the changes of the plan give these, in turn
  abbrev pub PlanGives : Plan → List Session → Type 0
  PlanGives plan = GiveAll f.translations.external f.table.held now plan.first plan.second

  -- a leg's code has come to what its definition says
  abbrev pub IsWay : Result Plan Cause → Result Passage Cause → Type 0
  IsWay = Plans f.translations.external f.table.held now

-- no session was seen after this moment
abbrev pub IsNoneLater : List (Option Session) → ℕ → Type 0
IsNoneLater held now =
    (slot : ℕ) (s : Session) → slice_index_or held slot None ≡ Some s → s.last ≤ now

-- the session may join those that are held: it clashes with none, there are not too many, its bits are of its protocol,
-- and where it is translated, its outside endpoint is at an external address; as `MayBegin` of hairpin, but whatever
-- was seen of it, and at any moment
pub record MayJoin (external : Pool) (held : List (Option Session)) (s : Session) : Type 0 where
  pub seen : IsSeen s.proto s.seen
  pub apart : ¬ table.AnyClash held s
  pub few : count_by is_some held ≢ table.most_sessions
  pub placed : same_endpoint s.inside s.outside ≡ false → IsExternal external s.outside

-- how many sessions the change adds
abbrev pub adds : Change → ℕ
adds (Begin s) = 1
adds (Seen slot bits) = 0
adds (Restart slot opener) = 0

abbrev pub adds_second : Option Change → ℕ
adds_second None = 0
adds_second (Some change) = adds change
