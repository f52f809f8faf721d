-- What a plan means for the sessions that are held.
use Rattle.std.specs.Prelude.{◌≡◌, ◌≢◌, ℕ, List, [], ◌∷◌, Option, Some, None, Result, Ok, Err, slice_index_or, count_by, is_some, false}
use Rattle.packet.specs.Config.{Pool}
use Rattle.packet.specs.Same.{same_endpoint}
use Rattle.sessions.specs.Life.{IsSeen}
use Rattle.sessions.specs.Listing.{listing, put}
use Rattle.sessions.specs.Table.{AnyClash, most_sessions, restarted, seen}
use Rattle.sessions.specs.declared.session.Change.{Change}
use Rattle.sessions.specs.declared.session.Change.TheVariants.{Begin, Seen, Restart}
use Rattle.sessions.specs.declared.session.Session.{Session}
use Rattle.hairpin.specs.Legs.{Passage}
use Rattle.hairpin.specs.Translations.{IsExternal}
use Rattle.hairpin.specs.declared.cause.Cause.{Cause}
use Rattle.hairpin.specs.declared.plan.Plan.{Plan}

-- the session may begin now: it clashes with none, and there are not too many
pub record MayBegin (external : Pool) (held : List (Option Session)) (now : ℕ)
    (s : Session) : Type 0 where
  pub unseen : s.seen ≡ 0
  pub last : s.last ≡ now
  pub apart : ¬ AnyClash held s
  pub few : count_by is_some held ≢ most_sessions
  pub placed : same_endpoint s.inside s.outside ≡ false → IsExternal external s.outside

-- the change is of the session that the slot holds
abbrev pub IsOf : Change → ℕ → Type 0
IsOf (Begin s) slot = ⊥
IsOf (Seen of bits) slot = of ≡ slot
IsOf (Restart of opener) slot = of ≡ slot

-- the change has put the session in, and every other slot holds what it held
pub record Became (held : List (Option Session)) (change : Change) (t : Session)
    (later : List (Option Session)) : Type 0 where
  pub listing : listing later ≡ put t (listing held)
  pub kept : (slot : ℕ) (s : Session) → slice_index_or held slot None ≡ Some s → ¬ IsOf change slot
      → slice_index_or later slot None ≡ Some s

module _ (external : Pool) (held : List (Option Session)) (now : ℕ) where
  -- the change gives this session
  abbrev pub Gives : Change → Session → Type 0
  Gives (Begin s) t = (s ≡ t) × MayBegin external held now s
  Gives (Seen slot bits) t = (s : Session) × (slice_index_or held slot None ≡ Some s)
      × IsSeen s.proto bits × (t ≡ seen s bits now)
  Gives (Restart slot opener) t = (s : Session) × (slice_index_or held slot None ≡ Some s)
      × (t ≡ restarted s opener now)

-- once the first change is made, the second gives this session
abbrev pub GivesThen : Pool → List (Option Session) → ℕ → Change → Session → Change → Session → Type 0
GivesThen external held now first t second u = (later : List (Option Session))
    → Became held first t later → Gives external later now second u

-- a second change that begins no session is of one that is held already, and that the first change leaves alone
abbrev pub IsApart : List (Option Session) → Change → Change → Type 0
IsApart held first second = (slot : ℕ) → IsOf second slot
    → (¬ IsOf first slot) × (s : Session) × (slice_index_or held slot None ≡ Some s)

module _ (external : Pool) (held : List (Option Session)) (now : ℕ) where
  -- the changes give these sessions, in turn
  abbrev pub GiveAll : Change → Option Change → List Session → Type 0
  GiveAll first None sessions = (t : Session) × Gives external held now first t
      × (sessions ≡ t ∷ [])
  GiveAll first (Some second) sessions =
      (t : Session) × (u : Session) × Gives external held now first t × IsApart held first second
      × GivesThen external held now first t second u × (sessions ≡ t ∷ u ∷ [])

  -- the plan does what the passage says: its changes give the sessions of the passage, and the packet leaves with the
  -- same endpoints and on the same interface
  pub record IsPlanOf (plan : Plan) (passage : Passage) : Type 0 where
    pub sessions : GiveAll plan.first plan.second passage.sessions
    pub src : plan.src ≡ passage.src
    pub dst : plan.dst ≡ passage.dst
    pub iface : plan.iface ≡ passage.iface

  -- a leg's code and its definition agree: on a plan and the passage that it does, or on the cause of a drop
  abbrev pub Plans : Result Plan Cause → Result Passage Cause → Type 0
  Plans (Ok plan) (Ok passage) = IsPlanOf plan passage
  Plans (Ok plan) (Err cause) = ⊥
  Plans (Err cause) (Ok passage) = ⊥
  Plans (Err cause) (Err other) = cause ≡ other
