-- The entries of an event: what it changes of what must survive.
use Rattle.std.specs.Prelude.{◌≡◌, ◌≢◌, ◌⊎◌, ℕ, List, [], ◌∷◌, ◌++◌, Option, Some, None, Result, Ok, Err, Bool, false, ◌&&◌, ◌==◌, nat_lt, if◌then◌else◌, map, slice_index_or, find}
use Rattle.packet.specs.Config.{Config}
use Rattle.packet.specs.Fields.{fields}
use Rattle.packet.specs.Route.{route}
use Rattle.packet.specs.declared.endpoint.Iface.{Iface}
use Rattle.packet.specs.declared.fault.Fault.{Fault}
use Rattle.packet.specs.declared.route.Route.{Route}
use Rattle.packet.specs.declared.route.RouteFault.{RouteFault}
use Rattle.packet.specs.declared.view.View.{View}
use Rattle.ruletree.specs.declared.tree.Spelled.{Spelled}
use Rattle.sessions.specs.Life.{alive, same_side}
use Rattle.sessions.specs.Listing.{In, put, same_flow}
use Rattle.sessions.specs.Stilled.{at_moment, stilled}
use Rattle.sessions.specs.declared.session.Session.{Session}
use Rattle.hairpin.specs.Legs.{Passage}
use Rattle.hairpin.specs.declared.cause.Cause.{Cause}
use Rattle.machine.specs.Judged.{Judged}
use Rattle.machine.specs.Machine.{State, aged, later, leg, step}
use Rattle.machine.specs.Sound.{IsInForce}
use Rattle.machine.specs.declared.deed.Deed.{Deed}
use Rattle.machine.specs.declared.deed.Deed.TheVariants as deed
use Rattle.durable.specs.Coding.{Entry, Load, Begin, Seen, Restart, End}
use Rattle.durable.specs.Entering.{Durable, durable, flow_of}

-- what is durable of a state
abbrev pub lasting : State → Durable
lasting s = durable s.text (map stilled s.sessions)

-- ---- sessions that end

abbrev pub AreDistinct : List Session → Type 0
AreDistinct [] = Unit {0}
AreDistinct (s ∷ ss) = ¬ In s ss × AreDistinct ss

-- these are the sessions that are alive no longer, each once, in any order
pub record AreOver (now : ℕ) (sessions gone : List Session) : Type 0 where
  pub distinct : AreDistinct gone
  pub over : (t : Session) → In t gone → In t sessions × (alive now t ≡ false)
  pub all : (t : Session) → In t sessions → alive now t ≡ false → In t gone

abbrev pub ends : List Session → List Entry
ends [] = []
ends (t ∷ ts) = End (flow_of t) ∷ ends ts

-- the session, if there is one, in front of others
abbrev pub with_it : Option Session → List Session → List Session
with_it None ss = ss
with_it (Some s) ss = s ∷ ss

-- the sessions that these slots hold
abbrev pub sessions_at : List (Option Session) → List ℕ → List Session
sessions_at held [] = []
sessions_at held (slot ∷ slots) = with_it (slice_index_or held slot None) (sessions_at held slots)

-- ---- sessions that a packet changes

-- the two differ at most in their moments, where they share flow and outside endpoint
abbrev pub is_unchanged : Session → Session → Bool
is_unchanged s t = same_side s.opener t.opener && s.seen == t.seen

-- the session goes on, and has seen some bit
abbrev pub goes_on : Session → Session → Bool
goes_on s t = same_side s.opener t.opener && nat_lt 0 t.seen

-- what makes the one session the other: nothing, more that was seen, or a beginning anew
abbrev pub between : Session → Session → List Entry
between s t =
    if is_unchanged s t then []
    else (if goes_on s t then Seen (flow_of t) t.seen ∷ []
    else Restart (flow_of t) t.opener t.seen ∷ [])

abbrev pub entries_making : Option Session → Session → List Entry
entries_making None t = Begin (stilled t) ∷ []
entries_making (Some s) t = between s t

-- the entries by which a session takes its place among these
abbrev pub entries_for : List Session → Session → List Entry
entries_for sessions t = entries_making (find (same_flow t) sessions) t

-- and by which several do, in turn
abbrev pub entries_for_all : List Session → List Session → List Entry
entries_for_all [] sessions = []
entries_for_all (t ∷ ts) sessions = entries_for sessions t ++ entries_for_all ts (put t sessions)

-- ---- what is done

abbrev pub of_way : List Session → Result Passage Cause → List Entry
of_way sessions (Err why) = []
of_way sessions (Ok passage) = entries_for_all passage.sessions sessions

abbrev pub of_route : Config → State → View → Result Route RouteFault → List Entry
of_route config s view (Err fault) = []
of_route config s view (Ok r) = of_way s.sessions (leg config s view r)

abbrev pub of_fields : Config → State → Iface → Result View Fault → List Entry
of_fields config s iface (Err fault) = []
of_fields config s iface (Ok view) = of_route config s view (route config iface view)

-- the entries of what is done at the clock's moment
abbrev pub of_deed : Config → State → Deed → List Entry
of_deed config s (deed.Take text rules) = Load text ∷ []
of_deed config s (deed.Refuse text) = []
of_deed config s (deed.Packet iface bytes) = of_fields config s iface (fields bytes)
of_deed config s deed.Moment = []

-- these are the entries of an event in a state
pub record AreEntriesOf (config : Config) (s : State) (judged : Judged)
    (entries : List Entry) : Type 0 where
  pub gone : List Session
  pub are_over : AreOver (later s.clock judged.moment) s.sessions gone
  pub are : entries ≡ ends gone ++ of_deed config (aged (later s.clock judged.moment) s) judged.deed

-- some session is alive no longer at this moment
abbrev pub EndsSome : ℕ → State → Type 0
EndsSome now s = (t : Session) × In t s.sessions × (alive now t ≡ false)

-- a text is taken
abbrev pub TakesText : Deed → Type 0
TakesText d = (text : List ℕ) × (rules : Spelled) × (d ≡ deed.Take text rules)

-- some session ends, or a text is taken, or what is done changes what is durable
abbrev pub HasEntry : Config → State → Judged → Type 0
HasEntry config s judged =
    EndsSome (later s.clock judged.moment) s ⊎ TakesText judged.deed
    ⊎ (lasting (step config s judged).0 ≢ lasting (aged (later s.clock judged.moment) s))

-- these are the entries of a run of events, in turn
abbrev pub AreEntriesOfAll : Config → State → List Judged → List Entry → Type 0
AreEntriesOfAll config s [] entries = entries ≡ []
AreEntriesOfAll config s (judged ∷ more) entries =
    (first rest : List Entry) × AreEntriesOf config s judged first
    × AreEntriesOfAll config (step config s judged).0 more rest × (entries ≡ first ++ rest)

-- ---- a state that is begun again from what is durable

pub record IsResumed (config : Config) (d : Durable) (moment : ℕ) (s : State) : Type 0 where
  pub sessions : s.sessions ≡ map (at_moment moment) d.sessions
  pub text : s.text ≡ d.text
  pub clock : s.clock ≡ moment
  pub rules : IsInForce config s.text s.rules
