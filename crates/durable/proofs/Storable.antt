-- A state that files stand for can be written, has no moments, and is one that a gateway may have.
use Rattle.std.proofs.Common.{◌≡◌, ◌⊎◌, inl, inr, ⊎_elim, ℕ, ◌<◌, ◌^◌, List, [], ◌∷◌, length, refl, sym, ◌∙◌, subst, arith, not}
use Rattle.std.specs.List.{AllByRecursion}
use Rattle.packet.specs.Config.{Config}
use Rattle.disk_model.specs.Disk.{Files}
use Rattle.disk_model.specs.declared.disk.FileId.{FileId}
use Rattle.sessions.specs.Listing.{In, insert}
use Rattle.sessions.specs.Sound.{AreSound}
use Rattle.sessions.specs.Table.{amended}
use Rattle.sessions.specs.Stilled.{AreStilled}
use Rattle.sessions.specs.declared.session.Session.{Session}
use Rattle.sessions.proofs.Sets.{In-insert, In-filter}
use Rattle.durable.specs.declared.entry.Flow.{Flow}
use Rattle.packet.specs.Numbers.{IsEndpoint}
use Rattle.durable.specs.Coding.{Heading, Snapshot, Entry, Load, Begin, Seen, Restart, End, IsEntry, AreEntries, IsSession, IsSnapshot}
use Rattle.durable.specs.Entering.{Durable, IsDurable, empty, is_of_flow, seen_so, changed, entered, Enters, BodiesEnter}
use Rattle.durable.specs.Laws.{RecoversSound}
use Rattle.durable.specs.Recovery.{IsActive, IsConfigured, Recovers, arranged_on, begun}
use Rattle.durable.proofs.Keeping.{In-map, Amends, changes, amends-one, amends-seen, amends-anew}
use Rattle.durable.proofs.Headed.{recovers_once}

-- what a session keeps whatever its packets show
record IsBare (s : Session) : Type 0 where
  inside : IsEndpoint s.inside
  outside : IsEndpoint s.outside
  remote : IsEndpoint s.remote
  last : s.last ≡ 0

AreBare : List Session → Type 0
AreBare ss = (s : Session) → In s ss → IsBare s

record Coded (d : Durable) : Type 0 where
  text : length d.text < 2 ^ 32
  bare : AreBare d.sessions

bare_of : (s : Session) → IsSession s → IsBare s
bare_of s is = record { inside = is.inside; outside = is.outside; remote = is.remote; last = is.last }

bare_insert : (s : Session) (ss : List Session) → IsBare s → AreBare ss → AreBare (insert s ss)
unfolding AreBare
bare_insert s ss one all t is = ⊎_elim (λ (e : t ≡ s). subst IsBare (sym e) one) (λ old. all t old) (In-insert s ss t is)

bare_changed : (f : Flow) (g : Session → Session) → Amends g → (ss : List Session) → AreBare ss → AreBare (changed f g ss)
unfolding AreBare
bare_changed f g amends ss all t is =
    let old = In-map (changes f g) ss t is in
    let a = amends-one f g amends old.0 in
    let was = all old.0 old.1 in
    let made : IsBare (amended a.0 a.1 old.0) = record { inside = was.inside; outside = was.outside; remote = was.remote; last = was.last } in
    subst IsBare (sym (old.2 ∙ a.2)) made

coded_entry : (e : Entry) (d : Durable) → IsEntry e → Coded d → Coded (entered e d)
unfolding AreBare
coded_entry (Load text) d is was = record { text = is; bare = was.bare }
coded_entry (Begin s) d is was = record { text = was.text; bare = bare_insert s d.sessions (bare_of s is) was.bare }
coded_entry (Seen f seen) d is was = record { text = was.text; bare = bare_changed f (seen_so seen) (amends-seen seen) d.sessions was.bare }
coded_entry (Restart f opener seen) d is was = record { text = was.text; bare = bare_changed f (amended opener seen) (amends-anew opener seen) d.sessions was.bare }
coded_entry (End f) d is was = record { text = was.text; bare = λ t still. was.bare t (In-filter (λ s. not (is_of_flow f s)) d.sessions t still).0 }

coded_entries : (config : Config) (es : List Entry) (old new : Durable) → AreEntries es → Enters config es old new → Coded old → Coded new
coded_entries config [] old new are enters was = subst Coded (sym enters) was
coded_entries config (e ∷ es) old new are enters was = coded_entries config es (entered e old) new are.1 enters.1 (coded_entry e old are.0 was)

coded_bodies : (config : Config) (bodies : List (List ℕ)) (old new : Durable) → BodiesEnter config bodies old new → Coded old → Coded new
coded_bodies config [] old new leads was = subst Coded (sym leads) was
coded_bodies config (body ∷ bodies) old new leads was =
    let first = leads.1 in
    coded_bodies config bodies leads.0 new leads.2 (coded_entries config first.0 old leads.0 first.1 first.3 was)

bare_arranged : (ss ts : List Session) → AreBare ss → AllByRecursion IsSession ts → AreBare (arranged_on ss ts)
bare_arranged ss [] all are = all
bare_arranged ss (t ∷ ts) all are = bare_arranged (insert t ss) ts (bare_insert t ss (bare_of t are.0) all) are.1

coded_begun : (k : Snapshot) → IsSnapshot k → Coded (begun k)
unfolding AreBare
coded_begun k is = record { text = is.text; bare = bare_arranged [] k.sessions (λ s in_none. absurd in_none) is.sessions }

all_sessions : (ss : List Session) → ((s : Session) → In s ss → IsSession s) → AllByRecursion IsSession ss
all_sessions [] each = tt
all_sessions (s ∷ ss) each = (each s (inl refl), all_sessions ss (λ t is. each t (inr is)))

coded_active : (files : Files) (f : FileId) (h : Heading) (d : Durable) (end : ℕ) → IsActive files f h d end → Coded d
coded_active files f h d end active =
    let holds = active.0 in
    coded_bodies h.config holds.bodies (begun h.snapshot) d holds.changed (coded_begun h.snapshot holds.headed.whole.snapshot)

kept_by : (config : Config) (d : Durable) → Coded d → AreSound config d.sessions → IsSnapshot (record { text = d.text; sessions = d.sessions })
unfolding AreBare
kept_by config d coded sound = record {
  text = coded.text;
  count = omega (arith, sound.at_most);
  sessions = all_sessions d.sessions (λ s is.
      let was = coded.bare s is in
      record { inside = was.inside; outside = was.outside; remote = was.remote; seen = sound.seen s is; last = was.last });
}

-- the state of an active file can stand in a snapshot
pub active_kept : (files : Files) (f : FileId) (h : Heading) (d : Durable) (end : ℕ) → IsActive files f h d end → IsSnapshot (record { text = d.text; sessions = d.sessions })
active_kept files f h d end active = kept_by h.config d (coded_active files f h d end active) (recovers_once.sound files f h d end active).sessions

pub empty_durable : (config : Config) → IsDurable config empty
empty_durable config = record {
  text = inl refl;
  sessions = record {
    rises = tt;
    apart = λ s t is. absurd is;
    at_most = omega arith;
    placed = λ s is. absurd is;
    seen = λ s is. absurd is;
  };
}

sound : (config : Config) (files : Files) (d : Durable) → IsConfigured config files → Recovers files d → IsDurable config d
sound config files d is (inl (none, same)) = subst (λ (x : Durable). IsDurable config x) (sym same) (empty_durable config)
sound config files d is (inr (f, h, end, active)) = subst (λ (c : Config). IsDurable c d) (is f h d end active) (recovers_once.sound files f h d end active)

stilled : (files : Files) (d : Durable) → Recovers files d → AreStilled d.sessions
unfolding AreBare
stilled files d (inl (none, same)) s is = absurd (subst (λ (x : Durable). In s x.sessions) same is)
stilled files d (inr (f, h, end, active)) s is = ((coded_active files f h d end active).bare s is).last

pub recovers_sound : RecoversSound
recovers_sound = record { sound = sound; stilled = stilled }
