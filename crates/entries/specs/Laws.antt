-- What entries promise.
use Rattle.std.specs.Prelude.{◌≡◌, ◌≢◌, ◌↔◌, ℕ, List, [], ◌∷◌, Option, Some, None, slice_index_or, ◌<◌, IsSomeAnd, true, false, bit_or, IsTrue}
use Rattle.std.specs.List.{Contains}
use Rattle.packet.specs.Config.{Config, is_config}
use Rattle.packet.specs.declared.endpoint.Flags.{Flags}
use Rattle.sessions.specs.Life.{restarts, shown}
use Rattle.sessions.specs.Listing.{In, listing, put, same_flow}
use Rattle.sessions.specs.Table.{AnyClash, IsSoundTable}
use Rattle.sessions.specs.declared.session.Opener.{Opener}
use Rattle.sessions.specs.declared.session.Session.{Session}
use Rattle.hairpin.specs.Legs.{passed_by}
use Rattle.sessions.specs.Sound.{AreSound}
use Rattle.sessions.specs.Stilled.{AreStilled, stilled}
use Rattle.timers.specs.Due.{AreOnce}
use Rattle.machine.specs.Flows.{IsDue}
use Rattle.machine.specs.Judged.{Judged, AreJudged, IsJudged}
use Rattle.machine.specs.Machine.{State, after, step}
use Rattle.machine.specs.Noted.{AreEntriesOf, AreEntriesOfAll, AreOver, HasEntry, IsResumed, between, lasting, entries_for, sessions_at}
use Rattle.machine.specs.Sound.{IsSoundState}
use Rattle.machine.specs.declared.event.Event.{Event}
use Rattle.durable.specs.Coding.{Begin, Entry, Restart, Seen}
use Rattle.durable.specs.Entering.{Durable, Enters, IsDurable, flow_of}

-- the entries of an event do to what must survive what its step does to the state
abbrev pub EntriesAreTheStep : Type 0
EntriesAreTheStep =
    (config : Config) (s : State) (event : Event) (judged : Judged) (entries : List Entry)
    → IsTrue (is_config config) → IsSoundState config s → IsJudged config event judged
    → AreEntriesOf config s judged entries
    → Enters config entries (lasting s) (lasting (step config s judged).0)

-- so do those of a run, in turn
abbrev pub RunsAreEntered : Type 0
RunsAreEntered =
    (config : Config) (s : State) (events : List Event) (judged : List Judged)
    (entries : List Entry)
    → IsTrue (is_config config) → IsSoundState config s → AreJudged config events judged
    → AreEntriesOfAll config s judged entries
    → Enters config entries (lasting s) (lasting (after config s judged))

-- an event has no entries exactly where none is needed
abbrev pub EntriesAreNeeded : Type 0
EntriesAreNeeded =
    (config : Config) (s : State) (event : Event) (judged : Judged) (entries : List Entry)
    → IsTrue (is_config config) → IsSoundState config s → IsJudged config event judged
    → AreEntriesOf config s judged entries
    → (entries ≡ []) ↔ ¬ HasEntry config s judged

-- of every event there is a list of entries, which may be empty
abbrev pub EntriesAreThere : Type 0
EntriesAreThere = (config : Config) (s : State) (judged : Judged) → IsSoundState config s
    → (entries : List Entry) × AreEntriesOf config s judged entries

-- an event with no entries leaves what must survive as it is
abbrev pub QuietStepsKeep : Type 0
QuietStepsKeep =
    (config : Config) (s : State) (event : Event) (judged : Judged)
    → IsTrue (is_config config) → IsSoundState config s → IsJudged config event judged
    → AreEntriesOf config s judged []
    → lasting (step config s judged).0 ≡ lasting s

-- whether an event has entries does not depend on the order that the sessions which end are told in
abbrev pub EntriesAgreeOnNone : Type 0
EntriesAgreeOnNone =
    (config : Config) (s : State) (judged : Judged) (entries others : List Entry)
    → AreEntriesOf config s judged entries → AreEntriesOf config s judged others
    → (entries ≡ []) ↔ (others ≡ [])

-- What makes one session another of its flow and outside endpoint: nothing where opener and bits are the same, the
-- bits where only they differ and there are some, else a beginning anew.
pub record TellsChange (s t : Session) : Type 0 where
  pub nothing : s.opener ≡ t.opener → s.seen ≡ t.seen → between s t ≡ []
  pub seen : s.opener ≡ t.opener → s.seen ≢ t.seen → 0 < t.seen
      → between s t ≡ Seen (flow_of t) t.seen ∷ []
  pub emptied : s.seen ≢ t.seen → t.seen ≡ 0
      → between s t ≡ Restart (flow_of t) t.opener t.seen ∷ []
  pub turned : s.opener ≢ t.opener → between s t ≡ Restart (flow_of t) t.opener t.seen ∷ []

abbrev pub ChangesAreTold : Type 0
ChangesAreTold = (s t : Session) → TellsChange s t

-- The entry of a packet of a session that is held: a restart where a SYN alone begins a closing session anew, else what
-- was seen where a bit of it is new, else none.
pub record TellsPacket (sessions : List Session) (s : Session) (sender : Opener) (flags : Flags)
    (now : ℕ) : Type 0 where
  pub anew : restarts s flags ≡ true → entries_for sessions (passed_by s sender flags now)
      ≡ Restart (flow_of s) sender 0 ∷ []
  pub nothing : restarts s flags ≡ false
      → bit_or s.seen (shown s.proto s.opener sender flags) ≡ s.seen
      → entries_for sessions (passed_by s sender flags now) ≡ []
  pub seen : restarts s flags ≡ false → bit_or s.seen (shown s.proto s.opener sender flags) ≢ s.seen
      → entries_for sessions (passed_by s sender flags now)
      ≡ Seen (flow_of s) (bit_or s.seen (shown s.proto s.opener sender flags)) ∷ []

abbrev pub PacketsAreTold : Type 0
PacketsAreTold =
    (config : Config) (sessions : List Session) (s : Session) (sender : Opener)
    (flags : Flags) (now : ℕ)
    → AreSound config sessions → In s sessions → TellsPacket sessions s sender flags now

-- A table tells the entry of a session that takes its place there: by the session of its flow that a slot holds, or it
-- begins, where it clashes with none.
pub record TellsEntries (held : List (Option Session)) : Type 0 where
  pub goes_on : (slot : ℕ) (s t : Session) → slice_index_or held slot None ≡ Some s
      → same_flow t s ≡ true
      → entries_for (listing held) t ≡ between s t
  pub begins : (t : Session) → ¬ AnyClash held t
      → entries_for (listing held) t ≡ Begin (stilled t) ∷ []

abbrev pub TablesTellEntries : Type 0
TablesTellEntries = (held : List (Option Session)) → IsSoundTable held → TellsEntries held

-- a session of another flow makes no difference to an entry
abbrev pub FlowsAreNotedApart : Type 0
FlowsAreNotedApart = (sessions : List Session) (t u : Session) → same_flow u t ≡ false
    → entries_for (put t sessions) u ≡ entries_for sessions u

-- the slots whose sessions are due, each once, hold the sessions that end
abbrev pub DueSlotsAreOver : Type 0
DueSlotsAreOver =
    (held : List (Option Session)) (now : ℕ) (slots : List ℕ) → IsSoundTable held
    → ((slot : ℕ) → Contains slots slot ↔ IsSomeAnd (slice_index_or held slot None) (IsDue now))
    → AreOnce slots
    → AreOver now (listing held) (sessions_at held slots)

-- what must survive of a sound state is what a gateway may have, without moments
abbrev pub LastingIsSound : Type 0
LastingIsSound = (config : Config) (s : State) → IsSoundState config s
    → IsDurable config (lasting s) × AreStilled (lasting s).sessions

-- from whatever a gateway may have a state can be begun again
abbrev pub RestartsAreThere : Type 0
RestartsAreThere = (config : Config) (d : Durable) (moment : ℕ) → IsDurable config d
    → (s : State) × IsResumed config d moment s

-- a state that is begun again is sound, and just what it was begun from must survive of it, where no session of that
-- has a moment
abbrev pub RestartsAreSound : Type 0
RestartsAreSound =
    (config : Config) (d : Durable) (moment : ℕ) (s : State) → IsDurable config d
    → AreStilled d.sessions
    → IsResumed config d moment s → IsSoundState config s × (lasting s ≡ d)
