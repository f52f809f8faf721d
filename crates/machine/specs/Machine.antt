-- The machine: a step, and runs of it.
use Rattle.std.specs.Prelude.{◌≡◌, ℕ, ◌+◌, List, [], ◌∷◌, length, true, nat_le, if◌then◌else◌, Result, Ok, Err}
use Rattle.std.specs.List.{filter}
use Rattle.packet.specs.Config.{Config}
use Rattle.packet.specs.Fields.{fields}
use Rattle.packet.specs.Route.{route}
use Rattle.packet.specs.Translated.{translated}
use Rattle.packet.specs.declared.endpoint.Iface.{Iface}
use Rattle.packet.specs.declared.fault.Fault.{Fault}
use Rattle.packet.specs.declared.route.Route.{Route}
use Rattle.packet.specs.declared.route.RouteFault.{RouteFault}
use Rattle.packet.specs.declared.view.View.{View}
use Rattle.ruletree.specs.declared.tree.Spelled.{Spelled}
use Rattle.sessions.specs.Life.{alive}
use Rattle.sessions.specs.Listing.{In as Member}
use Rattle.sessions.specs.declared.session.Session.{Session}
use Rattle.hairpin.specs.Causes.{cause_number}
use Rattle.hairpin.specs.Legs.{Passage, leg as leg_of, put_all}
use Rattle.hairpin.specs.declared.cause.Cause.{Cause}
use Rattle.hairpin.specs.declared.cause.Cause.TheVariants as cause
use Rattle.machine.specs.Judged.{Judged}
use Rattle.machine.specs.declared.deed.Deed.{Deed}
use Rattle.machine.specs.declared.deed.Deed.TheVariants as deed
use Rattle.machine.specs.declared.event.Answer.{Answer}
use Rattle.machine.specs.declared.event.Answer.TheVariants as answer

-- the text that loaded last and its rules, the sessions as a finite set, and the clock
pub record State : Type 0 where
  pub text : List ℕ
  pub rules : Spelled
  pub sessions : List Session
  pub clock : ℕ

-- the ruleset of no tables
abbrev pub no_tables : Spelled
no_tables = record { tables = [] }

-- no text, no rules and no session
abbrev pub empty_at : ℕ → State
empty_at moment = record { text = []; rules = no_tables; sessions = []; clock = moment }

-- the later moment
abbrev pub later : ℕ → ℕ → ℕ
later a b = if nat_le a b then b else a

-- the clock has come to this moment, and the sessions that are no longer alive have ended
abbrev pub aged : ℕ → State → State
aged now s = record s { sessions = filter (alive now) s.sessions; clock = now }

abbrev pub dropped : State → Cause → State × Answer
dropped s why = (s, answer.Dropped (cause_number why))

-- a packet passes as its leg says, or is dropped
abbrev pub sent : State → List ℕ → Result Passage Cause → State × Answer
sent s bytes (Err why) = dropped s why
sent s bytes (Ok passage) = (
  record s { sessions = put_all passage.sessions s.sessions },
  answer.Forward passage.iface (translated bytes passage.src passage.dst),
)

-- what the leg of a route comes to; of the state it reads no text, so that contracts say it of any
abbrev pub leg : Config → State → View → Route → Result Passage Cause
leg config s view = leg_of config s.rules s.sessions s.clock view

-- a packet with these fields, on its route
abbrev pub on_route : Config → State → List ℕ → View → Result Route RouteFault → State × Answer
on_route config s bytes view (Err fault) = dropped s (cause.Route fault)
on_route config s bytes view (Ok r) = sent s bytes (leg config s view r)

abbrev pub with_fields : Config → State → Iface → List ℕ → Result View Fault → State × Answer
with_fields config s iface bytes (Err fault) = dropped s (cause.Packet fault)
with_fields config s iface bytes (Ok view) = on_route config s bytes view (route config iface view)

-- a packet passes or is dropped
abbrev pub on_packet : Config → State → Iface → List ℕ → State × Answer
on_packet config s iface bytes = with_fields config s iface bytes (fields bytes)

-- what is done at the clock's moment
abbrev pub act : Config → State → Deed → State × Answer
act config s (deed.Take text rules) = (record s { text = text; rules = rules }, answer.Loaded)
act config s (deed.Refuse text) = (s, answer.Refused)
act config s (deed.Packet iface bytes) = on_packet config s iface bytes
act config s deed.Moment = (s, answer.Ticked)

-- the clock rises to the event's moment, the sessions that are no longer alive end, and then its deed is done
unfoldable pub step : Config → State → Judged → State × Answer
step config s judged = act config (aged (later s.clock judged.moment) s) judged.deed

-- every session is alive at this moment
abbrev pub EndsNone : ℕ → State → Type 0
EndsNone now s = (t : Session) → Member t s.sessions → alive now t ≡ true

-- what is done leaves as many sessions as there were
abbrev pub KeepsCount : State → State × Answer → Type 0
KeepsCount s done = length done.0.sessions ≡ length s.sessions

-- the state after these events
abbrev pub after : Config → State → List Judged → State
after config s [] = s
after config s (judged ∷ more) = after config (step config s judged).0 more

-- the answers to them
abbrev pub answers : Config → State → List Judged → List Answer
answers config s [] = []
answers config s (judged ∷ more) =
    (step config s judged).1 ∷ answers config (step config s judged).0 more

-- answers under the numbers behind last
abbrev pub numbered : ℕ → List Answer → List (ℕ × Answer)
numbered last [] = []
numbered last (a ∷ answers) = (last + 1, a) ∷ numbered (last + 1) answers
