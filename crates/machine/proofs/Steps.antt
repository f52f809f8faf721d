-- What is done at the sessions that are held is what the machine does.
use Rattle.std.proofs.Common.{◌≡◌, ℕ, ◌+◌, ◌≤◌, List, [], get_or, Option, None, Result, Ok, Err, sym, ap, ◌∙◌, subst, arith}
use Rattle.packet.specs.Config.{Config, Pool}
use Rattle.packet.specs.Fields.{fields}
use Rattle.packet.specs.Route.{route}
use Rattle.packet.specs.declared.endpoint.Iface.{Iface}
use Rattle.packet.specs.declared.route.Route.{Route}
use Rattle.packet.specs.declared.view.View.{View}
use Rattle.ruletree.specs.declared.tree.Spelled.{Spelled}
use Rattle.sessions.specs.Listing.{listing}
use Rattle.sessions.specs.declared.session.Session.{Session}
use Rattle.sessions.specs.Table.{IsSoundTable}
use Rattle.sessions.proofs.Sets.{Apart-sound, listing-In}
use Rattle.hairpin.proofs.Beginning.{listing-none}
use Rattle.hairpin.specs.Legs.{Passage}
use Rattle.hairpin.specs.Plans.{Plans}
use Rattle.hairpin.specs.declared.cause.Cause.{Cause}
use Rattle.hairpin.specs.declared.plan.Plan.{Plan}
use Rattle.machine.specs.Core.{Core, IsCore, AddsNoSession, state_of}
use Rattle.machine.specs.Judged.{Judged}
use Rattle.machine.specs.Machine.{State, EndsNone, KeepsCount, act, aged, later, no_tables, on_route, on_packet, sent, step, with_fields}
use Rattle.machine.specs.Sound.{IsSoundState}
use Rattle.machine.specs.Flows.{Flows, IsNoneLater, adds, adds_second}
use Rattle.machine.specs.declared.deed.Deed.{Deed}
use Rattle.machine.proofs.Later.{plan-adds}
use Rattle.machine.proofs.Soundness.{later-above, start-sound}

-- a plan that leads to no more sessions adds none
pub plans-few : (external : Pool) (held : List (Option Session)) (now : ℕ) (bytes : List ℕ) (plan : Plan) (way : Result Passage Cause) → IsSoundTable held → Plans external held now (Ok plan) way
    → AddsNoSession (λ s. sent s bytes way) held now → adds plan.first + adds_second plan.second ≡ 0
plans-few external held now bytes plan (Ok passage) sound is few =
    omega (arith, plan-adds external held now plan.first plan.second passage.sessions (Apart-sound held sound) is.sessions, few [] no_tables)
plans-few external held now bytes plan (Err cause) sound is few = absurd is

-- a packet whose fields and route are known
pub on_packet-is : (config : Config) (iface : Iface) (bytes : List ℕ) (view : View) (r : Route) → fields bytes ≡ Ok view → route config iface view ≡ Ok r
    → (s : State) → on_packet config s iface bytes ≡ on_route config s bytes view (Ok r)
on_packet-is config iface bytes view r is on s = ap (with_fields config s iface bytes) is ∙ ap (on_route config s bytes view) on

-- what a sound state says of the slots
pub latest_held : (config : Config) (text : List ℕ) (rules : Spelled) (clock now : ℕ) (held : List (Option Session)) → IsSoundState config (state_of text rules held clock) → clock ≤ now → IsNoneLater held now
latest_held config text rules clock now held sound le = λ slot s is. omega (arith, sound.latest s (listing-In held s slot is))

pub latest_later : (config : Config) (text : List ℕ) (rules : Spelled) (clock moment now : ℕ) (held : List (Option Session)) → IsSoundState config (state_of text rules held clock) → now ≡ later clock moment → IsNoneLater held now
latest_later config text rules clock moment now held sound e = latest_held config text rules clock now held sound (omega (arith, later-above clock moment, e))

pub few-acts : (config : Config) (s : State) (judged : Judged) (now : ℕ) (d : Deed) → now ≡ later s.clock judged.moment → judged.deed ≡ d → KeepsCount s (step config s judged) → KeepsCount s (act config (aged now s) d)
unfolding step
few-acts config s judged now d e is few =
    subst (λ n. KeepsCount s (act config (aged n s) d)) (sym e) (subst (λ x. KeepsCount s (act config (aged (later s.clock judged.moment) s) x)) is few)

abbrev core_at : Config → List ℕ → Spelled → List Session → ℕ → Core
core_at config text rules sessions clock = record { config = config; state = record { text = text; rules = rules; sessions = sessions; clock = clock } }

pub begins : (config : Config) (text : List ℕ) (rules : Spelled) (held : List (Option Session)) (moment : ℕ) → text ≡ [] → rules ≡ no_tables → ((slot : ℕ) → get_or held slot None ≡ None)
    → core_at config text rules (listing held) moment ≡ core_at config [] no_tables [] moment
begins config text rules held moment none_said none_ruled none =
    ap (λ t. core_at config t rules (listing held) moment) none_said ∙ ap (λ r. core_at config [] r (listing held) moment) none_ruled
    ∙ ap (λ ss. core_at config [] no_tables ss moment) (listing-none held none)

pub started : (config : Config) (text : List ℕ) (rules : Spelled) (flows : Flows) (moment : ℕ) → flows.translations.external ≡ config.external → text ≡ [] → rules ≡ no_tables
    → ((slot : ℕ) → get_or flows.table.held slot None ≡ None) → IsCore config text rules flows moment
started config text rules flows moment external none_said none_ruled none = record {
  external = external;
  sound = subst (λ (c : Core). IsSoundState config c.state) (sym (begins config text rules flows.table.held moment none_said none_ruled none)) (start-sound config moment);
  live = subst (λ (c : Core). EndsNone moment c.state) (sym (begins config text rules flows.table.held moment none_said none_ruled none)) (λ s held. absurd held);
}
