-- A step keeps a state sound.
use Rattle.std.proofs.Common.{◌≡◌, ◌⊎◌, ℕ, ◌≤◌, List, [], ◌∷◌, Result, Ok, Err, Contains, true, not, ◌||◌, refl, sym, subst, inl, inr, arith}
use Rattle.std.specs.List.{filter}
use Rattle.std.proofs.lemmas.Bool.{or_cases}
use Rattle.std.proofs.lemmas.Bool.Decides.{nat_tests}
use Rattle.packet.specs.Config.{Config, is_config, is_external, is_inside}
use Rattle.packet.specs.Fields.{fields}
use Rattle.packet.specs.Numbers.{fault_number, route_fault_number}
use Rattle.packet.specs.Route.{route}
use Rattle.packet.specs.Translated.{translated}
use Rattle.packet.specs.declared.endpoint.Iface.{Iface}
use Rattle.packet.specs.declared.fault.Fault.{Fault}
use Rattle.packet.specs.declared.route.Route.{Route}
use Rattle.packet.specs.declared.route.Route.TheVariants.{Out, In, Hairpin}
use Rattle.packet.specs.declared.route.RouteFault.{RouteFault}
use Rattle.packet.specs.declared.view.View.{View}
use Rattle.packet.proofs.Pools.{listed-is}
use Rattle.packet.proofs.Routes.{routed_is_on_route}
use Rattle.ruletree.specs.declared.tree.Spelled.{Spelled}
use Rattle.sessions.specs.Life.{alive}
use Rattle.sessions.specs.Listing.{put, same_flow, In as Member}
use Rattle.sessions.specs.declared.session.Session.{Session}
use Rattle.sessions.proofs.Sets.{In-filter, In-insert}
use Rattle.machine.proofs.Bounded.{bounds-kept}
use Rattle.hairpin.specs.Causes.{cause_number}
use Rattle.hairpin.specs.Legs.{Passage, put_all}
use Rattle.hairpin.specs.KeepBounds.{KeepBounds}
use Rattle.hairpin.specs.declared.cause.Cause.{Cause}
use Rattle.hairpin.proofs.Beginning.{none-from, none-to}
use Rattle.hairpin.proofs.Doubling.{fine-hairpin}
use Rattle.hairpin.proofs.Incoming.{fine-in}
use Rattle.hairpin.proofs.Opening.{fine-out}
use Rattle.hairpin.proofs.Soundness.{JoinAll, IsFine, filter-sound}
use Rattle.machine.specs.Judged.{Judged, AreJudged, IsRight}
use Rattle.machine.specs.Laws.{living}
use Rattle.machine.specs.Machine.{State, step, act, with_fields, on_route, leg, sent, aged, later, after, empty_at}
use Rattle.machine.specs.Sound.{IsInForce, IsSoundState}
use Rattle.machine.specs.declared.deed.Deed.{Deed}
use Rattle.machine.specs.declared.deed.Deed.TheVariants as deed
use Rattle.machine.specs.declared.event.Answer.{Answer}
use Rattle.machine.specs.declared.event.Answer.TheVariants as answer
use Rattle.machine.specs.declared.event.Event.{Event}
use Rattle.machine.proofs.Reading.{ports_are_some}

pub later-above : (a b : ℕ) → a ≤ later a b
later-above a b = grind (arith, nat_tests)

-- the rules in force translate to nothing out of bounds
pub bounded : (config : Config) (text : List ℕ) (rules : Spelled) → IsInForce config text rules → KeepBounds config rules
bounded config text rules (inr loads) = bounds-kept config text rules loads
bounded config text rules (inl none) = subst (KeepBounds config) (sym none.1)
    (record { to = λ facts inside h. absurd (none-to config facts inside h); port = λ facts inside h. absurd (none-to config facts inside h); from = λ facts addr h. absurd (none-from config facts addr h) })

pub external-is : (config : Config) (addr : ℕ) → is_external config addr ≡ true → Contains config.external addr
external-is config addr h = (listed-is config.external addr).0 h

-- a packet that comes in is for an inside address, or for an external one
pub comes-to : (config : Config) (addr : ℕ) → (is_external config addr || is_inside config addr) ≡ true → (is_inside config addr ≡ true) ⊎ Contains config.external addr
comes-to config addr h = elim (or_cases (is_external config addr) (is_inside config addr) h) [ inl external ↦ inr (external-is config addr external) | inr inside ↦ inl inside ]

-- what is done changes nothing, takes a text, or lets a packet pass
module _ (config : Config) (s : State) (d : Deed) (P : State × Answer → Type 0)
    (stays : (a : Answer) → P (s, a))
    (takes : (text : List ℕ) (rules : Spelled) → d ≡ deed.Take text rules → P (record s { text = text; rules = rules }, answer.Loaded))
    (passes : (iface : Iface) (bytes : List ℕ) (view : View) (r : Route) → d ≡ deed.Packet iface bytes → fields bytes ≡ Ok view → route config iface view ≡ Ok r → (p : Passage) → leg config s view r ≡ Ok p
    → P (record s { sessions = put_all p.sessions s.sessions }, answer.Forward p.iface (translated bytes p.src p.dst))) where
  module _ (iface : Iface) (bytes : List ℕ) (deed_is : d ≡ deed.Packet iface bytes) where
    way-does : (view : View) → fields bytes ≡ Ok view → (r : Route) → route config iface view ≡ Ok r → (way : Result Passage Cause) → leg config s view r ≡ way → P (sent s bytes way)
    way-does view fields_are r route_is (Err cause) h = stays (answer.Dropped (cause_number cause))
    way-does view fields_are r route_is (Ok p) h = passes iface bytes view r deed_is fields_are route_is p h

    route-does : (view : View) → fields bytes ≡ Ok view → (r : Result Route RouteFault) → route config iface view ≡ r → P (on_route config s bytes view r)
    route-does view fields_are (Err fault) route_is = stays (answer.Dropped (route_fault_number fault))
    route-does view fields_are (Ok r) route_is = way-does view fields_are r route_is (leg config s view r) refl

    fields-do : (f : Result View Fault) → fields bytes ≡ f → P (with_fields config s iface bytes f)
    fields-do (Err fault) fields_are = stays (answer.Dropped (fault_number fault))
    fields-do (Ok view) fields_are = route-does view fields_are (route config iface view) refl

  pub done-by : (done : Deed) → d ≡ done → P (act config s done)
  done-by (deed.Take text rules) is = takes text rules is
  done-by (deed.Refuse text) is = stays answer.Refused
  done-by (deed.Packet iface bytes) is = fields-do iface bytes is (fields bytes) refl
  done-by deed.Moment is = stays answer.Ticked

-- a packet that passes joins its sessions to sound ones
module _ (config : Config) (is_one : is_config config ≡ true) (s : State) (sound : IsSoundState config s) (P : State × Answer → Type 0)
    (stays : (a : Answer) → P (s, a))
    (puts : (ts : List Session) (iface : Iface) (bytes : List ℕ) → JoinAll config s.sessions s.clock ts → P (record s { sessions = put_all ts s.sessions }, answer.Forward iface bytes)) where
  pub leg-fine : (iface : Iface) (bytes : List ℕ) (view : View) → fields bytes ≡ Ok view → (r : Route) → route config iface view ≡ Ok r → IsFine config s.sessions s.clock (leg config s view r)
  leg-fine iface bytes view is Out e =
      let ports = ports_are_some bytes view is in
      fine-out config s.rules s.sessions s.clock view is_one sound.sessions (bounded config s.text s.rules sound.in_force) (routed_is_on_route config iface view Out e).1.1 ports.0 ports.1
  leg-fine iface bytes view is In e =
      let ports = ports_are_some bytes view is in
      fine-in config s.rules s.sessions s.clock view is_one sound.sessions (bounded config s.text s.rules sound.in_force) (comes-to config view.dst.addr (routed_is_on_route config iface view In e).1.3) ports.0 ports.1
  leg-fine iface bytes view is Hairpin e =
      let there = (routed_is_on_route config iface view Hairpin e).1 in
      let ports = ports_are_some bytes view is in
      fine-hairpin config s.rules s.sessions s.clock view is_one sound.sessions (bounded config s.text s.rules sound.in_force) there.1 (external-is config view.dst.addr there.2) ports.0 ports.1

  pub act-by : (d : Deed) → ((text : List ℕ) (rules : Spelled) → d ≡ deed.Take text rules → P (record s { text = text; rules = rules }, answer.Loaded)) → P (act config s d)
  act-by d takes = done-by config s d P stays takes
      (λ iface bytes view r deed_is fields_are route_is p h. puts p.sessions p.iface (translated bytes p.src p.dst) (subst (IsFine config s.sessions s.clock) h (leg-fine iface bytes view fields_are r route_is)))
      d refl

-- where all that is put in was seen at this moment
pub put_all-member : (ts sessions : List Session) (u : Session) → Member u (put_all ts sessions) → Member u ts ⊎ Member u sessions
put_all-member [] sessions u is = inr is
put_all-member (t ∷ ts) sessions u is = elim (put_all-member ts (put t sessions) u is) [
  | inl later ↦ inl (inr later)
  | inr now ↦ elim (In-insert t (filter (λ v. not (same_flow t v)) sessions) u now) [
    | inl e ↦ inl (inl e)
    | inr old ↦ inr (In-filter (λ v. not (same_flow t v)) sessions u old).0
  ]
]

module _ (config : Config) (is_one : is_config config ≡ true) where
  pub aged-sound : (s : State) → IsSoundState config s → (now : ℕ) → s.clock ≤ now → IsSoundState config (aged now s)
  aged-sound s sound now le = record {
    sessions = filter-sound config s.sessions sound.sessions (alive now);
    latest = λ t is. omega (arith, sound.latest t (In-filter (alive now) s.sessions t is).0);
    in_force = sound.in_force;
  }

  pub living-sound : (s : State) (judged : Judged) → IsSoundState config s → IsSoundState config (living s judged)
  living-sound s judged sound = aged-sound s sound (later s.clock judged.moment) (later-above s.clock judged.moment)

  pub act-sound : (s : State) → IsSoundState config s → (d : Deed) → IsRight config d → IsSoundState config (act config s d).0
  act-sound s sound d right = act-by config is_one s sound (λ p. IsSoundState config p.0) (λ a. sound)
      (λ ts iface bytes joins. record {
        sessions = joins.sound;
        latest = λ u is. elim (put_all-member ts s.sessions u is) [ inl new ↦ omega (arith, joins.last u new) | inr old ↦ sound.latest u old ];
        in_force = sound.in_force;
      })
      d (λ text rules e. record { sessions = sound.sessions; latest = sound.latest; in_force = inr (subst (IsRight config) e right) })

  pub step-sound : (s : State) (judged : Judged) → IsRight config judged.deed → IsSoundState config s → IsSoundState config (step config s judged).0
  unfolding step
  step-sound s judged right sound = act-sound (living s judged) (living-sound s judged sound) judged.deed right

  -- what each step keeps, a run keeps
  pub run-keeps : (P : State → Type 0) → ((s : State) (judged : Judged) → IsRight config judged.deed → IsSoundState config s → P s → P (step config s judged).0)
      → (s : State) (events : List Event) (judged : List Judged) → AreJudged config events judged → IsSoundState config s → P s → P (after config s judged)
  run-keeps P keeps s [] [] are sound holds = holds
  run-keeps P keeps s [] (j ∷ more) are sound holds = absurd are
  run-keeps P keeps s (event ∷ events) [] are sound holds = absurd are
  run-keeps P keeps s (event ∷ events) (j ∷ more) are sound holds = run-keeps P keeps (step config s j).0 events more are.1 (step-sound s j are.0.right sound) (keeps s j are.0.right sound holds)

  pub run-sound : (s : State) (events : List Event) (judged : List Judged) → AreJudged config events judged → IsSoundState config s → IsSoundState config (after config s judged)
  run-sound s events judged are sound = run-keeps (IsSoundState config) (λ at j right before same. step-sound at j right before) s events judged are sound sound

pub start-sound : (config : Config) (moment : ℕ) → IsSoundState config (empty_at moment)
start-sound config moment = record {
  sessions = record { rises = tt; apart = λ s t not_in. absurd not_in; at_most = omega arith; placed = λ s not_in. absurd not_in; seen = λ s not_in. absurd not_in };
  latest = λ s not_in. absurd not_in;
  in_force = inl (refl, refl);
}
