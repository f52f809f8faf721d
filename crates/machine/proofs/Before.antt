-- With one external address, and filtering by endpoint, a step is the former one.
use Rattle.std.proofs.Common.{◌≡◌, ◌↔◌, ℕ, ◌==◌, true, false, List, [], ◌∷◌, Result, Ok, Err, refl, sym, ap, ◌∙◌, inl, inr}
use Rattle.std.proofs.lemmas.Bool.{eq-eqb, false≢true, or_cases, or_left}
use Rattle.packet.proofs.Accepted.{same_eq}
use Rattle.packet.specs.Config.{Config, Pool, is_external, is_listed}
use Rattle.packet.specs.Fields.{fields}
use Rattle.packet.specs.Route.{route}
use Rattle.packet.specs.declared.bounds.Filtering.TheVariants as filtering
use Rattle.packet.specs.declared.endpoint.Iface.{Iface}
use Rattle.packet.specs.declared.fault.Fault.{Fault}
use Rattle.packet.specs.declared.route.Route.{Route}
use Rattle.packet.specs.declared.route.Route.TheVariants.{Out, In, Hairpin}
use Rattle.packet.specs.declared.route.RouteFault.{RouteFault}
use Rattle.packet.specs.declared.view.View.{View}
use Rattle.packet.proofs.Routes.{routed_is_on_route}
use Rattle.hairpin.proofs.Same.{as_before}
use Rattle.machine.specs.Former.{former_act, former_answers, former_leg, former_on_route, former_step, former_with_fields}
use Rattle.machine.specs.Judged.{Judged}
use Rattle.machine.specs.Machine.{State, act, aged, answers, later, leg, on_route, sent, step, with_fields}
use Rattle.machine.specs.declared.deed.Deed.{Deed}
use Rattle.machine.specs.declared.deed.Deed.TheVariants as deed
use Rattle.machine.specs.declared.event.Answer.{Answer}

only-listed : (only addr : ℕ) → is_listed (only ∷ []) addr ≡ true → addr ≡ only
unfolding is_listed
only-listed only addr h = elim (or_cases (only == addr) false h) [ inl same ↦ sym (same_eq only addr same) | inr none ↦ absurd (false≢true none) ]

listed-only : (only addr : ℕ) → addr ≡ only → is_listed (only ∷ []) addr ≡ true
unfolding is_listed
listed-only only addr e = or_left (only == addr) false (eq-eqb only addr (sym e))

module _ (config : Config) (only : ℕ) (one : config.external ≡ only ∷ []) where
  pub only-external : (addr : ℕ) → (is_external config addr ≡ true) ↔ (addr ≡ only)
  only-external addr = (
    (λ h. only-listed only addr (sym (ap (λ (p : Pool). is_listed p addr) one) ∙ h)),
    (λ e. ap (λ (p : Pool). is_listed p addr) one ∙ listed-only only addr e),
  )

  module _ (by : config.filtering ≡ filtering.Endpoint) where
    pub leg-same : (s : State) (view : View) (r : Route) → (r ≡ Hairpin → view.dst.addr ≡ only) → leg config s view r ≡ former_leg only config s view r
    leg-same s view Out at = as_before.out only config s.rules s.sessions s.clock view one
    leg-same s view In at = as_before.inward only config s.rules s.sessions s.clock view by
    leg-same s view Hairpin at = as_before.hairpin only config s.rules s.sessions s.clock view one by (at refl)

    hairpins-to : (iface : Iface) (view : View) (r : Route) → route config iface view ≡ Ok r → r ≡ Hairpin → view.dst.addr ≡ only
    hairpins-to iface view r routed is = (only-external view.dst.addr).0 (routed_is_on_route config iface view Hairpin (routed ∙ ap Ok is)).1.2

    route-same : (s : State) (iface : Iface) (bytes : List ℕ) (view : View) (r : Result Route RouteFault) → route config iface view ≡ r → on_route config s bytes view r ≡ former_on_route only config s bytes view r
    route-same s iface bytes view (Err fault) routed = refl
    route-same s iface bytes view (Ok r) routed = ap (sent s bytes) (leg-same s view r (hairpins-to iface view r routed))

    fields-same : (s : State) (iface : Iface) (bytes : List ℕ) (f : Result View Fault) → with_fields config s iface bytes f ≡ former_with_fields only config s iface bytes f
    fields-same s iface bytes (Err fault) = refl
    fields-same s iface bytes (Ok view) = route-same s iface bytes view (route config iface view) refl

    act-same : (s : State) (d : Deed) → act config s d ≡ former_act only config s d
    act-same s (deed.Take text rules) = refl
    act-same s (deed.Refuse text) = refl
    act-same s (deed.Packet iface bytes) = fields-same s iface bytes (fields bytes)
    act-same s deed.Moment = refl

    step-same : (s : State) (judged : Judged) → step config s judged ≡ former_step only config s judged
    unfolding step former_step
    step-same s judged = act-same (aged (later s.clock judged.moment) s) judged.deed

    pub answers-same : (s : State) (judged : List Judged) → answers config s judged ≡ former_answers only config s judged
    answers-same s [] = refl
    answers-same s (j ∷ more) =
        ap (λ (p : State × Answer). p.1 ∷ answers config p.0 more) (step-same s j)
        ∙ ap (λ (l : List Answer). (former_step only config s j).1 ∷ l) (answers-same (former_step only config s j).0 more)
