-- The entries of an event against its step.
use Rattle.std.proofs.Common.{◌≡◌, ℕ, List, Result, Ok, Err, true, inr, refl, sym, subst}
use Rattle.packet.specs.Config.{Config, is_config}
use Rattle.packet.specs.Fields.{fields}
use Rattle.packet.specs.Route.{route}
use Rattle.packet.specs.declared.endpoint.Iface.{Iface}
use Rattle.packet.specs.declared.fault.Fault.{Fault}
use Rattle.packet.specs.declared.route.Route.{Route}
use Rattle.packet.specs.declared.route.RouteFault.{RouteFault}
use Rattle.packet.specs.declared.view.View.{View}
use Rattle.hairpin.specs.Legs.{Passage}
use Rattle.hairpin.specs.declared.cause.Cause.{Cause}
use Rattle.hairpin.proofs.Soundness.{IsFine}
use Rattle.machine.specs.Judged.{Judged, IsRight}
use Rattle.machine.specs.Machine.{State, act, aged, later, leg, on_route, sent, step, with_fields}
use Rattle.machine.specs.Noted.{AreEntriesOf, ends, lasting, of_deed, of_fields, of_route, of_way}
use Rattle.machine.specs.Sound.{IsSoundState}
use Rattle.machine.specs.declared.deed.Deed.{Deed}
use Rattle.machine.specs.declared.deed.Deed.TheVariants as deed
use Rattle.machine.proofs.Soundness.{aged-sound, later-above, leg-fine}
use Rattle.durable.specs.Coding.{Entry}
use Rattle.durable.specs.Entering.{Enters}
use Rattle.entries.proofs.Changing.{all-enter}
use Rattle.entries.proofs.Over.{ends-enter}
use Rattle.entries.proofs.Stilled.{join}

module _ (config : Config) (is_one : is_config config ≡ true) where
  abbrev Leads : List Entry → State → State → Type 0
  Leads es old new = Enters config es (lasting old) (lasting new)

  module _ (s : State) (sound : IsSoundState config s) where
    way-enters : (bytes : List ℕ) (way : Result Passage Cause) → IsFine config s.sessions s.clock way → Leads (of_way s.sessions way) s (sent s bytes way).0
    way-enters bytes (Err why) fine = refl
    way-enters bytes (Ok passage) fine = all-enter config s.clock s.text passage.sessions s.sessions sound.sessions fine.each

    pub fine-leg : (iface : Iface) (bytes : List ℕ) (view : View) → fields bytes ≡ Ok view → (r : Route) → route config iface view ≡ Ok r → IsFine config s.sessions s.clock (leg config s view r)
    fine-leg = leg-fine config is_one s sound (λ p. Unit {0}) (λ a. tt) (λ ts iface bytes joins. tt)

    route-enters : (iface : Iface) (bytes : List ℕ) (view : View) → fields bytes ≡ Ok view → (r : Result Route RouteFault) → route config iface view ≡ r
        → Leads (of_route config s view r) s (on_route config s bytes view r).0
    route-enters iface bytes view is (Err fault) e = refl
    route-enters iface bytes view is (Ok r) e = way-enters bytes (leg config s view r) (fine-leg iface bytes view is r e)

    fields-enter : (iface : Iface) (bytes : List ℕ) (r : Result View Fault) → fields bytes ≡ r → Leads (of_fields config s iface r) s (with_fields config s iface bytes r).0
    fields-enter iface bytes (Err fault) e = refl
    fields-enter iface bytes (Ok view) e = route-enters iface bytes view e (route config iface view) refl

    pub deed-enters : (d : Deed) → IsRight config d → Leads (of_deed config s d) s (act config s d).0
    deed-enters (deed.Take text rules) right = (inr (rules, right), refl)
    deed-enters (deed.Refuse text) right = refl
    deed-enters (deed.Packet iface bytes) right = fields-enter iface bytes (fields bytes) refl
    deed-enters deed.Moment right = refl

  pub step-entered : (s : State) (judged : Judged) (es : List Entry) → IsSoundState config s → IsRight config judged.deed → AreEntriesOf config s judged es → Leads es s (step config s judged).0
  unfolding step
  step-entered s judged es sound right are =
      let now = later s.clock judged.moment in
      let live = aged now s in
      let over = ends-enter config now s.text are.gone s.sessions sound.sessions.rises are.are_over in
      let does = deed-enters live (aged-sound config is_one s sound now (later-above s.clock judged.moment)) judged.deed right in
      subst (λ l. Leads l s (act config live judged.deed).0) (sym are.are)
      (join config (ends are.gone) (of_deed config live judged.deed) (lasting s) (lasting live) (lasting (act config live judged.deed).0) over does)
