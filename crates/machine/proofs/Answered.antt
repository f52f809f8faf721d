-- A packet is answered by the first cause that holds.
use Rattle.std.proofs.Common.{◌≡◌, ℕ, ◌<◌, ◌^◌, List, Result, Ok, Err, true, ap, ◌∙◌}
use Rattle.packet.specs.Config.{Config, is_config}
use Rattle.packet.specs.Fields.{fields}
use Rattle.packet.specs.Route.{route}
use Rattle.packet.specs.Translated.{translated}
use Rattle.packet.specs.declared.endpoint.Iface.{Iface}
use Rattle.packet.specs.declared.fault.Fault.{Fault}
use Rattle.packet.specs.declared.route.Route.{Route}
use Rattle.packet.specs.declared.route.Route.TheVariants.{Out, Hairpin, In as InRoute}
use Rattle.packet.specs.declared.route.RouteFault.{RouteFault}
use Rattle.packet.specs.declared.view.View.{View}
use Rattle.packet.proofs.Routes.{routed_is_on_route}
use Rattle.hairpin.specs.Causes.{cause_number}
use Rattle.hairpin.specs.Legs.{Passage}
use Rattle.hairpin.specs.declared.cause.Cause.{Cause}
use Rattle.hairpin.specs.declared.cause.Cause.TheVariants as cause
use Rattle.machine.specs.Judged.{Judged}
use Rattle.machine.specs.Laws.{Came, living}
use Rattle.machine.specs.Machine.{State, act, later, leg, on_route, sent, step, with_fields}
use Rattle.machine.specs.Order.{CausesComeInOrder, FirstDrops, Holds, cause_of, reasons}
use Rattle.machine.specs.Sound.{IsSoundState}
use Rattle.machine.specs.declared.deed.Deed.{Deed}
use Rattle.machine.specs.declared.deed.Deed.TheVariants as deed
use Rattle.machine.specs.declared.event.Answer.{Answer}
use Rattle.machine.specs.declared.event.Answer.TheVariants.{Dropped, Forward}
use Rattle.machine.proofs.Left.{step-of}
use Rattle.machine.proofs.Looked.{Ordered, first-map}
use Rattle.machine.proofs.Ordered.{in-ordered, out-ordered}
use Rattle.machine.proofs.OrderedBoth.{hairpin-ordered}
use Rattle.machine.proofs.Reading.{ports_are_some}
use Rattle.machine.proofs.Soundness.{aged-sound, external-is, later-above}
use Rattle.machine.proofs.Staying.{at-listed}

unread : (config : Config) (s : State) (judged : Judged) (iface : Iface) (bytes : List ℕ) (fault : Fault) → judged.deed ≡ deed.Packet iface bytes → fields bytes ≡ Err fault
    → (step config s judged).1 ≡ Dropped (cause_number (cause.Packet fault))
unfolding step
unread config s judged iface bytes fault deed_is fields_are =
    ap (λ (d : Deed). (act config (living s judged) d).1) deed_is ∙ ap (λ (f : Result View Fault). (with_fields config (living s judged) iface bytes f).1) fields_are

unrouted : (config : Config) (s : State) (judged : Judged) (iface : Iface) (bytes : List ℕ) (view : View) (fault : RouteFault) → judged.deed ≡ deed.Packet iface bytes → fields bytes ≡ Ok view → route config iface view ≡ Err fault
    → (step config s judged).1 ≡ Dropped (cause_number (cause.Route fault))
unfolding step
unrouted config s judged iface bytes view fault deed_is fields_are route_is =
    ap (λ (d : Deed). (act config (living s judged) d).1) deed_is
    ∙ ap (λ (f : Result View Fault). (with_fields config (living s judged) iface bytes f).1) fields_are
    ∙ ap (λ (r : Result Route RouteFault). (on_route config (living s judged) bytes view r).1) route_is

module _ (config : Config) (s : State) (judged : Judged) (iface : Iface) (bytes : List ℕ) (view : View) (is_one : is_config config ≡ true) (sound : IsSoundState config s) (fits : view.src.port < 2 ^ 16) where
  abbrev live : State
  live = living s judged

  leg-ordered : (r : Route) → Came config judged iface bytes view r → Ordered (Holds config live view r) (leg config live view r) (reasons r)
  leg-ordered Out came =
      let all = (aged-sound config is_one s sound (later s.clock judged.moment) (later-above s.clock judged.moment)).sessions in
      out-ordered config live view all (ports_are_some bytes view came.fields_are).0 fits (at-listed config live.sessions view.src.addr all)
  leg-ordered InRoute came =
      let all = (aged-sound config is_one s sound (later s.clock judged.moment) (later-above s.clock judged.moment)).sessions in
      in-ordered config live view all
  leg-ordered Hairpin came =
      let all = (aged-sound config is_one s sound (later s.clock judged.moment) (later-above s.clock judged.moment)).sessions in
      let there = routed_is_on_route config iface view Hairpin came.route_is in
      let ports = ports_are_some bytes view came.fields_are in
      hairpin-ordered config live view is_one all there.1.1 (external-is config view.dst.addr there.1.2) ports.0 fits ports.1 (at-listed config live.sessions view.src.addr all)

  pub routed : (r : Route) → Came config judged iface bytes view r
      → FirstDrops (Holds config live view r) (λ why. (step config s judged).1 ≡ Dropped (cause_number (cause_of why))) ((out : Iface) × (packet : List ℕ) × ((step config s judged).1 ≡ Forward out packet)) (reasons r)
  routed r came =
      let is = ap (λ (p : State × Answer). p.1) (step-of config s judged iface bytes view r came) in
      let way = leg config live view r in
      first-map (Holds config live view r) (λ why. way ≡ Err (cause_of why)) (λ why. (step config s judged).1 ≡ Dropped (cause_number (cause_of why)))
      ((p : Passage) × (way ≡ Ok p)) ((out : Iface) × (packet : List ℕ) × ((step config s judged).1 ≡ Forward out packet))
      (λ why e. is ∙ ap (λ (w : Result Passage Cause). (sent live bytes w).1) e)
      (λ passes. (passes.0.iface, translated bytes passes.0.src passes.0.dst, is ∙ ap (λ (w : Result Passage Cause). (sent live bytes w).1) passes.1))
      (reasons r) (leg-ordered r came)

pub causes-in-order : CausesComeInOrder
causes-in-order = record {
  unread = unread;
  unrouted = unrouted;
  routed = λ config s judged iface bytes view r is_one sound came fits. routed config s judged iface bytes view is_one sound fits r came;
}
