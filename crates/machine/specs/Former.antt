-- The step as it was while there was one external address, and a mapping let in every remote endpoint. Where there is one
-- address and filtering is by endpoint, a law says that nothing has changed since: files from that time are rightly taken.
use Rattle.std.specs.Prelude.{ℕ, List, [], ◌∷◌, Result, Ok, Err}
use Rattle.packet.specs.Config.{Config}
use Rattle.packet.specs.Fields.{fields}
use Rattle.packet.specs.Route.{route}
use Rattle.packet.specs.declared.endpoint.Iface.{Iface}
use Rattle.packet.specs.declared.fault.Fault.{Fault}
use Rattle.packet.specs.declared.route.Route.{Route}
use Rattle.packet.specs.declared.route.Route.TheVariants.{Out, In, Hairpin}
use Rattle.packet.specs.declared.route.RouteFault.{RouteFault}
use Rattle.packet.specs.declared.view.View.{View}
use Rattle.hairpin.specs.Former.{hairpin_leg, in_leg, out_leg}
use Rattle.hairpin.specs.Legs.{Passage}
use Rattle.hairpin.specs.declared.cause.Cause.{Cause}
use Rattle.hairpin.specs.declared.cause.Cause.TheVariants as cause
use Rattle.machine.specs.Judged.{Judged}
use Rattle.machine.specs.Machine.{State, aged, dropped, later, sent}
use Rattle.machine.specs.declared.deed.Deed.{Deed}
use Rattle.machine.specs.declared.deed.Deed.TheVariants as deed
use Rattle.machine.specs.declared.event.Answer.{Answer}
use Rattle.machine.specs.declared.event.Answer.TheVariants as answer

module _ (only : ℕ) (config : Config) where
  abbrev pub former_leg : State → View → Route → Result Passage Cause
  former_leg s view Out = out_leg only config s.rules s.sessions s.clock view
  former_leg s view In = in_leg only config s.rules s.sessions s.clock view
  former_leg s view Hairpin = hairpin_leg only config s.rules s.sessions s.clock view

  abbrev pub former_on_route : State → List ℕ → View → Result Route RouteFault → State × Answer
  former_on_route s bytes view (Err fault) = dropped s (cause.Route fault)
  former_on_route s bytes view (Ok r) = sent s bytes (former_leg s view r)

  abbrev pub former_with_fields : State → Iface → List ℕ → Result View Fault → State × Answer
  former_with_fields s iface bytes (Err fault) = dropped s (cause.Packet fault)
  former_with_fields s iface bytes (Ok view) =
      former_on_route s bytes view (route config iface view)

  abbrev pub former_act : State → Deed → State × Answer
  former_act s (deed.Take text rules) =
      (record s { text = text; rules = rules }, answer.Loaded)
  former_act s (deed.Refuse text) = (s, answer.Refused)
  former_act s (deed.Packet iface bytes) = former_with_fields s iface bytes (fields bytes)
  former_act s deed.Moment = (s, answer.Ticked)

  unfoldable pub former_step : State → Judged → State × Answer
  former_step s judged = former_act (aged (later s.clock judged.moment) s) judged.deed

  abbrev pub former_answers : State → List Judged → List Answer
  former_answers s [] = []
  former_answers s (judged ∷ more) =
      (former_step s judged).1 ∷ former_answers (former_step s judged).0 more
