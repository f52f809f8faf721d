-- The bytes of the packet that leaves.
use Rattle.std.proofs.Common.{◌≡◌, ℕ, ◌≤◌, List, [], length, refl, sym, ◌∙◌, subst, arith, Result, Ok, Err, IsOkAnd}
use Rattle.packet.specs.Config.{Config}
use Rattle.packet.specs.Fields.{fields}
use Rattle.packet.specs.Laws.{AreBytes}
use Rattle.packet.specs.Route.{route}
use Rattle.packet.specs.declared.endpoint.Iface.{Iface}
use Rattle.packet.specs.declared.fault.Fault.{Fault}
use Rattle.packet.specs.declared.route.Route.{Route}
use Rattle.packet.specs.declared.route.RouteFault.{RouteFault}
use Rattle.packet.specs.declared.view.View.{View}
use Rattle.packet.proofs.Accepted.{Accepted, accepted}
use Rattle.packet.proofs.Reread.{keeps_others}
use Rattle.machine.specs.Judged.{Judged, IsJudged, brought}
use Rattle.machine.specs.Machine.{State, act, aged, later, leg, on_route, sent, step, with_fields}
use Rattle.machine.specs.declared.deed.Deed.{Deed}
use Rattle.machine.specs.declared.deed.Deed.TheVariants as deed
use Rattle.machine.specs.declared.event.Answer.{Answer}
use Rattle.machine.specs.declared.event.Event.{Event}
use Rattle.machine.specs.declared.event.What.{What}
use Rattle.machine.specs.declared.event.What.TheVariants as what
use Rattle.gateway.specs.Given.{packet_of}
use Rattle.gateway.specs.Taking.{IsNoPacket}

-- a packet that an event brings is of bytes
abbrev pub IsOfBytes : What → Type 0
IsOfBytes content = (iface : Iface) (packet : List ℕ) → content ≡ what.Packet iface packet → AreBytes packet

-- it is as long as the one that came, which has 65,535 bytes at most
short_sent : (s : State) (bytes : List ℕ) (way : Result _ _) → Accepted bytes → length (packet_of (sent s bytes way).1) ≤ 65535
short_sent s bytes (Err why) fine = omega arith
short_sent s bytes (Ok passage) fine = let same = (keeps_others bytes passage.src passage.dst fine).length in let short = fine.short in omega (arith, same, short)

short_routed : (config : Config) (s : State) (bytes : List ℕ) (view : View) (r : Result Route RouteFault) → Accepted bytes → length (packet_of (on_route config s bytes view r).1) ≤ 65535
short_routed config s bytes view (Err fault) fine = omega arith
short_routed config s bytes view (Ok r) fine = short_sent s bytes (leg config s view r) fine

short_read : (config : Config) (s : State) (iface : Iface) (bytes : List ℕ) (read : Result View Fault) → AreBytes bytes → fields bytes ≡ read
    → length (packet_of (with_fields config s iface bytes read).1) ≤ 65535
short_read config s iface bytes (Err fault) are is = omega arith
short_read config s iface bytes (Ok view) are is =
    let some : IsOkAnd (fields bytes) (λ _. Unit {0}) = subst (λ (r : Result View Fault). IsOkAnd r (λ _. Unit {0})) (sym is) tt in
    short_routed config s bytes view (route config iface view) (accepted bytes (λ _. Unit {0}) are some).0

short_act : (config : Config) (s : State) (d : Deed) → IsOfBytes (brought d) → length (packet_of (act config s d).1) ≤ 65535
short_act config s (deed.Take text rules) are = omega arith
short_act config s (deed.Refuse text) are = omega arith
short_act config s (deed.Packet iface bytes) are = short_read config s iface bytes (fields bytes) (are iface bytes refl) refl
short_act config s deed.Moment are = omega arith

none_act : (config : Config) (s : State) (d : Deed) → IsNoPacket (brought d) → packet_of (act config s d).1 ≡ []
none_act config s (deed.Take text rules) none = refl
none_act config s (deed.Refuse text) none = refl
none_act config s (deed.Packet iface bytes) none = absurd (none iface bytes refl)
none_act config s deed.Moment none = refl

module _ (config : Config) (s new : State) (event : Event) (judged : Judged) (one : Answer) (is : IsJudged config event judged)
    (steps : step config s judged ≡ (new, one)) where
  pub short_leaves : IsOfBytes event.what → length (packet_of one) ≤ 65535
  unfolding step
  short_leaves are =
      subst (λ (p : State × Answer). length (packet_of p.1) ≤ 65535) steps
      (short_act config (aged (later s.clock judged.moment) s) judged.deed (λ iface packet same. are iface packet (is.what ∙ same)))

  -- where none came
  pub none_leaves : IsNoPacket event.what → packet_of one ≡ []
  unfolding step
  none_leaves none =
      subst (λ (p : State × Answer). packet_of p.1 ≡ []) steps
      (none_act config (aged (later s.clock judged.moment) s) judged.deed (λ iface packet same. none iface packet (is.what ∙ same)))
