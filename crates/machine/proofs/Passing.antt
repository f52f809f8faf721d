-- What becomes of packets of living sessions and mappings.
use Rattle.std.proofs.Common.{◌≡◌, ◌≢◌, ◌⊎◌, ℕ, ◌+◌, ◌<◌, ◌≤◌, List, [], ◌∷◌, length, Some, Result, Ok, Err, true, false, not, nat_lt, if◌then◌else◌, refl, sym, ap, ◌∙◌, subst, inl, inr, arith}
use Rattle.std.specs.Prelude.{find}
use Rattle.std.specs.List.{filter}
use Rattle.std.proofs.lemmas.Bool.{le-ltb, lt-ltb, ltb-true}
use Rattle.packet.specs.Config.{Config}
use Rattle.packet.specs.Fields.{fields}
use Rattle.packet.specs.Numbers.{fault_number, route_fault_number}
use Rattle.packet.specs.Route.{route}
use Rattle.packet.specs.Translated.{translated}
use Rattle.packet.specs.declared.endpoint.Endpoint.{Endpoint}
use Rattle.packet.specs.declared.endpoint.Flags.{Flags}
use Rattle.packet.specs.declared.endpoint.Iface.{Iface}
use Rattle.packet.specs.declared.endpoint.Iface.TheVariants.{Lan, Wan}
use Rattle.packet.specs.declared.endpoint.Proto.{Proto}
use Rattle.packet.specs.declared.fault.Fault.{Fault}
use Rattle.packet.specs.declared.fault.Fault.TheVariants as fault
use Rattle.packet.specs.declared.route.Route.{Route}
use Rattle.packet.specs.declared.route.Route.TheVariants.{Out, In as InRoute}
use Rattle.packet.specs.declared.route.RouteFault.{RouteFault}
use Rattle.packet.specs.declared.route.RouteFault.TheVariants as route_fault
use Rattle.packet.specs.declared.view.View.{View}
use Rattle.sessions.specs.Laws.{IsMapping}
use Rattle.sessions.specs.Life.{IsAlive, alive}
use Rattle.sessions.specs.Listing.{In, Rises, below, has_inside, has_outside, key, put, same_flow}
use Rattle.sessions.specs.Table.{Clash, HasInside, HasOutside}
use Rattle.sessions.specs.declared.session.Opener.TheVariants.{Inside, Remote}
use Rattle.sessions.specs.declared.session.Session.{Session}
use Rattle.sessions.proofs.Found.{has_outside-true, has_outside-from}
use Rattle.sessions.proofs.Puts.{find-is, find-none, find-some, has_inside-from, has_inside-true, keys-from, length-insert}
use Rattle.sessions.proofs.Sets.{In-filter, below-itself, below-keys, filter-In}
use Rattle.verdict.specs.Hooks.{forward_verdict}
use Rattle.verdict.specs.declared.facts.State.TheVariants.{New}
use Rattle.hairpin.specs.Legs.{Passage, begun_out, counted, in_by, inward, maps_inside, needs_session, new_session, out_by, outside_for, outward, passed_by, put_all, connection_of, then_with, unless_dropped}
use Rattle.hairpin.specs.Causes.{cause_number}
use Rattle.hairpin.specs.declared.cause.Cause.TheVariants.{Filtered, NoSession, TableFull}
use Rattle.hairpin.proofs.Apart.{agree, cases_endpoint, maps-from, maps-parts}
use Rattle.hairpin.proofs.Doubling.{passed-keys}
use Rattle.hairpin.proofs.Soundness.{filter-most}
use Rattle.machine.specs.Judged.{Judged}
use Rattle.machine.specs.Laws.{Came, LetsPass}
use Rattle.machine.specs.Machine.{State, act, aged, later, leg, on_route, sent, step, with_fields}
use Rattle.machine.specs.Sound.{IsSoundState}
use Rattle.machine.specs.declared.deed.Deed.{Deed}
use Rattle.machine.specs.declared.deed.Deed.TheVariants as deed
use Rattle.machine.specs.declared.event.Answer.{Answer}
use Rattle.machine.specs.declared.event.Answer.TheVariants.{Dropped, Forward}
use Rattle.machine.proofs.Left.{sent-passed, step-of}

-- the answer to a packet that came is that of its leg, at the sessions that are alive
pub answer-of : (config : Config) (s : State) (judged : Judged) (iface : Iface) (bytes : List ℕ) (view : View) (r : Route) → Came config judged iface bytes view r
    → (step config s judged).1 ≡ (on_route config (aged (later s.clock judged.moment) s) bytes view (Ok r)).1
answer-of config s judged iface bytes view r came = ap (λ (p : State × Answer). p.1) (step-of config s judged iface bytes view r came)

-- a packet of a session leaves with the session's endpoints
in-answer : (s : State) (bytes : List ℕ) (t : Session) (flags : Flags) (now : ℕ) → (sent s bytes (Ok (inward (passed_by t Remote flags now)))).1 ≡ Forward Lan (translated bytes t.remote t.inside)
in-answer s bytes t flags now =
    let keys = passed-keys t Remote flags now in
    ap (λ x. Forward Lan (translated bytes x (passed_by t Remote flags now).inside)) (sym keys.remote) ∙ ap (λ x. Forward Lan (translated bytes t.remote x)) (sym keys.inside)

out-answer : (s : State) (bytes : List ℕ) (t : Session) (flags : Flags) (now : ℕ) → (sent s bytes (Ok (outward (passed_by t Inside flags now)))).1 ≡ Forward Wan (translated bytes t.outside t.remote)
out-answer s bytes t flags now =
    let keys = passed-keys t Inside flags now in
    ap (λ x. Forward Wan (translated bytes x (passed_by t Inside flags now).remote)) (sym keys.outside) ∙ ap (λ x. Forward Wan (translated bytes t.outside x)) (sym keys.remote)

-- a session that is alive is one of those that are left
lives-on : (s : State) (now : ℕ) (t : Session) → In t s.sessions → IsAlive now t → In t (aged now s).sessions
lives-on s now t is lives = filter-In (alive now) s.sessions t is (lt-ltb _ _ lives)

-- of a set, one session has a flow
pub one-of-flow : (xs : List Session) → Rises xs → (s t : Session) → In s xs → In t xs → key s ≡ key t → s ≡ t
one-of-flow [] rises s t in_s in_t e = absurd in_s
one-of-flow (x ∷ xs) rises s t (inl s_is) (inl t_is) e = s_is ∙ sym t_is
one-of-flow (x ∷ xs) rises s t (inl s_is) (inr t_in) e = absurd (below-itself s (sym (below-keys s s s t refl (sym e)) ∙ subst (λ y. below y t ≡ true) (sym s_is) (rises.0 t t_in)))
one-of-flow (x ∷ xs) rises s t (inr s_in) (inl t_is) e = absurd (below-itself t (sym (below-keys t t t s refl e) ∙ subst (λ y. below y s ≡ true) (sym t_is) (rises.0 s s_in)))
one-of-flow (x ∷ xs) rises s t (inr s_in) (inr t_in) e = one-of-flow xs rises.1 s t s_in t_in e

-- and one comes from a remote endpoint to an outside one
pub one-outside : (xs : List Session) → Rises xs → ((u v : Session) → In u xs → In v xs → u ≢ v → ¬ Clash u v) → (proto : Proto) (outside remote : Endpoint) (u v : Session) → In u xs → In v xs
    → HasOutside proto outside remote u → HasOutside proto outside remote v → u ≡ v
one-outside xs rises apart proto outside remote u v in_u in_v a b = elim (cases_endpoint u.inside v.inside) [
  | inl e ↦ one-of-flow xs rises u v in_u in_v (keys-from v u (a.0 ∙ sym b.0, e, a.2 ∙ sym b.2))
  | inr ne ↦ absurd (apart u v in_u in_v (λ e. ne (ap (λ (w : Session). w.inside) e)) (inr (inl (b.0 ∙ sym a.0, b.1 ∙ sym a.1, b.2 ∙ sym a.2))))
]

pub put-most : (t : Session) (sessions : List Session) → length (put t sessions) ≤ length sessions + 1
put-most t sessions = omega (arith, length-insert t (filter (λ v. not (same_flow t v)) sessions), filter-most (λ v. not (same_flow t v)) sessions)

-- one more session is not too many
pub room-for : (t : Session) (sessions : List Session) → length sessions < 65536 → nat_lt 65536 (length (put t sessions)) ≡ false
room-for t sessions few = le-ltb _ _ (omega (arith, few, put-most t sessions))

module _ (config : Config) (s : State) (judged : Judged) (bytes : List ℕ) (view : View) (sound : IsSoundState config s) where
  abbrev now : ℕ
  now = later s.clock judged.moment

  abbrev live : State
  live = aged now s

  was : (u : Session) → In u live.sessions → In u s.sessions
  was u is = (In-filter (alive now) s.sessions u is).0

  module _ (t : Session) (is : In t s.sessions) (lives : IsAlive now t) where
    found-out : HasOutside view.proto view.dst view.src t → find (has_outside view.proto view.dst view.src) live.sessions ≡ Some t
    found-out own = find-is (has_outside view.proto view.dst view.src) live.sessions t (lives-on s now t is lives) (has_outside-from view.proto view.dst view.src t own)
        (λ u in_u passes. one-outside s.sessions sound.sessions.rises sound.sessions.apart view.proto view.dst view.src u t (was u in_u) is (has_outside-true view.proto view.dst view.src u passes) own)

    found-in : HasInside view.proto view.src view.dst t → find (has_inside view.proto view.src view.dst) live.sessions ≡ Some t
    found-in own = find-is (has_inside view.proto view.src view.dst) live.sessions t (lives-on s now t is lives) (has_inside-from view.proto view.src view.dst t own)
        (λ u in_u passes.
        let has = has_inside-true view.proto view.src view.dst u passes in
        one-of-flow s.sessions sound.sessions.rises u t (was u in_u) is (keys-from t u (has.0 ∙ sym own.0, has.1 ∙ sym own.1, has.2 ∙ sym own.2)))

    pub comes-in : Came config judged Wan bytes view InRoute → HasOutside view.proto view.dst view.src t → LetsPass config s view Wan Lan view.src t.inside (connection_of t Remote view.flags)
        → (step config s judged).1 ≡ Forward Lan (translated bytes t.remote t.inside)
    comes-in came own lets =
        answer-of config s judged Wan bytes view InRoute came
        ∙ ap (λ o. (sent live bytes (in_by config s.rules live.sessions now view o)).1) (found-out own)
        ∙ ap (λ f. (sent live bytes (unless_dropped f (Ok (inward (passed_by t Remote view.flags now))))).1) lets
        ∙ in-answer live bytes t view.flags now

    pub goes-out : Came config judged Lan bytes view Out → HasInside view.proto view.src view.dst t → LetsPass config s view Lan Wan view.src view.dst (connection_of t Inside view.flags)
        → (step config s judged).1 ≡ Forward Wan (translated bytes t.outside t.remote)
    goes-out came own lets =
        answer-of config s judged Lan bytes view Out came
        ∙ ap (λ o. (sent live bytes (out_by config s.rules live.sessions now view o)).1) (found-in own)
        ∙ ap (λ f. (sent live bytes (unless_dropped f (Ok (outward (passed_by t Inside view.flags now))))).1) lets
        ∙ out-answer live bytes t view.flags now

  -- a new session of a mapping that lives has its outside endpoint
  pub mapped-out : Came config judged Lan bytes view Out → ((u : Session) → In u s.sessions → IsAlive now u → ¬ HasInside view.proto view.src view.dst u)
      → (outside : Endpoint) (m : IsMapping s.sessions view.proto view.src outside) → IsAlive now m.session → needs_session view ≡ false → LetsPass config s view Lan Wan view.src view.dst New
      → nat_lt (length live.sessions) 65536 ≡ true → (step config s judged).1 ≡ Forward Wan (translated bytes outside view.dst)
  mapped-out came none outside m lives begins lets few =
      let proto = view.proto in
      let not_found = find-none (has_inside proto view.src view.dst) live.sessions (λ u in_u passes.
      let kept = In-filter (alive now) s.sessions u in_u in
      none u kept.0 (ltb-true _ _ kept.1) (has_inside-true proto view.src view.dst u passes)) in
      let found = find-some (maps_inside proto view.src) live.sessions m.session (lives-on s now m.session m.is_held lives) (maps-from proto view.src m.session m.translated m.proto m.inside) in
      let u = found.0 in
      let parts = maps-parts proto view.src u found.3 in
      let same = agree s.sessions sound.sessions.apart u m.session (was u found.2) m.is_held parts.0 m.translated (parts.1 ∙ sym m.proto) in
      let outside_is : u.outside ≡ outside = same.0 (parts.2 ∙ sym m.inside) ∙ m.outside in
      let t = new_session config s.rules live.sessions now view Inside view.src u.outside view.dst in
      answer-of config s judged Lan bytes view Out came
      ∙ ap (λ o. (sent live bytes (out_by config s.rules live.sessions now view o)).1) not_found
      ∙ ap (λ b. (sent live bytes (if b then Err NoSession else unless_dropped (forward_verdict config (record { iif = Lan; oif = Some Wan; src = view.src; dst = view.dst; proto = view.proto; state = New }) s.rules) (begun_out config s.rules live.sessions now view))).1) begins
      ∙ ap (λ f. (sent live bytes (unless_dropped f (begun_out config s.rules live.sessions now view))).1) lets
      ∙ ap (λ o. (sent live bytes (then_with (outside_for config s.rules live.sessions now view o) (λ x. counted config s.rules live.sessions now view (outward (new_session config s.rules live.sessions now view Inside view.src x view.dst))))).1) found.1
      ∙ ap (λ b. (sent live bytes (if b then Err TableFull else Ok (outward t))).1) (room-for t live.sessions (ltb-true (length live.sessions) 65536 few))
      ∙ ap (λ x. Forward Wan (translated bytes x view.dst)) outside_is

-- what is forwarded, and how the sessions are changed then
abbrev IsWay : Config → State → Deed → Iface → List ℕ → List Session → Type 0
IsWay config live d out packet left =
    (iface : Iface) × (bytes : List ℕ) × (view : View) × (r : Route) × (passage : Passage)
    × (d ≡ deed.Packet iface bytes) × (fields bytes ≡ Ok view) × (route config iface view ≡ Ok r)
    × (leg config live view r ≡ Ok passage) × (out ≡ passage.iface) × (packet ≡ translated bytes passage.src passage.dst)
    × (left ≡ put_all passage.sessions live.sessions)

-- no fault has the number of a packet that is filtered
pub fault-not : (f : Fault) → fault_number f ≢ 14
fault-not fault.Short e = omega (arith, e)
fault-not f e = omega (arith, e)

pub route-not : (f : RouteFault) → route_fault_number f ≢ 14
route-not route_fault.Ttl e = omega (arith, e)
route-not f e = omega (arith, e)

-- a deed comes to the leg of a packet; or the sessions stay, and nothing is forwarded or filtered
abbrev pub ComesTo : Config → State → Deed → State × Answer → Type 0
ComesTo config live d done =
    ((iface : Iface) × (bytes : List ℕ) × (view : View) × (r : Route)
    × (d ≡ deed.Packet iface bytes) × (fields bytes ≡ Ok view) × (route config iface view ≡ Ok r) × (done ≡ sent live bytes (leg config live view r)))
    ⊎ ((done.0.sessions ≡ live.sessions) × ((out : Iface) (packet : List ℕ) → done.1 ≢ Forward out packet) × (done.1 ≢ Dropped (cause_number Filtered)))

module _ (config : Config) (live : State) (iface : Iface) (bytes : List ℕ) where
  route-told : (view : View) → fields bytes ≡ Ok view → (r : Result Route RouteFault) → route config iface view ≡ r → ComesTo config live (deed.Packet iface bytes) (on_route config live bytes view r)
  route-told view fields_are (Err f) route_is = inr (refl, (λ out packet e. cc), (λ e. let number : route_fault_number f ≡ 14 = cc in route-not f number))
  route-told view fields_are (Ok r) route_is = inl (iface, bytes, view, r, refl, fields_are, route_is, refl)

  fields-told : (f : Result View Fault) → fields bytes ≡ f → ComesTo config live (deed.Packet iface bytes) (with_fields config live iface bytes f)
  fields-told (Err f) fields_are = inr (refl, (λ out packet e. cc), (λ e. let number : fault_number f ≡ 14 = cc in fault-not f number))
  fields-told (Ok view) fields_are = route-told view fields_are (route config iface view) refl

pub act-told : (config : Config) (live : State) (d : Deed) → ComesTo config live d (act config live d)
act-told config live (deed.Packet iface bytes) = fields-told config live iface bytes (fields bytes) refl
act-told config live d = inr (refl, (λ out packet e. cc), (λ e. cc))

pub step-planned : (config : Config) (s : State) (judged : Judged) (out : Iface) (packet : List ℕ) → (step config s judged).1 ≡ Forward out packet
    → IsWay config (aged (later s.clock judged.moment) s) judged.deed out packet (step config s judged).0.sessions
unfolding step
step-planned config s judged out packet e =
    let live = aged (later s.clock judged.moment) s in
    elim (act-told config live judged.deed) [
      | inl told ↦
          let way = leg config live told.2 told.3 in
          let passed = sent-passed live way told.1 out packet (ap (λ (done : State × Answer). done.1) (sym told.7) ∙ e) in
          let left_is = ap (λ (done : State × Answer). done.0.sessions) told.7 ∙ ap (λ (after : State). after.sessions) passed.after_is in
          (told.0, told.1, told.2, told.3, passed.passage, told.4, told.5, told.6, passed.passes, passed.out_is, passed.packet_is, left_is)
      | inr rests ↦ absurd (rests.1 out packet e)
    ]
