-- No step ends a session that is alive.
use Rattle.std.proofs.Common.{◌≡◌, ◌⊎◌, ℕ, List, Ok, if◌then◌else◌, refl, sym, ap, ◌∙◌, subst, inl, inr}
use Rattle.std.proofs.lemmas.Bool.{cases_Bool}
use Rattle.packet.specs.Config.{Config}
use Rattle.packet.specs.Fields.{fields}
use Rattle.packet.specs.Route.{route}
use Rattle.packet.specs.Translated.{translated}
use Rattle.packet.specs.declared.endpoint.Flags.{Flags}
use Rattle.packet.specs.declared.endpoint.Iface.{Iface}
use Rattle.packet.specs.declared.route.Route.{Route}
use Rattle.packet.specs.declared.route.Route.TheVariants.{Out, Hairpin, In as InRoute}
use Rattle.packet.specs.declared.view.View.{View}
use Rattle.sessions.specs.Life.{alive, restarts, shown}
use Rattle.sessions.specs.Listing.{In, Rises, has_inside, has_outside, key, put, same_flow}
use Rattle.sessions.specs.Table.{HasInside, HasOutside, restarted, seen}
use Rattle.sessions.specs.declared.session.Opener.{Opener}
use Rattle.sessions.specs.declared.session.Opener.TheVariants.{Inside, Remote}
use Rattle.sessions.specs.declared.session.Session.{Session}
use Rattle.sessions.proofs.Found.{has_outside-true}
use Rattle.sessions.proofs.Puts.{flow-keys, has_inside-true}
use Rattle.sessions.proofs.Sets.{Rises-filter, same_key}
use Rattle.hairpin.specs.Legs.{Passage, hairpin_leg, in_leg, out_leg, passed_by, put_all}
use Rattle.hairpin.proofs.Apart.{find-In}
use Rattle.hairpin.proofs.Clashing.{no_clash}
use Rattle.hairpin.proofs.Doubling.{Rises-put, passed-flow, put-In}
use Rattle.machine.specs.Judged.{Judged}
use Rattle.machine.specs.Laws.{living}
use Rattle.machine.specs.Machine.{State, act, later, leg, step}
use Rattle.machine.specs.Requirements.{IsOf, LivingSessionsStay, WentOn}
use Rattle.machine.specs.declared.deed.Deed.{Deed}
use Rattle.machine.specs.declared.deed.Deed.TheVariants as deed
use Rattle.machine.specs.declared.event.Answer.{Answer}
use Rattle.machine.specs.declared.event.Answer.TheVariants.{Forward}
use Rattle.machine.proofs.Called.{not-found}
use Rattle.machine.proofs.Passages.{FirstBegins, FirstGoesOn, SecondBegins, SecondGoesOn, hairpin-told, in-told, new_far, new_in, new_out, out-told}
use Rattle.machine.proofs.Passing.{one-of-flow}
use Rattle.machine.proofs.Refreshing.{apart-flows, first-used, put-stays, second-used}
use Rattle.machine.proofs.Soundness.{done-by}

-- a session that goes on
went : (s : Session) (sender : Opener) (flags : Flags) (now : ℕ) → WentOn s sender flags now (passed_by s sender flags now)
went s sender flags now = elim (cases_Bool (restarts s flags)) [
  | inl anew ↦ inr (anew, ap (λ b. if b then restarted s sender now else seen s (shown s.proto s.opener sender flags) now) anew)
  | inr on ↦ inl (on, ap (λ b. if b then restarted s sender now else seen s (shown s.proto s.opener sender flags) now) on)
]

-- where a session is put in, another stays, unless it is of the same flow
stays-or : (t u : Session) (sessions : List Session) → In u sessions → In u (put t sessions) ⊎ (key u ≡ key t)
stays-or t u sessions is = elim (cases_Bool (same_flow t u)) [ inl same ↦ inr (flow-keys t u same) | inr other ↦ inl (put-stays t u sessions is other) ]

module _ (config : Config) (live : State) (rises : Rises live.sessions) (u : Session) (in_u : In u live.sessions) where
  abbrev sessions : List Session
  sessions = live.sessions

  abbrev now : ℕ
  now = live.clock

  module _ (view : View) where
    abbrev Goes : Route → List Session → Type 0
    Goes r held = (sender : Opener) × IsOf held view r sender u × ((t : Session) × In t held × WentOn u sender view.flags now t)

    -- it is held as it was, or as a packet of it has made it
    abbrev Lasts : Route → List Session → Type 0
    Lasts r held = In u held ⊎ Goes r held

    -- of the flow of a session that goes on it is that session
    is-it : (held : List Session) → Rises held → In u held → (s : Session) (sender : Opener) → In s held → key u ≡ key (passed_by s sender view.flags now) → u ≡ s
    is-it held rising in_held s sender is e =
        one-of-flow held rising u s in_held is (e ∙ sym (flow-keys (passed_by s sender view.flags now) s (passed-flow s sender view.flags now)))

    -- what has become of that session has become of it
    went-as : (s t : Session) (sender : Opener) → u ≡ s → t ≡ passed_by s sender view.flags now → WentOn u sender view.flags now t
    went-as s t sender it e =
        subst (WentOn u sender view.flags now) (sym e)
        (subst (λ (v : Session). WentOn v sender view.flags now (passed_by s sender view.flags now)) (sym it) (went s sender view.flags now))

    -- where one that goes on is put in, and where one begins
    lasts-on : (r : Route) (sender : Opener) (s : Session) → In s sessions → IsOf (put (passed_by s sender view.flags now) sessions) view r sender s → Lasts r (put (passed_by s sender view.flags now) sessions)
    lasts-on r sender s in_s of =
        let t = passed_by s sender view.flags now in
        elim (stays-or t u sessions in_u) [
          | inl held ↦ inl held
          | inr same ↦
              let it = is-it sessions rises in_u s sender in_s same in
              inr (sender, subst (IsOf (put t sessions) view r sender) (sym it) of, (t, put-In t sessions, went-as s t sender it refl))
        ]

    lasts-begun : (r : Route) (t : Session) → (key u ≡ key t → ⊥) → Lasts r (put t sessions)
    lasts-begun r t other = elim (stays-or t u sessions in_u) [ inl held ↦ inl held | inr same ↦ absurd (other same) ]

    lasts-out : (p : Passage) → out_leg config live.rules sessions now view ≡ Ok p → Lasts Out (put_all p.sessions sessions)
    lasts-out p h = elim (out-told config live.rules sessions now view p h) [
      | inl on ↦
          let found = find-In (has_inside view.proto view.src view.dst) sessions on.0 on.1 in
          subst (λ (q : Passage). Lasts Out (put_all q.sessions sessions)) (sym on.2) (lasts-on Out Inside on.0 found.0 (has_inside-true view.proto view.src view.dst on.0 found.1))
      | inr begun ↦
          let t = new_out config live.rules sessions now view begun.2.0 in
          subst (λ (q : Passage). Lasts Out (put_all q.sessions sessions)) (sym begun.2.2)
          (lasts-begun Out t (λ same. not-found view.proto view.src view.dst sessions begun.0 u in_u (same_key t u (sym same))))
    ]

    lasts-in : (p : Passage) → in_leg config live.rules sessions now view ≡ Ok p → Lasts InRoute (put_all p.sessions sessions)
    lasts-in p h = elim (in-told config live.rules sessions now view p h) [
      | inl on ↦
          let found = find-In (has_outside view.proto view.dst view.src) sessions on.0 on.1 in
          subst (λ (q : Passage). Lasts InRoute (put_all q.sessions sessions)) (sym on.2) (lasts-on InRoute Remote on.0 found.0 (has_outside-true view.proto view.dst view.src on.0 found.1))
      | inr begun ↦
          let t = new_in config live.rules sessions now view begun.2.0 in
          subst (λ (q : Passage). Lasts InRoute (put_all q.sessions sessions)) (sym begun.2.3)
          (lasts-begun InRoute t (λ same. no_clash t sessions begun.2.4 u in_u (inl (same_key t u (sym same)))))
    ]

    -- ---- both

    module _ (first far : Session) (held : In first (put far (put first sessions))) (goes_out : HasInside view.proto view.src view.dst first) where
      abbrev all : List Session
      all = put far (put first sessions)

      -- it is the session that the packet goes out by
      by-first : FirstGoesOn config live.rules sessions now view first ⊎ FirstBegins config live.rules sessions now view first → key u ≡ key first → Lasts Hairpin all
      by-first (inl on) same =
          let found = find-In (has_inside view.proto view.src view.dst) sessions on.0 on.1 in
          let it = is-it sessions rises in_u on.0 Inside found.0 (same ∙ ap key on.2) in
          inr (Inside, subst (HasInside view.proto view.src view.dst) (sym it) (has_inside-true view.proto view.src view.dst on.0 found.1), (first, held, went-as on.0 first Inside it on.2))
      by-first (inr begun) same =
          let t = new_out config live.rules sessions now view begun.2.0 in
          absurd (not-found view.proto view.src view.dst sessions begun.0 u in_u (same_key t u (sym (same ∙ ap key begun.2.2))))

      -- it is the session that the packet comes in by
      by-far : SecondGoesOn config live.rules sessions now view first (put first sessions) far ⊎ SecondBegins config live.rules sessions now view first (put first sessions) far
          → In u (put first sessions) → key u ≡ key far → Lasts Hairpin all
      by-far (inl on) in_held same =
          let s = on.0 in
          let found = find-In (has_outside view.proto view.dst first.outside) (put first sessions) s on.1 in
          let has = has_outside-true view.proto view.dst first.outside s found.1 in
          let it = is-it (put first sessions) (Rises-put first sessions rises) in_held s Remote found.0 (same ∙ ap key on.2) in
          let of_it : IsOf all view Hairpin Remote u = (first, held, goes_out, subst (HasOutside view.proto view.dst first.outside) (sym it) has) in
          inr (Remote, of_it, (far, put-In far (put first sessions), went-as s far Remote it on.2))
      by-far (inr begun) in_held same =
          let t = new_far config live.rules sessions now view first (put first sessions) begun.2.0 in
          absurd (no_clash t (put first sessions) begun.2.2 u in_held (inl (same_key t u (sym (same ∙ ap key begun.2.3)))))

    lasts-both : (p : Passage) → hairpin_leg config live.rules sessions now view ≡ Ok p → Lasts Hairpin (put_all p.sessions sessions)
    lasts-both p h =
        let both = hairpin-told config live.rules sessions now view p h in
        let first = both.first in
        let far = both.far in
        let is = first-used config live view first both.by_first in
        let behind = second-used config live view first far (put first sessions) both.by_far in
        let held = put-stays far first (put first sessions) (put-In first sessions) (apart-flows config live view first far is behind both.away) in
        let goes_out : HasInside view.proto view.src view.dst first = (is.0, is.1, is.2) in
        let kept : Lasts Hairpin (put far (put first sessions)) = elim (stays-or first u sessions in_u) [
          | inl near ↦ elim (stays-or far u (put first sessions) near) [ inl still ↦ inl still | inr same ↦ by-far first far held goes_out both.by_far near same ]
          | inr same ↦ by-first first far held goes_out both.by_first same
        ] in
        subst (λ (q : Passage). Lasts Hairpin (put_all q.sessions sessions)) (sym both.are) kept

    lasts : (r : Route) (p : Passage) → leg config live view r ≡ Ok p → Lasts r (put_all p.sessions sessions)
    lasts Out = lasts-out
    lasts InRoute = lasts-in
    lasts Hairpin = lasts-both

  -- ---- whatever is done

  abbrev Stays : Deed → State × Answer → Type 0
  Stays d done = In u done.0.sessions ⊎ ((iface : Iface) × (bytes : List ℕ) × (view : View) × (r : Route)
      × (d ≡ deed.Packet iface bytes) × (fields bytes ≡ Ok view) × (route config iface view ≡ Ok r)
      × (out : Iface) × (packet : List ℕ) × (done.1 ≡ Forward out packet) × Goes view r done.0.sessions)

  act-stays : (d : Deed) → Stays d (act config live d)
  act-stays d = done-by config live d (Stays d) (λ a. inl in_u) (λ text rules e. inl in_u)
      (λ iface bytes view r deed_is fields_are route_is p h. elim (lasts view r p h) [
        | inl held ↦ inl held
        | inr goes ↦ inr (iface, bytes, view, r, deed_is, fields_are, route_is, p.iface, translated bytes p.src p.dst, refl, goes)
      ])
      d refl

step-stays : (config : Config) (s : State) (judged : Judged) (rises : Rises (living s judged).sessions) (u : Session) (in_u : In u (living s judged).sessions) → Stays config (living s judged) rises u in_u judged.deed (step config s judged)
unfolding step
step-stays config s judged rises u in_u = act-stays config (living s judged) rises u in_u judged.deed

pub living-stay : LivingSessionsStay
living-stay config s judged u sound in_u =
    let rises = Rises-filter (alive (later s.clock judged.moment)) s.sessions sound.sessions.rises in
    elim (step-stays config s judged rises u in_u) [
      | inl held ↦ inl held
      | inr by ↦
          let goes = by.10 in
          inr (record {
            iface = by.0;
            bytes = by.1;
            view = by.2;
            way = by.3;
            came = record { deed_is = by.4; fields_are = by.5; route_is = by.6 };
            out = by.7;
            packet = by.8;
            passes = by.9;
            sender = goes.0;
            is_of = goes.1;
            session = goes.2.0;
            is_held = goes.2.1;
            went_on = goes.2.2;
          })
    ]
