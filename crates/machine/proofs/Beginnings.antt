-- What begins a session.
use Rattle.std.proofs.Common.{◌≡◌, ◌≢◌, ◌⊎◌, ℕ, Bool, true, false, List, [], ◌∷◌, None, Result, Ok, Err, if◌then◌else◌, refl, sym, ap, ◌∙◌, subst, inl, inr}
use Rattle.std.specs.Prelude.{find}
use Rattle.std.proofs.lemmas.Bool.{false≢true}
use Rattle.packet.specs.Config.{Config, is_inside}
use Rattle.packet.proofs.Routes.{routed_is_on_route}
use Rattle.packet.specs.declared.endpoint.Endpoint.{Endpoint}
use Rattle.packet.specs.declared.endpoint.Iface.{Iface}
use Rattle.packet.specs.declared.endpoint.Iface.TheVariants.{Lan, Wan}
use Rattle.packet.specs.declared.route.Route.{Route}
use Rattle.packet.specs.declared.route.Route.TheVariants.{Out, Hairpin, In as InRoute}
use Rattle.packet.specs.declared.view.View.{View}
use Rattle.sessions.specs.Listing.{In, has_inside, has_outside, put, same_flow}
use Rattle.sessions.specs.Table.{HasInside, HasOutside}
use Rattle.sessions.specs.declared.session.Opener.{Opener}
use Rattle.sessions.specs.declared.session.Opener.TheVariants.{Inside, Remote}
use Rattle.sessions.specs.declared.session.Session.{Session}
use Rattle.sessions.proofs.Clashing.{apart-from}
use Rattle.verdict.specs.Hooks.{prerouting_verdict}
use Rattle.verdict.specs.declared.facts.State.TheVariants.{New}
use Rattle.hairpin.specs.Legs.{Passage, facts_of, first_state, in_leg, inside_by_rules, inside_for, maps_inside, maps_outside, needs_session, out_leg, passed_by, put_all}
use Rattle.hairpin.specs.declared.cause.Cause.{Cause}
use Rattle.hairpin.proofs.Apart.{find-In, same_Ok}
use Rattle.hairpin.proofs.Doubling.{passed-flow, passed-keys, put-In}
use Rattle.machine.specs.Judged.{Judged, brought}
use Rattle.machine.specs.Laws.{Came, LetsPass, living}
use Rattle.machine.specs.Machine.{State, leg, sent, step}
use Rattle.machine.specs.Requirements.{IsCalled, IsCalledNear, NoneInside, PacketsOutCameIn, PassesByBoth, Reaches, SessionsBeginByPackets}
use Rattle.machine.specs.declared.event.Answer.{Answer}
use Rattle.machine.proofs.Left.{step-of}
use Rattle.machine.proofs.Called.{called-by, comes, comes-before, near-by, state-out}
use Rattle.machine.proofs.Passages.{BeginsIn, BeginsOut, FirstBegins, FirstGoesOn, Hairpinned, SecondBegins, SecondGoesOn, hairpin-told, in-told, new_in, new_out, out-told}
use Rattle.machine.proofs.Passing.{act-told, step-planned}
use Rattle.machine.proofs.Refreshing.{apart-flows, first-used, put-stays, second-used}
use Rattle.machine.proofs.Soundness.{external-is, put_all-member}

-- ---- a session that isn't held is made by a leg, and begins

only : (t u : Session) → In u (t ∷ []) → u ≡ t
only t u (inl e) = e
only t u (inr no_more) = absurd no_more

module _ (config : Config) (live : State) (view : View) (u : Session) (new : NoneInside live.sessions u.proto u.inside u.remote) where
  abbrev sessions : List Session
  sessions = live.sessions

  abbrev now : ℕ
  now = live.clock

  not-held : In u sessions → ⊥
  not-held is = new u is (refl, refl, refl)

  -- it doesn't go on one that is held
  not-passed : (s : Session) (sender : Opener) → In s sessions → u ≡ passed_by s sender view.flags now → ⊥
  not-passed s sender is e =
      let keys = passed-keys s sender view.flags now in
      new s is (keys.proto ∙ sym (ap (λ (v : Session). v.proto) e), keys.inside ∙ sym (ap (λ (v : Session). v.inside) e), keys.remote ∙ sym (ap (λ (v : Session). v.remote) e))

  made-by : (bytes : List ℕ) (way : Result Passage Cause) → In u (sent live bytes way).0.sessions → (p : Passage) × (way ≡ Ok p) × In u p.sessions
  made-by bytes (Err cause) is = absurd (not-held is)
  made-by bytes (Ok p) is = elim (put_all-member p.sessions sessions u is) [ inl made ↦ (p, refl, made) | inr old ↦ absurd (not-held old) ]

  made-out : (p : Passage) → out_leg config live.rules sessions now view ≡ Ok p → In u p.sessions → BeginsOut config live.rules sessions now view p
  made-out p h is = elim (out-told config live.rules sessions now view p h) [
    | inl on ↦ absurd (not-passed on.0 Inside (find-In (has_inside view.proto view.src view.dst) sessions on.0 on.1).0 (only (passed_by on.0 Inside view.flags now) u (subst (λ (q : Passage). In u q.sessions) on.2 is)))
    | inr begun ↦ begun
  ]

  made-in : (p : Passage) → in_leg config live.rules sessions now view ≡ Ok p → In u p.sessions → BeginsIn config live.rules sessions now view p
  made-in p h is = elim (in-told config live.rules sessions now view p h) [
    | inl on ↦ absurd (not-passed on.0 Remote (find-In (has_outside view.proto view.dst view.src) sessions on.0 on.1).0 (only (passed_by on.0 Remote view.flags now) u (subst (λ (q : Passage). In u q.sessions) on.2 is)))
    | inr begun ↦ begun
  ]

  made-first : (first : Session) → FirstGoesOn config live.rules sessions now view first ⊎ FirstBegins config live.rules sessions now view first → u ≡ first → FirstBegins config live.rules sessions now view first
  made-first first (inl on) e = absurd (not-passed on.0 Inside (find-In (has_inside view.proto view.src view.dst) sessions on.0 on.1).0 (e ∙ on.2))
  made-first first (inr begun) e = begun

  made-far : (first far : Session) → same_flow far first ≡ false → SecondGoesOn config live.rules sessions now view first (put first sessions) far ⊎ SecondBegins config live.rules sessions now view first (put first sessions) far → u ≡ far
      → SecondBegins config live.rules sessions now view first (put first sessions) far
  made-far first far apart (inl on) e = elim (put_all-member (first ∷ []) sessions on.0 (find-In (has_outside view.proto view.dst first.outside) (put first sessions) on.0 on.1).0) [
    | inl among ↦ absurd (false≢true (sym apart ∙ subst (λ (v : Session). same_flow far v ≡ true) (only first on.0 among) (subst (λ (v : Session). same_flow v on.0 ≡ true) (sym on.2) (passed-flow on.0 Remote view.flags now))))
    | inr old ↦ absurd (not-passed on.0 Remote old (e ∙ on.2))
  ]
  made-far first far apart (inr begun) e = begun

  module _ (p : Passage) (both : Hairpinned config live.rules sessions now view p) where
    both-apart : same_flow both.far both.first ≡ false
    both-apart = apart-flows config live view both.first both.far (first-used config live view both.first both.by_first) (second-used config live view both.first both.far (put both.first sessions) both.by_far) both.away

    made-both : In u p.sessions → ((u ≡ both.first) × FirstBegins config live.rules sessions now view both.first) ⊎ ((u ≡ both.far) × SecondBegins config live.rules sessions now view both.first (put both.first sessions) both.far)
    made-both is = elim (subst (λ (q : Passage). In u q.sessions) both.are is) [
      | inl e ↦ inl (e, made-first both.first both.by_first e)
      | inr more ↦ let e = only both.far u more in inr (e, made-far both.first both.far both-apart both.by_far e)
    ]

  needs-leg : (r : Route) (p : Passage) → leg config live view r ≡ Ok p → In u p.sessions → needs_session view ≡ false
  needs-leg Out p h is = (made-out p h is).1
  needs-leg InRoute p h is = (made-in p h is).1
  needs-leg Hairpin p h is = elim (made-both p (hairpin-told config live.rules sessions now view p h) is) [ inl first ↦ first.1.1 | inr far ↦ far.1.1 ]

-- ---- where a packet from wan comes to

module _ (config : Config) (live : State) (view : View) where
  reaches-by : (inside : Endpoint) (b : Bool) → is_inside config view.dst.addr ≡ b
      → (if b then Ok view.dst else inside_by_rules config live.rules live.sessions live.clock view live.sessions view.src.addr (find (maps_outside view.proto view.dst) live.sessions)
      (prerouting_verdict config (facts_of config live.rules live.sessions live.clock view Wan None view.src view.dst New) live.rules))
      ≡ Ok inside
      → Reaches config live view Wan view.src inside
  reaches-by inside true e h = inl (e, sym (same_Ok view.dst inside h))
  reaches-by inside false e h = inr (comes config live view Wan view.src.addr live.sessions inside h)

  pub reaches : (inside : Endpoint) → inside_for config live.rules live.sessions live.clock view ≡ Ok inside → Reaches config live view Wan view.src inside
  reaches inside h = reaches-by inside (is_inside config view.dst.addr) refl h

module _ (config : Config) (s : State) (judged : Judged) (bytes : List ℕ) (view : View) (u : Session) (new : NoneInside (living s judged).sessions u.proto u.inside u.remote) where
  abbrev live : State
  live = living s judged

  made-step : (iface : Iface) (r : Route) → Came config judged iface bytes view r → In u (step config s judged).0.sessions → (p : Passage) × (leg config live view r ≡ Ok p) × In u p.sessions
  made-step iface r came is = made-by config live view u new bytes (leg config live view r) (subst (λ (p : State × Answer). In u p.0.sessions) (step-of config s judged iface bytes view r came) is)

  begun-inbound : In u (step config s judged).0.sessions → Came config judged Wan bytes view InRoute
      → HasOutside view.proto view.dst view.src u × (u.opener ≡ Remote) × Reaches config live view Wan view.src u.inside × LetsPass config s view Wan Lan view.src u.inside New
  begun-inbound is came =
      let made = made-step Wan InRoute came is in
      let begun = made-in config live view u new made.0 made.1 made.2 in
      let inside = begun.2.0 in
      let e = only (new_in config live.rules live.sessions live.clock view inside) u (subst (λ (q : Passage). In u q.sessions) begun.2.3 made.2) in
      let same : inside ≡ u.inside = ap (λ (v : Session). v.inside) (sym e) in (
        (ap (λ (v : Session). v.proto) e, ap (λ (v : Session). v.outside) e, ap (λ (v : Session). v.remote) e),
        ap (λ (v : Session). v.opener) e,
        subst (Reaches config live view Wan view.src) same (reaches config live view inside begun.2.1),
        subst (λ x. LetsPass config s view Wan Lan view.src x New) same begun.2.2,
      )

  begun-outbound : In u (step config s judged).0.sessions → Came config judged Lan bytes view Out
      → HasInside view.proto view.src view.dst u × (u.opener ≡ Inside) × IsCalled config live view u.outside × LetsPass config s view Lan Wan view.src view.dst New
  begun-outbound is came =
      let made = made-step Lan Out came is in
      let begun = made-out config live view u new made.0 made.1 made.2 in
      let o = begun.2.0 in
      let e = only (new_out config live.rules live.sessions live.clock view o) u (subst (λ (q : Passage). In u q.sessions) begun.2.2 made.2) in
      let same : o ≡ u.outside = ap (λ (v : Session). v.outside) (sym e) in (
        (ap (λ (v : Session). v.proto) e, ap (λ (v : Session). v.inside) e, ap (λ (v : Session). v.remote) e),
        ap (λ (v : Session). v.opener) e,
        subst (IsCalled config live view) same (called-by config live view (find (maps_inside view.proto view.src) live.sessions) refl o begun.2.1),
        begun.2.3,
      )

  -- it is the session that takes the packet out, or the one that takes it in
  abbrev IsEither : Session → Session → Type 0
  IsEither first far = ((u ≡ first) × (u.opener ≡ Inside) × IsCalledNear config live view u.outside) ⊎ ((u ≡ far) × (u.opener ≡ Remote) × Reaches config live view Lan first.outside u.inside)

  abbrev GoesBoth : List Session → Type 0
  GoesBoth held = (first : Session) × (far : Session) × PassesByBoth config live held view first far × IsEither first far

  begun-hairpin : In u (step config s judged).0.sessions → Came config judged Lan bytes view Hairpin → GoesBoth (step config s judged).0.sessions
  begun-hairpin is came =
      let at = external-is config view.dst.addr (routed_is_on_route config Lan view Hairpin came.route_is).1.2 in
      let made = made-step Lan Hairpin came is in
      let both = hairpin-told config live.rules live.sessions live.clock view made.0 made.1 in
      let first = both.first in
      let far = both.far in
      let held = put first live.sessions in
      let used = first-used config live view first both.by_first in
      let behind = second-used config live view first far held both.by_far in
      let by : PassesByBoth config live (put far held) view first far = record {
        first_held = put-stays far first held (put-In first live.sessions) (both-apart config live view u new made.0 both);
        goes_out = (used.0, used.1, used.2);
        far_held = put-In far held;
        comes_in = (behind.0, behind.1, behind.2);
        passes = (
          first_state config live.rules live.sessions live.clock view (find (has_inside view.proto view.src view.dst) live.sessions),
          state-out config live view (find (has_inside view.proto view.src view.dst) live.sessions) refl,
          both.lets,
        );
      } in
      let either : IsEither first far = elim (made-both config live view u new made.0 both made.2) [
        | inl begun ↦
            let new_is = begun.0 ∙ begun.1.2.2 in
            let near = near-by config live view at (find (maps_inside view.proto view.src) live.sessions) refl begun.1.2.0 begun.1.2.1 in
            inl (begun.0, ap (λ (v : Session). v.opener) new_is, subst (IsCalledNear config live view) (ap (λ (v : Session). v.outside) (sym new_is)) near)
        | inr begun ↦
            let new_is = begun.0 ∙ begun.1.2.3 in
            let comes_to = comes config live view Lan first.outside.addr held begun.1.2.0 begun.1.2.1 in
            let reached : Reaches config live view Lan first.outside begun.1.2.0 = inr (comes-before config live view first (apart-from first.outside view.dst both.away) Lan first.outside.addr begun.1.2.0 comes_to) in
            inr (begun.0, ap (λ (v : Session). v.opener) new_is, subst (Reaches config live view Lan first.outside) (ap (λ (v : Session). v.inside) (sym new_is)) reached)
      ] in
      subst (λ (p : State × Answer). GoesBoth p.0.sessions) (sym (step-of config s judged Lan bytes view Hairpin came))
      (subst (λ (way : Result Passage Cause). GoesBoth (sent live bytes way).0.sessions) (sym made.1)
      (subst (λ (q : Passage). GoesBoth (put_all q.sessions live.sessions)) (sym both.are) (first, far, by, either)))

pub begin-by-packets : SessionsBeginByPackets
unfolding step
begin-by-packets = record {
  any = λ config s judged u began.
      let live = living s judged in
      elim (act-told config live judged.deed) [
        | inl told ↦
            let made = made-by config live told.2 u began.new told.1 (leg config live told.2 told.3) (subst (λ (done : State × Answer). In u done.0.sessions) told.7 began.is_held) in
            let needs = needs-leg config live told.2 u began.new told.3 made.0 made.1 made.2 in
            (told.0, told.1, told.2, told.3, record { deed_is = told.4; fields_are = told.5; route_is = told.6 }, needs)
        | inr rests ↦ absurd (began.new u (subst (In u) rests.0 began.is_held) (refl, refl, refl))
      ];
  outbound = λ config s judged bytes view u began came. begun-outbound config s judged bytes view u began.new began.is_held came;
  inbound = λ config s judged bytes view u began came. begun-inbound config s judged bytes view u began.new began.is_held came;
  hairpin = λ config s judged bytes view u began came. begun-hairpin config s judged bytes view u began.new began.is_held came;
}

-- ---- what leaves

pub out-came-in : PacketsOutCameIn
out-came-in config s event judged out packet is e =
    let way = step-planned config s judged out packet e in
    (way.0, way.1, way.4.src, way.4.dst, is.what ∙ ap brought way.5, way.10)
