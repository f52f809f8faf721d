-- A hairpin leaves from the external endpoint of its sender.
use Rattle.std.proofs.Common.{◌≡◌, ◌≢◌, ◌⊎◌, ℕ, List, [], ◌∷◌, Contains, Option, Some, None, Ok, true, false, map, refl, sym, ap, ◌∙◌, subst, inl, inr}
use Rattle.std.specs.Prelude.{find}
use Rattle.std.proofs.lemmas.Bool.{false≢true}
use Rattle.packet.specs.Config.{Config, is_config, is_external, is_inside}
use Rattle.packet.specs.Fields.{fields}
use Rattle.packet.specs.Route.{route}
use Rattle.packet.specs.Translated.{translated}
use Rattle.packet.specs.declared.endpoint.Endpoint.{Endpoint}
use Rattle.packet.specs.declared.endpoint.Iface.{Iface}
use Rattle.packet.specs.declared.endpoint.Iface.TheVariants.{Lan}
use Rattle.packet.specs.declared.route.Route.{Route}
use Rattle.packet.specs.declared.route.Route.TheVariants.{Out, Hairpin, In as InRoute}
use Rattle.packet.specs.declared.view.View.{View}
use Rattle.packet.proofs.Pools.{listed-is}
use Rattle.packet.proofs.Routes.{routed_is_on_route}
use Rattle.portpick.specs.Pool.{near_choice}
use Rattle.sessions.specs.Life.{alive}
use Rattle.sessions.specs.Listing.{In, has_inside, has_outside, put}
use Rattle.sessions.specs.Sound.{AreSound}
use Rattle.sessions.specs.Stilled.{at_moment, stilled}
use Rattle.sessions.specs.declared.session.Opener.{Opener}
use Rattle.sessions.specs.declared.session.Opener.TheVariants.{Inside, Remote}
use Rattle.sessions.specs.declared.session.Session.{Session}
use Rattle.sessions.proofs.Puts.{has_inside-true}
use Rattle.sessions.proofs.Sets.{In-filter}
use Rattle.sessions.proofs.Stilled.{In-map}
use Rattle.hairpin.specs.Legs.{Passage, hairpin_leg, in_leg, is_taken, maps_inside, out_leg, outside_near, passed_by, put_all, through, uses_in}
use Rattle.hairpin.proofs.Apart.{find-In, maps-parts, outside_away, port-ok, same_Ok, translated_at}
use Rattle.hairpin.proofs.Doubling.{passed-keys, put-In}
use Rattle.hairpin.proofs.Soundness.{IsFine, JoinAll}
use Rattle.machine.specs.Judged.{AreJudged, Judged}
use Rattle.machine.specs.Laws.{Came, living}
use Rattle.machine.specs.Machine.{State, act, after, later, leg, step}
use Rattle.machine.specs.Noted.{IsResumed, lasting}
use Rattle.machine.specs.Requirements.{AreTranslatedNear, HairpinsHaveExternalSources, LeavesByMappings}
use Rattle.machine.specs.Sound.{IsSoundState}
use Rattle.machine.specs.declared.deed.Deed.{Deed}
use Rattle.machine.specs.declared.event.Answer.TheVariants.{Forward}
use Rattle.machine.specs.declared.event.Event.{Event}
use Rattle.machine.proofs.Keeping.{near-listed}
use Rattle.machine.proofs.Left.{step-passed}
use Rattle.machine.proofs.Passages.{FirstBegins, FirstGoesOn, hairpin-told, in-told, new_in, new_out, out-told}
use Rattle.machine.proofs.Refreshing.{apart-flows, first-used, put-stays, second-used}
use Rattle.machine.proofs.Soundness.{done-by, external-is, leg-fine, living-sound, put_all-member, run-keeps}

module _ (config : Config) (is_one : is_config config ≡ true) (live : State) (sound : IsSoundState config live) (near : AreTranslatedNear config live.sessions) (view : View) where
  abbrev sessions : List Session
  sessions = live.sessions

  abbrev now : ℕ
  now = live.clock

  abbrev IsNear : Session → Type 0
  IsNear u = Contains config.external u.remote.addr → u.inside ≢ u.outside

  -- a session that goes on is as it was
  near-passed : (s : Session) (sender : Opener) → In s sessions → IsNear (passed_by s sender view.flags now)
  near-passed s sender is external e =
      let keys = passed-keys s sender view.flags now in
      near s is (subst (λ (x : Endpoint). Contains config.external x.addr) (sym keys.remote) external) (keys.inside ∙ e ∙ sym keys.outside)

  not-listed : (addr : ℕ) → is_external config addr ≡ false → Contains config.external addr → ⊥
  not-listed addr isnt is = false≢true (sym isnt ∙ (listed-is config.external addr).1 is)

  -- what a passage of one session puts in is that session
  near-one : (t : Session) → IsNear t → (p : Passage) → p.sessions ≡ t ∷ [] → (u : Session) → In u p.sessions → IsNear u
  near-one t near_t p are u is = elim (subst (In u) are is) [ inl e ↦ subst IsNear (sym e) near_t | inr no_more ↦ absurd no_more ]

  near-out : is_external config view.dst.addr ≡ false → (p : Passage) → out_leg config live.rules sessions now view ≡ Ok p → (u : Session) → In u p.sessions → IsNear u
  near-out away p h = elim (out-told config live.rules sessions now view p h) [
    | inl on ↦ near-one (passed_by on.0 Inside view.flags now) (near-passed on.0 Inside (find-In (has_inside view.proto view.src view.dst) sessions on.0 on.1).0) p (ap (λ (q : Passage). q.sessions) on.2)
    | inr begun ↦ near-one (new_out config live.rules sessions now view begun.2.0) (λ external. absurd (not-listed view.dst.addr away external)) p (ap (λ (q : Passage). q.sessions) begun.2.2)
  ]

  near-in : is_external config view.src.addr ≡ false → (p : Passage) → in_leg config live.rules sessions now view ≡ Ok p → (u : Session) → In u p.sessions → IsNear u
  near-in away p h = elim (in-told config live.rules sessions now view p h) [
    | inl on ↦ near-one (passed_by on.0 Remote view.flags now) (near-passed on.0 Remote (find-In (has_outside view.proto view.dst view.src) sessions on.0 on.1).0) p (ap (λ (q : Passage). q.sessions) on.2)
    | inr begun ↦ near-one (new_in config live.rules sessions now view begun.2.0) (λ external. absurd (not-listed view.src.addr away external)) p (ap (λ (q : Passage). q.sessions) begun.2.3)
  ]

  -- ---- both sessions of a hairpin

  module _ (inside : is_inside config view.src.addr ≡ true) (at : Contains config.external view.dst.addr) where
    away-from : (found : Option Session) → find (maps_inside view.proto view.src) sessions ≡ found → (o : Endpoint) → outside_near config live.rules sessions now view found ≡ Ok o → view.src ≢ o
    away-from (Some m) e o h =
        let parts = maps-parts view.proto view.src m (find-In (maps_inside view.proto view.src) sessions m e).1 in
        λ same. parts.0 (parts.2 ∙ same ∙ sym (same_Ok m.outside o h))
    away-from None e o h =
        let uses = uses_in sessions view.src.addr in
        let taken = is_taken sessions view.proto in
        let listed = near-listed uses taken config.external view.src.port view.dst.addr o at (port-ok (near_choice uses taken config.external view.dst.addr view.src.port) o h) in
        λ same. outside_away config is_one o.addr listed (subst (λ (x : Endpoint). is_inside config x.addr ≡ true) same inside)

    first-translated : (first : Session) → FirstGoesOn config live.rules sessions now view first ⊎ FirstBegins config live.rules sessions now view first → first.inside ≢ first.outside
    first-translated first (inl on) =
        let found = find-In (has_inside view.proto view.src view.dst) sessions on.0 on.1 in
        let has = has_inside-true view.proto view.src view.dst on.0 found.1 in
        subst (λ (v : Session). v.inside ≢ v.outside) (sym on.2)
        (near-passed on.0 Inside found.0 (subst (λ (x : Endpoint). Contains config.external x.addr) (sym has.2 ∙ (passed-keys on.0 Inside view.flags now).remote) at))
    first-translated first (inr begun) =
        subst (λ (v : Session). v.inside ≢ v.outside) (sym begun.2.2) (away-from (find (maps_inside view.proto view.src) sessions) refl begun.2.0 begun.2.1)

    -- all that is known of them once the packet has passed
    pub record AreBoth (p : Passage) (first far : Session) : Type 0 where
      pub are : p ≡ through first far
      pub near_held : In first (put_all p.sessions sessions)
      pub far_held : In far (put_all p.sessions sessions)
      pub near_away : first.inside ≢ first.outside
      pub far_away : far.inside ≢ far.outside
      pub external : Contains config.external first.outside.addr
      pub near_proto : first.proto ≡ view.proto
      pub near_inside : first.inside ≡ view.src
      pub far_proto : far.proto ≡ view.proto
      pub far_outside : far.outside ≡ view.dst

    pub both-of : (p : Passage) → hairpin_leg config live.rules sessions now view ≡ Ok p → AreSound config (put_all p.sessions sessions) → (first : Session) × (far : Session) × AreBoth p first far
    both-of p h all =
        let both = hairpin-told config live.rules sessions now view p h in
        let first = both.first in
        let far = both.far in
        let is = first-used config live view first both.by_first in
        let behind = second-used config live view first far (put first sessions) both.by_far in
        let same : put_all p.sessions sessions ≡ put far (put first sessions) = ap (λ (q : Passage). put_all q.sessions sessions) both.are in
        let near_held : In first (put_all p.sessions sessions) = subst (In first) (sym same) (put-stays far first (put first sessions) (put-In first sessions) (apart-flows config live view first far is behind both.away)) in
        let far_held : In far (put_all p.sessions sessions) = subst (In far) (sym same) (put-In far (put first sessions)) in
        let near_away = first-translated first both.by_first in (
          first,
          far,
          record {
            are = both.are;
            near_held = near_held;
            far_held = far_held;
            near_away = near_away;
            far_away = translated_at config far is_one (all.placed far far_held) (subst (λ (x : Endpoint). Contains config.external x.addr) (sym behind.1) at);
            external = elim (all.placed first near_held).outside [ inl same ↦ absurd (near_away (sym same)) | inr listed ↦ listed ];
            near_proto = is.0;
            near_inside = is.1;
            far_proto = behind.0;
            far_outside = behind.1;
          },
        )

    near-both : (p : Passage) → hairpin_leg config live.rules sessions now view ≡ Ok p → AreSound config (put_all p.sessions sessions) → (u : Session) → In u p.sessions → IsNear u
    near-both p h all u is =
        let both = both-of p h all in
        elim (subst (λ (q : Passage). In u q.sessions) both.2.are is) [
          | inl e ↦ λ external. subst (λ (v : Session). v.inside ≢ v.outside) (sym e) both.2.near_away
          | inr (inl e) ↦ λ external. subst (λ (v : Session). v.inside ≢ v.outside) (sym e) both.2.far_away
          | inr (inr no_more) ↦ absurd no_more
        ]

  -- ---- what a leg leaves

  module _ (iface : Iface) (bytes : List ℕ) (fields_are : fields bytes ≡ Ok view) where
    pub passage-sound : (r : Route) → route config iface view ≡ Ok r → (p : Passage) → leg config live view r ≡ Ok p → AreSound config (put_all p.sessions sessions)
    passage-sound r route_is p h =
        let fine = leg-fine config is_one live sound (λ done. Unit {0}) (λ a. tt) (λ ts i b joins. tt) iface bytes view fields_are r route_is in
        let joins : JoinAll config sessions now p.sessions = subst (IsFine config sessions now) h fine in
        joins.sound

    pub near-leg : (r : Route) → route config iface view ≡ Ok r → (p : Passage) → leg config live view r ≡ Ok p → (u : Session) → In u p.sessions → IsNear u
    near-leg Out route_is p h = near-out (routed_is_on_route config iface view Out route_is).1.3 p h
    near-leg InRoute route_is p h = near-in (routed_is_on_route config iface view InRoute route_is).1.2 p h
    near-leg Hairpin route_is p h =
        let there = (routed_is_on_route config iface view Hairpin route_is).1 in
        near-both there.1 (external-is config view.dst.addr there.2) p h (passage-sound Hairpin route_is p h)

-- ---- steps and runs

module _ (config : Config) (is_one : is_config config ≡ true) where
  act-near : (live : State) → IsSoundState config live → AreTranslatedNear config live.sessions → (d : Deed) → AreTranslatedNear config (act config live d).0.sessions
  act-near live sound near d = done-by config live d (λ done. AreTranslatedNear config done.0.sessions) (λ a. near) (λ text rules e. near)
      (λ iface bytes view r deed_is fields_are route_is p h u is. elim (put_all-member p.sessions live.sessions u is) [
        | inl made ↦ near-leg config is_one live sound near view iface bytes fields_are r route_is p h u made
        | inr old ↦ near u old
      ])
      d refl

  -- of fewer sessions too
  living-near : (s : State) (judged : Judged) → AreTranslatedNear config s.sessions → AreTranslatedNear config (living s judged).sessions
  living-near s judged near = λ u is. near u (In-filter (alive (later s.clock judged.moment)) s.sessions u is).0

  step-near : (s : State) (judged : Judged) → IsSoundState config s → AreTranslatedNear config s.sessions → AreTranslatedNear config (step config s judged).0.sessions
  unfolding step
  step-near s judged sound near = act-near (living s judged) (living-sound config is_one s judged sound) (living-near s judged near) judged.deed

  run-near : (s : State) (events : List Event) (judged : List Judged) → AreJudged config events judged → IsSoundState config s → AreTranslatedNear config s.sessions → AreTranslatedNear config (after config s judged).sessions
  run-near = run-keeps config is_one (λ at. AreTranslatedNear config at.sessions) (λ s judged right sound. step-near s judged sound)

  -- ---- what leaves

  leaves : (s : State) (judged : Judged) (bytes : List ℕ) (view : View) (out : Iface) (packet : List ℕ) → IsSoundState config s → AreTranslatedNear config s.sessions → Came config judged Lan bytes view Hairpin
      → (step config s judged).1 ≡ Forward out packet → LeavesByMappings config (step config s judged).0 view bytes out packet
  leaves s judged bytes view out packet sound near came e =
      let passed = step-passed config s judged Lan bytes view Hairpin out packet came e in
      let p = passed.passage in
      let there = (routed_is_on_route config Lan view Hairpin came.route_is).1 in
      let living_is = living-sound config is_one s judged sound in
      let all = passage-sound config is_one (living s judged) living_is (living-near s judged near) view Lan bytes came.fields_are Hairpin came.route_is p passed.passes in
      let both = both-of config is_one (living s judged) living_is (living-near s judged near) view there.1 (external-is config view.dst.addr there.2) p passed.passes all in
      let first = both.0 in
      let far = both.1 in
      let are = both.2 in
      subst (λ (a : State). LeavesByMappings config a view bytes out packet) (sym passed.after_is)
      (record {
        on_lan = passed.out_is ∙ ap (λ (q : Passage). q.iface) are.are;
        source = first.outside;
        inside = far.inside;
        is = passed.packet_is ∙ ap (λ (q : Passage). translated bytes q.src q.dst) are.are;
        external = are.external;
        from = record { session = first; is_held = are.near_held; translated = are.near_away; proto = are.near_proto; inside = are.near_inside; outside = refl };
        to = record { session = far; is_held = are.far_held; translated = are.far_away; proto = are.far_proto; inside = refl; outside = are.far_outside };
      })

-- ---- what survives

moved-near : (config : Config) (moment : ℕ) (held : List Session) → AreTranslatedNear config held → AreTranslatedNear config (map (at_moment moment) held)
moved-near config moment held near u is external e =
    let s = In-map (at_moment moment) held u is in
    near s.0 s.1 (subst (λ (v : Session). Contains config.external v.remote.addr) s.2 external)
    (sym (ap (λ (v : Session). v.inside) s.2) ∙ e ∙ ap (λ (v : Session). v.outside) s.2)

resumed-near : (config : Config) (s again : State) (moment : ℕ) → IsResumed config (lasting s) moment again → AreTranslatedNear config s.sessions → AreTranslatedNear config again.sessions
resumed-near config s again moment resumed near =
    subst (AreTranslatedNear config) (sym resumed.sessions) (moved-near config moment (map stilled s.sessions) (moved-near config 0 s.sessions near))

pub external-sources : HairpinsHaveExternalSources
external-sources = record {
  leaves = λ config s judged bytes view out packet is_one. leaves config is_one s judged bytes view out packet;
  start = λ config moment u is. absurd is;
  runs = λ config s events judged is_one. run-near config is_one s events judged;
  resumed = resumed-near;
}
