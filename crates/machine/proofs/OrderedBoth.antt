-- The order in which a hairpin is dropped.
use Rattle.std.proofs.Common.{◌≡◌, ◌≢◌, ℕ, ◌<◌, ◌^◌, Bool, true, false, List, [], ◌∷◌, length, Contains, Option, Some, None, is_some, Result, Ok, Err, nat_lt, if◌then◌else◌, refl, sym, ap, ◌∙◌, subst, inl, inr}
use Rattle.std.specs.Prelude.{find}
use Rattle.std.specs.Option.{unwrap_or}
use Rattle.std.proofs.lemmas.Bool.{cases_Bool, false≢true, false_from_ne_true, ltb-true, lt-ltb}
use Rattle.std.proofs.lemmas.Option.{none-some}
use Rattle.packet.proofs.SameLemmas.{same_endpoint-true}
use Rattle.packet.specs.Config.{Config, is_config, is_inside}
use Rattle.packet.specs.Same.{same_endpoint}
use Rattle.packet.specs.declared.endpoint.Endpoint.{Endpoint}
use Rattle.packet.specs.declared.endpoint.Iface.TheVariants.{Lan}
use Rattle.packet.specs.declared.view.View.{View}
use Rattle.portpick.specs.Choice.{IsNearest, after, port_choice}
use Rattle.portpick.specs.Pool.{endpoint, near_choice, port_at}
use Rattle.portpick.proofs.Chosen.{choice-some, nearest-once}
use Rattle.sessions.specs.Listing.{In, Rises, clashes, has_inside, has_outside, put, same_flow}
use Rattle.sessions.specs.Sound.{AreSound}
use Rattle.sessions.specs.Table.{Clash as Clashing}
use Rattle.sessions.specs.declared.session.Opener.TheVariants.{Inside, Remote}
use Rattle.sessions.specs.declared.session.Session.{Session}
use Rattle.sessions.proofs.Clashing.{same_endpoint-from}
use Rattle.sessions.proofs.Found.{has_outside-from, has_outside-true}
use Rattle.sessions.proofs.Held.{Clash-same_keys, Clash-sym, SameKeys-refl}
use Rattle.sessions.proofs.Puts.{find-some, has_inside-true}
use Rattle.sessions.proofs.Sets.{same_endpoints}
use Rattle.verdict.specs.Hooks.{forward_verdict, prerouting_verdict}
use Rattle.verdict.specs.declared.facts.State.{State as Connection}
use Rattle.verdict.specs.declared.facts.State.TheVariants.{New}
use Rattle.verdict.specs.declared.hook.Forwarding.{Forwarding}
use Rattle.verdict.specs.declared.hook.Forwarding.TheVariants as forwarding
use Rattle.hairpin.specs.Legs.{Passage, begun_second, connection_of, counted, facts_of, first_by, forwarded, hairpin_by, hairpin_leg, inside_far, is_taken, maps_inside, needs_session, new_session, or_no_port, outside_near, passed_by, second, second_by, then_with, through, uses_in}
use Rattle.hairpin.specs.Paired.{IsAt}
use Rattle.hairpin.specs.declared.cause.Cause.{Cause}
use Rattle.hairpin.specs.declared.cause.Cause.TheVariants as cause
use Rattle.hairpin.proofs.Apart.{agree, find-In, mapped-some, outside_away, taken-by, taken-from}
use Rattle.hairpin.proofs.Choosing.{near-is as near-choice}
use Rattle.hairpin.proofs.Doubling.{IsFirst, Rises-put, first-is, passed-flow, passed-keys}
use Rattle.machine.specs.Hosts.{IsOccupied}
use Rattle.machine.specs.Machine.{State}
use Rattle.machine.specs.Order as order
use Rattle.machine.specs.Order.{HoldsHairpin, Reason, NeedsSession, ForwardDrops, PreroutingDrops, NoPortLeft, Unmapped, KeptOut, Clashes, OwnEndpoint, NeedsFarSession, NoRoom}
use Rattle.machine.specs.Requirements.{IsStateOut, NoneInside, NoneOutside}
use Rattle.machine.proofs.Called.{is-mapped, not-found, not-mapped}
use Rattle.machine.proofs.Choosing.{full-at}
use Rattle.machine.proofs.Hairpinning.{near-addr, put-of}
use Rattle.machine.proofs.Looked.{Ordered, filtered, first-of, holding, moved, none-at, nowhere-of, skipped, skips, tested}
use Rattle.machine.proofs.Ordered.{Shares, by-clash, by-destination, one-inside, one-way}
use Rattle.machine.proofs.Passing.{one-outside}

-- sessions that stand apart do so with one more that stands apart from those of other flows
put-apart : (t : Session) (sessions : List Session) → ((u v : Session) → In u sessions → In v sessions → u ≢ v → ¬ Clashing u v) → ((u : Session) → In u sessions → same_flow t u ≡ false → ¬ Clashing t u)
    → (u v : Session) → In u (put t sessions) → In v (put t sessions) → u ≢ v → ¬ Clashing u v
put-apart t sessions apart own u v in_u in_v ne clash = elim (put-of t sessions u in_u) [
  | inl is_u ↦ elim (put-of t sessions v in_v) [ inl is_v ↦ ne (is_u ∙ sym is_v) | inr old_v ↦ own v old_v.0 old_v.1 (subst (λ x. Clashing x v) is_u clash) ]
  | inr old_u ↦ elim (put-of t sessions v in_v) [
    | inl is_v ↦ own u old_u.0 old_u.1 (Clash-sym u t (subst (λ x. Clashing u x) is_v clash))
    | inr old_v ↦ apart u v old_u.0 old_v.0 ne clash
  ]
]

-- one way after another
then-then : {A B : Type 0} (r : Result A Cause) (f : A → Result B Cause) (g : B → Result Passage Cause) → then_with (then_with r f) g ≡ then_with r (λ a. then_with (f a) g)
then-then (Err c) f g = refl
then-then (Ok a) f g = refl

then-if : {A : Type 0} (b : Bool) (c : Cause) (r : Result A Cause) (g : A → Result Passage Cause) → then_with (if b then Err c else r) g ≡ (if b then Err c else then_with r g)
then-if true c r g = refl
then-if false c r g = refl

module _ (config : Config) (s : State) (view : View) (is_one : is_config config ≡ true) (sound : AreSound config s.sessions) (inside : is_inside config view.src.addr ≡ true) (at : Contains config.external view.dst.addr)
    (some : 0 < view.src.port) (fits : view.src.port < 2 ^ 16) (dst_some : 0 < view.dst.port) (listed : (addr : ℕ) → IsAt s.sessions view.src.addr addr → Contains config.external addr) where
  abbrev sessions : List Session
  sessions = s.sessions

  abbrev now : ℕ
  now = s.clock

  abbrev H : Reason → Type 0
  H = HoldsHairpin config s view

  abbrev found_out : Option Session
  found_out = find (has_inside view.proto view.src view.dst) sessions

  abbrev found_map : Option Session
  found_map = find (maps_inside view.proto view.src) sessions

  abbrev First : Session → Type 0
  First = order.IsFirst config s view

  abbrev Source : Endpoint → Type 0
  Source = order.IsSource config s view

  abbrev uses : ℕ → Bool
  uses = uses_in sessions view.src.addr

  abbrev taken : ℕ → ℕ → Bool
  taken = is_taken sessions view.proto

  -- ---- the first session is one

  near-by : (o : Option ℕ) → find uses config.external ≡ o → order.IsNear config s view (unwrap_or o view.dst.addr)
  near-by (Some a) e = inl (first-of sessions view.src.addr config.external a e)
  near-by None e = inr (nowhere-of sessions view.src.addr config.external listed e, refl)

  one-source : (e f : Endpoint) → Source e → Source f → e ≡ f
  one-source e f (inl a) (inl b) =
      let same = agree sessions sound.apart a.session b.session a.is_held b.is_held a.translated b.translated (a.proto ∙ sym b.proto) in
      sym a.outside ∙ same.0 (a.inside ∙ sym b.inside) ∙ b.outside
  one-source e f (inl a) (inr b) = absurd (b.0 e a)
  one-source e f (inr a) (inl b) = absurd (a.0 f b)
  one-source e f (inr a) (inr b) =
      let addr : e.addr ≡ f.addr = near-addr config s view e.addr a.1 ∙ sym (near-addr config s view f.addr b.1) in
      same_endpoints e f addr (nearest-once (IsOccupied sessions view.proto f.addr) view.src.port e.port f.port (subst (λ x. IsNearest (IsOccupied sessions view.proto x) view.src.port e.port) addr a.2) b.2)

  one-first : (a b : Session) → First a → First b → a ≡ b
  one-first a b (inl x) (inl y) = x.3 ∙ ap (λ (u : Session). passed_by u Inside view.flags now) (one-inside config s view sound x.0 y.0 x.1 y.1 x.2 y.2) ∙ sym y.3
  one-first a b (inl x) (inr y) = absurd (y.0 x.0 x.1 x.2)
  one-first a b (inr x) (inl y) = absurd (x.0 y.0 y.1 y.2)
  one-first a b (inr x) (inr y) = x.1.2 ∙ ap (λ e. new_session config s.rules sessions now view Inside view.src e view.dst) (one-source x.1.0 y.1.0 x.1.1 y.1.1) ∙ sym y.1.2

  abbrev verdict_both : Endpoint → Connection → Forwarding
  verdict_both far state = forward_verdict config (facts_of config s.rules sessions now view Lan (Some Lan) view.src far state) s.rules

  abbrev Later : List Reason
  Later = ForwardDrops ∷ NoRoom ∷ []

  module _ (state : Connection) (state_is : IsStateOut s view state) (one_state : (c : Connection) → IsStateOut s view c → c ≡ state) (first : Session) (is : First first)
      (rises : Rises (put first sessions)) (apart : (u v : Session) → In u (put first sessions) → In v (put first sessions) → u ≢ v → ¬ Clashing u v) where
    abbrev held : List Session
    held = put first sessions

    abbrev on : Session → Result Passage Cause
    on t = forwarded config s.rules sessions now view Lan Lan view.src t.inside state (counted config s.rules sessions now view (through first t))

    abbrev found_far : Option Session
    found_far = find (has_outside view.proto view.dst first.outside) held

    -- what is said behind some first session is said behind this one
    said : (why : Reason) → order.AfterFirst config s view why → order.HoldsFar config s view first why
    said why h = subst (λ x. order.HoldsFar config s view x why) (one-first h.0 first h.1 is) h.2

    shares : Shares config s view Lan first.outside held apart H
    shares = record {
      prerouting = (λ h. said PreroutingDrops h, λ h. (first, is, h));
      unmapped = (λ h. said Unmapped h, λ h. (first, is, h));
      kept = (λ h. said KeptOut h, λ h. (first, is, h));
      clashes = (λ h. said Clashes h, λ h. (first, is, h));
    }

    -- once the second is known
    module _ (t : Session) (is_t : order.IsSecond config s view first t) (one : (u : Session) → order.IsSecond config s view first u → u ≡ t) where
      on-ordered : Ordered H (on t) Later
      on-ordered = filtered H (NoRoom ∷ []) (verdict_both t.inside state) (counted config s.rules sessions now view (through first t))
          (λ drops. (first, is, (t, state, is_t, state_is, drops)))
          (λ h.
          let far = said ForwardDrops h in
          subst (λ (u : Session). verdict_both u.inside state ≡ forwarding.Drop) (one far.0 far.2)
          (subst (λ c. verdict_both far.0.inside c ≡ forwarding.Drop) (one_state far.1 far.3) far.4))
          (tested H NoRoom [] (nat_lt 65536 (length (put t held))) (Ok (through first t)) (λ many. (first, is, (t, is_t, ltb-true 65536 (length (put t held)) many)))
          (λ h. let far = said NoRoom h in lt-ltb 65536 (length (put t held)) (subst (λ u. 65536 < length (put u held)) (one far.0 far.1) far.2))
          (λ few. (through first t, refl)))

    -- ---- the second goes on

    abbrev Behind : List Reason
    Behind = NeedsFarSession ∷ PreroutingDrops ∷ Unmapped ∷ KeptOut ∷ Clashes ∷ Later

    second-ordered : (found : Option Session) → found_far ≡ found → Ordered H (then_with (second_by config s.rules sessions now view first held found) on) Behind
    second-ordered (Some u) e =
        let known = find-In (has_outside view.proto view.dst first.outside) held u e in
        let has = has_outside-true view.proto view.dst first.outside u known.1 in
        let t = passed_by u Remote view.flags now in
        let not_new : NoneOutside held view.proto view.dst first.outside → ⊥ = λ none. none u known.0 has in
        let one : (v : Session) → order.IsSecond config s view first v → v ≡ t = λ v second_is. elim second_is [
          | inl by ↦ by.3 ∙ ap (λ (w : Session). passed_by w Remote view.flags now) (one-outside held rises apart view.proto view.dst first.outside by.0 u by.1 known.0 by.2 has)
          | inr fresh ↦ absurd (not_new fresh.0)
        ] in
        skips H (on t) (NeedsFarSession ∷ PreroutingDrops ∷ Unmapped ∷ KeptOut ∷ Clashes ∷ []) Later
        ((λ h. not_new (said NeedsFarSession h).0), ((λ h. not_new (said PreroutingDrops h).0), ((λ h. not_new (said Unmapped h).0), ((λ h. not_new (said KeptOut h).0), ((λ h. not_new (said Clashes h).0), tt)))))
        (on-ordered t (inl (u, known.0, has, refl)) one)
    second-ordered None e =
        let new : NoneOutside held view.proto view.dst first.outside = λ u in_u own.
        let found = find-some (has_outside view.proto view.dst first.outside) held u in_u (has_outside-from view.proto view.dst first.outside u own) in none-some found.0 (sym e ∙ found.1) in
        let far = inside_far config s.rules sessions now view first held in
        let begin = begun_second config s.rules sessions now view first held in
        moved H (then_with (if needs_session view then Err cause.NoSession else then_with far begin) on) (if needs_session view then Err cause.NoSession else then_with far (λ x. then_with (begin x) on)) Behind
        (then-if (needs_session view) cause.NoSession (then_with far begin) on ∙ ap (λ r. if needs_session view then Err cause.NoSession else r) (then-then far begin on))
        (tested H NeedsFarSession (PreroutingDrops ∷ Unmapped ∷ KeptOut ∷ Clashes ∷ Later) (needs_session view) (then_with far (λ x. then_with (begin x) on)) (λ needs. (first, is, (new, needs))) (λ h. (said NeedsFarSession h).1)
        (λ _. by-destination config s view Lan first.outside held apart H shares new (Clashes ∷ Later) (λ x. then_with (begin x) on)
        (λ x leads.
        let t = order.new_to config s view Lan first.outside held x in
        let one : (v : Session) → order.IsSecond config s view first v → v ≡ t = λ v second_is. elim second_is [
          | inl by ↦ absurd (new by.0 by.1 by.2)
          | inr fresh ↦ fresh.1.2 ∙ ap (order.new_to config s view Lan first.outside held) (one-way config s view Lan first.outside held apart fresh.1.0 x fresh.1.1 leads)
        ] in
        moved H (then_with (begin x) on) (if is_some (find (clashes t) held) then Err cause.Clash else on t) (Clashes ∷ Later)
        (then-if (is_some (find (clashes t) held)) cause.Clash (Ok t) on)
        (by-clash config s view Lan first.outside held apart H shares new Later x leads (on t) (λ none. on-ordered t (inr (new, (x, leads, refl))) one)))
        (false_from_ne_true _ (λ h. outside_away config is_one view.dst.addr at h))
        (prerouting_verdict config (facts_of config s.rules sessions now view Lan None view.src view.dst New) s.rules) refl))

    pub behind-first : Ordered H (then_with (second config s.rules sessions now view first held) on) (OwnEndpoint ∷ Behind)
    behind-first = elim (cases_Bool (same_endpoint first.outside view.dst)) [
      | inl same ↦ holding H (then_with (second config s.rules sessions now view first held) on) OwnEndpoint Behind (first, is, same_endpoint-true first.outside view.dst same)
          (ap (λ b. then_with (if b then Err cause.SelfMapped else second_by config s.rules sessions now view first held found_far) on) same)
      | inr other ↦ skipped H (then_with (second config s.rules sessions now view first held) on) OwnEndpoint Behind
          (λ h. false≢true (sym other ∙ same_endpoint-from first.outside view.dst (said OwnEndpoint h)))
          (moved H (then_with (second config s.rules sessions now view first held) on) (then_with (second_by config s.rules sessions now view first held found_far) on) Behind
          (ap (λ b. then_with (if b then Err cause.SelfMapped else second_by config s.rules sessions now view first held found_far) on) other)
          (second-ordered found_far refl))
    ]

  -- ---- the first

  abbrev All : List Reason
  All = NeedsSession ∷ NoPortLeft ∷ OwnEndpoint ∷ NeedsFarSession ∷ PreroutingDrops ∷ Unmapped ∷ KeptOut ∷ Clashes ∷ Later

  abbrev far_on : Connection → Session → Result Passage Cause
  far_on state first = then_with (second config s.rules sessions now view first (put first sessions))
      (λ t. forwarded config s.rules sessions now view Lan Lan view.src t.inside state (counted config s.rules sessions now view (through first t)))

  first-known : (found : Option Session) → found_out ≡ found → (first : Session) → first_by config s.rules sessions now view found ≡ Ok first → IsFirst config sessions view now found first
  first-known found e first h = first-is config s.rules sessions now view is_one sound inside at some dst_some found e first h

  abbrev Rest : List Reason
  Rest = OwnEndpoint ∷ NeedsFarSession ∷ PreroutingDrops ∷ Unmapped ∷ KeptOut ∷ Clashes ∷ Later

  module _ (new : NoneInside sessions view.proto view.src view.dst) (go : Endpoint → Result Passage Cause) (going : (o : Endpoint) → outside_near config s.rules sessions now view found_map ≡ Ok o → Source o → Ordered H (go o) Rest) where
    abbrev a0 : ℕ
    a0 = unwrap_or (find uses config.external) view.dst.addr

    module _ (none : found_map ≡ None) where
      nearest : (q : ℕ) → port_choice (taken a0) view.src.port ≡ Some q → IsNearest (IsOccupied sessions view.proto a0) view.src.port q
      nearest q h =
          let near = choice-some (taken a0) view.src.port some fits q h in
          record {
            steps = near.steps;
            reached = near.reached;
            is_free = λ held. near.is_free (taken-from sessions view.proto a0 q held.0 held.1 held.2 held.3);
            nearer_taken = λ fewer lt. taken-by sessions view.proto a0 (after fewer view.src.port) (near.nearer_taken fewer lt);
          }

      abbrev IsChosen : Endpoint → Type 0
      IsChosen e = order.IsNear config s view e.addr × IsNearest (IsOccupied sessions view.proto e.addr) view.src.port e.port

      chosen-ordered : (o : Option Endpoint) → near_choice uses taken config.external view.dst.addr view.src.port ≡ o → Ordered H (then_with (or_no_port o) go) (NoPortLeft ∷ Rest)
      chosen-ordered None e =
          let none_at : port_at taken view.src.port a0 ≡ None = sym (near-choice uses taken config.external view.src.port view.dst.addr) ∙ e in
          holding H (Err cause.NoPort) NoPortLeft Rest (new, not-mapped config s view none, (a0, near-by (find uses config.external) refl, full-at sessions view.proto view.src.port some fits a0 none_at)) refl
      chosen-ordered (Some x) e =
          let some_at : port_at taken view.src.port a0 ≡ Some x = sym (near-choice uses taken config.external view.src.port view.dst.addr) ∙ e in
          let q = mapped-some (endpoint a0) (port_choice (taken a0) view.src.port) x some_at in
          skipped H (go x) NoPortLeft Rest
          (λ h. none-some x (sym (none-at sessions view.proto view.src.port some fits a0 (subst (order.IsFull config s view) (near-addr config s view h.2.0 h.2.1) h.2.2)) ∙ some_at))
          (going x (ap (outside_near config s.rules sessions now view) none ∙ ap or_no_port e)
          (let chosen = subst IsChosen q.2 (near-by (find uses config.external) refl, nearest q.0 q.1) in inr (not-mapped config s view none, chosen.0, chosen.1)))

    near-ordered : (found : Option Session) → found_map ≡ found → Ordered H (then_with (outside_near config s.rules sessions now view found) go) (NoPortLeft ∷ Rest)
    near-ordered (Some m) e =
        let mapping = is-mapped config s view m e m.outside refl in
        skipped H (go m.outside) NoPortLeft Rest (λ h. h.1 m.outside mapping) (going m.outside (ap (outside_near config s.rules sessions now view) e) (inl mapping))
    near-ordered None e = chosen-ordered e (near_choice uses taken config.external view.dst.addr view.src.port) refl

  hairpin-ordered-by : (found : Option Session) → found_out ≡ found → Ordered H (hairpin_by config s.rules sessions now view found) All
  hairpin-ordered-by (Some u) e =
      let known = find-In (has_inside view.proto view.src view.dst) sessions u e in
      let has = has_inside-true view.proto view.src view.dst u known.1 in
      let first = passed_by u Inside view.flags now in
      let keys = passed-keys u Inside view.flags now in
      let state = connection_of u Inside view.flags in
      let own : (v : Session) → In v sessions → same_flow first v ≡ false → ¬ Clashing first v = λ v in_v other clash.
      sound.apart u v known.0 in_v (λ same. false≢true (sym other ∙ subst (λ w. same_flow first w ≡ true) same (passed-flow u Inside view.flags now)))
      (Clash-same_keys u v first v keys (SameKeys-refl v) clash) in
      let one_state : (c : Connection) → IsStateOut s view c → c ≡ state = λ c st. elim st [
        | inl none ↦ absurd (none.0 u known.0 has)
        | inr by ↦ by.3 ∙ ap (λ (v : Session). connection_of v Inside view.flags) (one-inside config s view sound by.0 u by.1 known.0 by.2 has)
      ] in
      skips H (far_on state first) (NeedsSession ∷ NoPortLeft ∷ []) Rest ((λ h. h.0 u known.0 has), ((λ h. h.0 u known.0 has), tt))
      (behind-first state (inr (u, known.0, has, refl)) one_state first (inl (u, known.0, has, refl)) (Rises-put first sessions sound.rises) (put-apart first sessions sound.apart own))
  hairpin-ordered-by None e =
      let new = not-found view.proto view.src view.dst sessions e in
      let one_state : (c : Connection) → IsStateOut s view c → c ≡ New = λ c st. elim st [ inl none ↦ none.1 | inr by ↦ absurd (new by.0 by.1 by.2) ] in
      let begin : Endpoint → Result Session Cause = λ outside. Ok (new_session config s.rules sessions now view Inside view.src outside view.dst) in
      let near = outside_near config s.rules sessions now view found_map in
      moved H (then_with (if needs_session view then Err cause.NoSession else then_with near begin) (far_on New)) (if needs_session view then Err cause.NoSession else then_with near (λ x. then_with (begin x) (far_on New))) All
      (then-if (needs_session view) cause.NoSession (then_with near begin) (far_on New) ∙ ap (λ r. if needs_session view then Err cause.NoSession else r) (then-then near begin (far_on New)))
      (tested H NeedsSession (NoPortLeft ∷ Rest) (needs_session view) (then_with near (λ x. then_with (begin x) (far_on New))) (λ needs. (new, needs)) (λ h. h.1) (λ no_need.
      let going : (o : Endpoint) → near ≡ Ok o → Source o → Ordered H (far_on New (new_session config s.rules sessions now view Inside view.src o view.dst)) Rest = λ o given source.
      let first = new_session config s.rules sessions now view Inside view.src o view.dst in
      let made : first_by config s.rules sessions now view None ≡ Ok first = ap (λ b. if b then Err cause.NoSession else then_with near begin) no_need ∙ ap (λ r. then_with r begin) given in
      let opened = ((first-known None e first made).begins refl).0 in
      behind-first New (inl (new, refl)) one_state first (inr (new, (o, source, refl))) (Rises-put first sessions sound.rises)
      (put-apart first sessions sound.apart (λ v in_v other. opened.apart v in_v)) in
      near-ordered new (λ x. then_with (begin x) (far_on New)) going found_map refl))

  pub hairpin-ordered : Ordered H (hairpin_leg config s.rules sessions now view) All
  hairpin-ordered = hairpin-ordered-by found_out refl
