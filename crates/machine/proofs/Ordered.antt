-- The order in which a packet that goes out, or comes in, is dropped.
use Rattle.std.proofs.Common.{◌≡◌, ◌≢◌, ◌⊎◌, ℕ, ◌<◌, ◌^◌, Bool, true, false, List, [], ◌∷◌, length, Contains, Option, Some, None, is_some, Result, Ok, Err, nat_lt, if◌then◌else◌, refl, sym, ap, ◌∙◌, subst, inl, inr}
use Rattle.std.specs.Prelude.{find}
use Rattle.std.proofs.lemmas.Bool.{cases_Bool, false≢true}
use Rattle.std.proofs.lemmas.Option.{none-some, same_Some}
use Rattle.packet.specs.Config.{Config, is_inside}
use Rattle.packet.specs.declared.endpoint.Endpoint.{Endpoint}
use Rattle.packet.specs.declared.endpoint.Iface.{Iface}
use Rattle.packet.specs.declared.endpoint.Iface.TheVariants.{Lan, Wan}
use Rattle.packet.specs.declared.view.View.{View}
use Rattle.portpick.specs.Pool.{choice_by, pool_choice, port_at}
use Rattle.sessions.specs.Laws.{IsMapping}
use Rattle.sessions.specs.Listing.{In, clashes, has_inside, has_outside, put}
use Rattle.sessions.specs.Sound.{AreSound}
use Rattle.sessions.specs.Table.{Clash as Clashing, HasInside}
use Rattle.sessions.specs.declared.session.Opener.TheVariants.{Inside, Remote}
use Rattle.sessions.specs.declared.session.Session.{Session}
use Rattle.sessions.proofs.Clashing.{Clash-clashes, clashes-Clash}
use Rattle.sessions.proofs.Found.{has_outside-from, has_outside-true}
use Rattle.sessions.proofs.Puts.{find-some, has_inside-true, keys-from}
use Rattle.verdict.specs.Hooks.{forward_verdict, prerouting_verdict, postrouting_verdict}
use Rattle.verdict.specs.declared.facts.State.{State as Connection}
use Rattle.verdict.specs.declared.facts.State.TheVariants.{New}
use Rattle.verdict.specs.declared.hook.Destination.{Destination}
use Rattle.verdict.specs.declared.hook.Destination.TheVariants as destination
use Rattle.verdict.specs.declared.hook.Forwarding.{Forwarding}
use Rattle.verdict.specs.declared.hook.Forwarding.TheVariants as forwarding
use Rattle.verdict.specs.declared.hook.Source.{Source}
use Rattle.verdict.specs.declared.hook.Source.TheVariants as source
use Rattle.hairpin.specs.Legs.{Passage, begun_in, begun_out, connection_of, counted, facts_of, in_by, in_leg, inside_by_rules, inside_for, inward, is_taken, lets_in, maps_inside, maps_outside, needs_session, new_session, or_no_port, out_by, out_leg, outside_by_rules, outside_for, outward, passed_by, then_with, unless_dropped, uses_in}
use Rattle.hairpin.specs.Paired.{IsAt}
use Rattle.hairpin.specs.declared.cause.Cause.{Cause}
use Rattle.hairpin.specs.declared.cause.Cause.TheVariants as cause
use Rattle.hairpin.proofs.Apart.{agree, find-In, maps_outside-from, maps_outside-parts}
use Rattle.hairpin.proofs.Pairs.{found-in}
use Rattle.machine.specs.Machine.{State}
use Rattle.machine.specs.Order as order
use Rattle.machine.specs.Order.{HoldsIn, HoldsOut, Reason, NeedsSession, ForwardDrops, PostroutingDrops, PreroutingDrops, NoPortLeft, Unmapped, KeptOut, Clashes, NoRoom}
use Rattle.machine.specs.Requirements.{NoneInside, NoneOutside}
use Rattle.machine.proofs.Admitting.{lets-true}
use Rattle.machine.proofs.Choosing.{full-at}
use Rattle.machine.proofs.Called.{is-mapped, lets-known, not-found, not-mapped}
use Rattle.machine.proofs.Looked.{Ordered, all-none, filtered, first-of, holding, moved, none-all, none-at, none-of, nowhere-of, of-first, one-more, skipped, skips, tested}
use Rattle.machine.proofs.Passing.{one-of-flow, one-outside}

module _ (config : Config) (s : State) (view : View) (sound : AreSound config s.sessions) where
  abbrev sessions : List Session
  sessions = s.sessions

  abbrev now : ℕ
  now = s.clock

  -- ---- out

  pub one-inside : (u v : Session) → In u sessions → In v sessions → HasInside view.proto view.src view.dst u → HasInside view.proto view.src view.dst v → u ≡ v
  one-inside u v in_u in_v a b = one-of-flow sessions sound.rises u v in_u in_v (keys-from v u (a.0 ∙ sym b.0, a.1 ∙ sym b.1, a.2 ∙ sym b.2))

  abbrev found_map : Option Session
  found_map = find (maps_inside view.proto view.src) sessions

  abbrev new_out : Endpoint → Session
  new_out outside = new_session config s.rules sessions now view Inside view.src outside view.dst

  abbrev verdict_out : Connection → Forwarding
  verdict_out state = forward_verdict config (facts_of config s.rules sessions now view Lan (Some Wan) view.src view.dst state) s.rules

  abbrev how : Source
  how = postrouting_verdict config (facts_of config s.rules sessions now view Lan (Some Wan) view.src view.dst New) s.rules

  abbrev begun : Result Endpoint Cause → Result Passage Cause
  begun r = then_with r (λ outside. counted config s.rules sessions now view (outward (new_out outside)))

  module _ (some : 0 < view.src.port) (fits : view.src.port < 2 ^ 16) (listed : (addr : ℕ) → IsAt sessions view.src.addr addr → Contains config.external addr) where
    abbrev Out' : Result Passage Cause → List Reason → Type 0
    Out' = Ordered (HoldsOut config s view)

    abbrev taken : ℕ → ℕ → Bool
    taken = is_taken sessions view.proto

    -- masquerading finds no port exactly if the pool is full
    abbrev IsPoolFull : Type 0
    IsPoolFull = order.IsPoolFull config s view

    pool-by : (found : Option ℕ) → find (uses_in sessions view.src.addr) config.external ≡ found → (choice_by taken view.src.port config.external found ≡ None → IsPoolFull) × (IsPoolFull → choice_by taken view.src.port config.external found ≡ None)
    pool-by (Some addr) e = (
      (λ none. inl (addr, first-of sessions view.src.addr config.external addr e, full-at sessions view.proto view.src.port some fits addr none)),
      (λ full. elim full [
        | inl at ↦
            let same : at.0 ≡ addr = same_Some at.0 addr (sym (of-first sessions view.src.addr config.external at.0 at.1) ∙ e) in
            none-at sessions view.proto view.src.port some fits addr (subst (order.IsFull config s view) same at.2)
        | inr nowhere ↦ absurd (none-some addr (sym (none-of sessions view.src.addr config.external nowhere.0) ∙ e))
      ]),
    )
    pool-by None e = (
      (λ none. inr (nowhere-of sessions view.src.addr config.external listed e, none-all sessions view.proto view.src.port some fits config.external none)),
      (λ full. elim full [
        | inl at ↦ absurd (none-some at.0 (sym e ∙ of-first sessions view.src.addr config.external at.0 at.1))
        | inr nowhere ↦ all-none sessions view.proto view.src.port some fits config.external nowhere.1
      ]),
    )

    pool-full : (pool_choice (uses_in sessions view.src.addr) taken config.external view.src.port ≡ None → IsPoolFull) × (IsPoolFull → pool_choice (uses_in sessions view.src.addr) taken config.external view.src.port ≡ None)
    unfolding pool_choice
    pool-full = pool-by (find (uses_in sessions view.src.addr) config.external) refl

    -- the last reason
    room-out : (outside : Endpoint) → NoneInside sessions view.proto view.src view.dst → Out' (counted config s.rules sessions now view (outward (new_out outside))) (NoRoom ∷ [])
    room-out outside none =
        let t = new_out outside in
        let more = one-more t sessions none in
        tested (HoldsOut config s view) NoRoom [] (nat_lt 65536 (length (put t sessions))) (Ok (outward t)) (λ h. (none, more.0 h)) (λ holds. more.1 holds.1) (λ few. (outward t, refl))

    module _ (new : NoneInside sessions view.proto view.src view.dst) where
      -- a mapping gives the outside endpoint
      mapped-out : (m : Session) → found_map ≡ Some m → Out' (begun (Ok m.outside)) (PostroutingDrops ∷ NoPortLeft ∷ NoRoom ∷ [])
      mapped-out m e =
          let mapping = is-mapped config s view m e m.outside refl in
          skips (HoldsOut config s view) (begun (Ok m.outside)) (PostroutingDrops ∷ NoPortLeft ∷ []) (NoRoom ∷ []) ((λ h. h.1 m.outside mapping), ((λ h. h.1 m.outside mapping), tt)) (room-out m.outside new)

      module _ (unmapped : (outside : Endpoint) → ¬ IsMapping sessions view.proto view.src outside) where
        abbrev Fails : Source → Type 0
        Fails d = ((addr : ℕ) × (d ≡ source.From addr) × order.IsFull config s view addr) ⊎ ((d ≡ source.Masquerade) × IsPoolFull)

        -- a port is given, or none
        given : (d : Source) → how ≡ d → (o : Option Endpoint) → (o ≡ None → Fails d) → (Fails d → o ≡ None) → Out' (begun (or_no_port o)) (NoPortLeft ∷ NoRoom ∷ [])
        given d e None is has = holding (HoldsOut config s view) (Err cause.NoPort) NoPortLeft (NoRoom ∷ []) (new, unmapped, subst Fails (sym e) (is refl)) refl
        given d e (Some outside) is has = skipped (HoldsOut config s view) (begun (Ok outside)) NoPortLeft (NoRoom ∷ []) (λ h. none-some outside (sym (has (subst Fails e h.2)))) (room-out outside new)

        not-dropped : (d : Source) → how ≡ d → (d ≡ source.Drop → ⊥) → (way : Result Passage Cause) → Out' way (NoPortLeft ∷ NoRoom ∷ []) → Out' way (PostroutingDrops ∷ NoPortLeft ∷ NoRoom ∷ [])
        not-dropped d e away way rest = skipped (HoldsOut config s view) way PostroutingDrops (NoPortLeft ∷ NoRoom ∷ []) (λ h. away (sym e ∙ h.2)) rest

        by-source : (d : Source) → how ≡ d → Out' (begun (outside_by_rules config s.rules sessions now view d)) (PostroutingDrops ∷ NoPortLeft ∷ NoRoom ∷ [])
        by-source source.None e = not-dropped source.None e (λ h. cc) (begun (Ok view.src))
            (skipped (HoldsOut config s view) (begun (Ok view.src)) NoPortLeft (NoRoom ∷ []) (λ h. elim (subst Fails e h.2) [
              | inl from ↦ let no : source.None ≡ source.From from.0 = from.1 in absurd cc
              | inr all ↦ let no : source.None ≡ source.Masquerade = all.0 in absurd cc
            ]) (room-out view.src new))
        by-source (source.From addr) e = not-dropped (source.From addr) e (λ h. cc) (begun (or_no_port (port_at taken view.src.port addr)))
            (given (source.From addr) e (port_at taken view.src.port addr)
            (λ none. inl (addr, refl, full-at sessions view.proto view.src.port some fits addr none))
            (λ fails. elim fails [
              | inl from ↦
                  let same : from.0 ≡ addr = let is : source.From addr ≡ source.From from.0 = from.1 in cc in
                  none-at sessions view.proto view.src.port some fits addr (subst (order.IsFull config s view) same from.2)
              | inr all ↦ let no : source.From addr ≡ source.Masquerade = all.0 in absurd cc
            ]))
        by-source source.Masquerade e =
            let choice = pool_choice (uses_in sessions view.src.addr) taken config.external view.src.port in
            not-dropped source.Masquerade e (λ h. cc) (begun (or_no_port choice))
            (given source.Masquerade e choice
            (λ none. inr (refl, pool-full.0 none))
            (λ fails. elim fails [ inl from ↦ let no : source.Masquerade ≡ source.From from.0 = from.1 in absurd cc | inr all ↦ pool-full.1 all.1 ]))
        by-source source.Drop e = holding (HoldsOut config s view) (Err cause.Rule) PostroutingDrops (NoPortLeft ∷ NoRoom ∷ []) (new, unmapped, e) refl

      by-map : (found : Option Session) → found_map ≡ found → Out' (begun (outside_for config s.rules sessions now view found)) (PostroutingDrops ∷ NoPortLeft ∷ NoRoom ∷ [])
      by-map (Some m) e = mapped-out m e
      by-map None e = by-source (not-mapped config s view e) how refl

    out-by : (found : Option Session) → find (has_inside view.proto view.src view.dst) sessions ≡ found → Out' (out_by config s.rules sessions now view found) (NeedsSession ∷ ForwardDrops ∷ PostroutingDrops ∷ NoPortLeft ∷ NoRoom ∷ [])
    out-by (Some u) e =
        let H = HoldsOut config s view in
        let is = find-In (has_inside view.proto view.src view.dst) sessions u e in
        let has = has_inside-true view.proto view.src view.dst u is.1 in
        let state = connection_of u Inside view.flags in
        let p = outward (passed_by u Inside view.flags now) in
        let way = unless_dropped (verdict_out state) (Ok p) in
        skipped H way NeedsSession (ForwardDrops ∷ PostroutingDrops ∷ NoPortLeft ∷ NoRoom ∷ []) (λ h. h.0 u is.0 has)
        (filtered H (PostroutingDrops ∷ NoPortLeft ∷ NoRoom ∷ []) (verdict_out state) (Ok p)
        (λ drops. (state, inr (u, is.0, has, refl), drops))
        (λ h. elim h.1 [
          | inl none ↦ absurd (none.0 u is.0 has)
          | inr known ↦ subst (λ c. verdict_out c ≡ forwarding.Drop) (known.3 ∙ ap (λ (v : Session). connection_of v Inside view.flags) (one-inside known.0 u known.1 is.0 known.2 has)) h.2
        ])
        (skips H (Ok p) (PostroutingDrops ∷ NoPortLeft ∷ NoRoom ∷ []) [] ((λ h. h.0 u is.0 has), ((λ h. h.0 u is.0 has), ((λ h. h.0 u is.0 has), tt))) (p, refl)))
    out-by None e =
        let H = HoldsOut config s view in
        let new = not-found view.proto view.src view.dst sessions e in
        let way = begun_out config s.rules sessions now view in
        tested H NeedsSession (ForwardDrops ∷ PostroutingDrops ∷ NoPortLeft ∷ NoRoom ∷ []) (needs_session view) (unless_dropped (verdict_out New) way) (λ needs. (new, needs)) (λ h. h.1) (λ _.
        filtered H (PostroutingDrops ∷ NoPortLeft ∷ NoRoom ∷ []) (verdict_out New) way
        (λ drops. (New, inl (new, refl), drops))
        (λ h. elim h.1 [ inl none ↦ subst (λ c. verdict_out c ≡ forwarding.Drop) none.1 h.2 | inr known ↦ absurd (new known.0 known.1 known.2) ])
        (by-map new found_map refl))

    pub out-ordered : Out' (out_leg config s.rules sessions now view) (NeedsSession ∷ ForwardDrops ∷ PostroutingDrops ∷ NoPortLeft ∷ NoRoom ∷ [])
    out-ordered = out-by (find (has_inside view.proto view.src view.dst) sessions) refl

-- ---- where a packet is sent to, among these sessions

module _ (config : Config) (s : State) (view : View) (iif : Iface) (remote : Endpoint) (held : List Session) (apart : (t u : Session) → In t held → In u held → t ≢ u → ¬ Clashing t u) where
  abbrev Arrives : Reason → Type 0
  Arrives = HoldsIn config s view iif remote held

  abbrev Leads : Endpoint → Type 0
  Leads = order.LeadsTo config s view iif remote held

  abbrev decided : Destination
  decided = prerouting_verdict config (facts_of config s.rules s.sessions s.clock view iif None view.src view.dst New) s.rules

  -- two mappings of the destination are one
  one-mapping : (i j : Endpoint) → IsMapping held view.proto i view.dst → IsMapping held view.proto j view.dst → i ≡ j
  one-mapping i j a b =
      let same = agree held apart a.session b.session a.is_held b.is_held a.translated b.translated (a.proto ∙ sym b.proto) in
      sym a.inside ∙ same.1 (a.outside ∙ sym b.outside) ∙ b.inside

  pub one-way : (i j : Endpoint) → Leads i → Leads j → i ≡ j
  one-way i j (inl a) (inl b) = a.1 ∙ sym b.1
  one-way i j (inl a) (inr (inl b)) = absurd (false≢true (sym b.0 ∙ a.0))
  one-way i j (inl a) (inr (inr b)) = absurd (false≢true (sym b.0.0 ∙ a.0))
  one-way i j (inr (inl a)) (inl b) = absurd (false≢true (sym a.0 ∙ b.0))
  one-way i j (inr (inl a)) (inr (inl b)) = let is : destination.To i ≡ destination.To j = sym a.1 ∙ b.1 in cc
  one-way i j (inr (inl a)) (inr (inr b)) = let is : destination.To i ≡ destination.None = sym a.1 ∙ b.0.1 in absurd cc
  one-way i j (inr (inr a)) (inl b) = absurd (false≢true (sym a.0.0 ∙ b.0))
  one-way i j (inr (inr a)) (inr (inl b)) = let is : destination.To j ≡ destination.None = sym b.1 ∙ a.0.1 in absurd cc
  one-way i j (inr (inr a)) (inr (inr b)) = one-mapping i j a.1 b.1

  -- the reasons that are looked for say of a leg what they say of a packet that arrives
  pub record Shares (H : Reason → Type 0) : Type 0 where
    pub prerouting : (H PreroutingDrops → Arrives PreroutingDrops) × (Arrives PreroutingDrops → H PreroutingDrops)
    pub unmapped : (H Unmapped → Arrives Unmapped) × (Arrives Unmapped → H Unmapped)
    pub kept : (H KeptOut → Arrives KeptOut) × (Arrives KeptOut → H KeptOut)
    pub clashes : (H Clashes → Arrives Clashes) × (Arrives Clashes → H Clashes)

  module _ (H : Reason → Type 0) (shares : Shares H) (new : NoneOutside held view.proto view.dst remote) (more : List Reason) where
    module _ (next : Endpoint → Result Passage Cause) (then_ordered : (inside : Endpoint) → Leads inside → Ordered H (next inside) more) where
      abbrev by-rules : Option Session → Destination → Result Passage Cause
      by-rules found d = then_with (inside_by_rules config s.rules s.sessions s.clock view held remote.addr found d) next

      module _ (outside : is_inside config view.dst.addr ≡ false) where
        asks : (d d' : Destination) → decided ≡ d → decided ≡ d' → d ≡ d'
        asks d d' a b = sym a ∙ b

        by-session : (e : decided ≡ destination.None) (found : Option Session) → find (maps_outside view.proto view.dst) held ≡ found → Ordered H (by-rules found destination.None) (Unmapped ∷ KeptOut ∷ more)
        by-session e None none =
            let never : (inside : Endpoint) → ¬ IsMapping held view.proto inside view.dst = λ inside m.
            let found = find-some (maps_outside view.proto view.dst) held m.session m.is_held (maps_outside-from view.proto view.dst m.session m.translated m.proto m.outside) in none-some found.0 (sym none ∙ found.1) in
            holding H (by-rules None destination.None) Unmapped (KeptOut ∷ more) (shares.unmapped.1 (new, (outside, e), never)) refl
        by-session e (Some m) is =
            let found = find-In (maps_outside view.proto view.dst) held m is in
            let parts = maps_outside-parts view.proto view.dst m found.1 in
            let mapping : IsMapping held view.proto m.inside view.dst = record { session = m; is_held = found.0; translated = parts.0; proto = parts.1; inside = refl; outside = parts.2 } in
            let way = by-rules (Some m) destination.None in
            let lets = lets_in config.filtering held m remote.addr in
            skipped H way Unmapped (KeptOut ∷ more) (λ h. (shares.unmapped.0 h).2 m.inside mapping)
            (elim (cases_Bool lets) [
              | inl yes' ↦
                  let same : way ≡ next m.inside = ap (λ b. then_with (if b then Ok m.inside else Err cause.Filtered) next) yes' in
                  skipped H way KeptOut more (λ h.
                  let out = (shares.kept.0 h).2 in
                  let one : m.inside ≡ out.0 = one-mapping m.inside out.0 mapping out.1 in
                  out.2 (lets-known config.filtering held m view.proto out.0 view.dst remote.addr parts.1 one parts.2 yes'))
                  (moved H way (next m.inside) more same (then_ordered m.inside (inr (inr ((outside, e), mapping)))))
              | inr no' ↦ holding H way KeptOut more
                  (shares.kept.1 (new, (outside, e), (m.inside, mapping, λ let_in. false≢true (sym no' ∙ lets-true config.filtering held m view.proto m.inside view.dst remote.addr parts.1 refl parts.2 let_in))))
                  (ap (λ b. then_with (if b then Ok m.inside else Err cause.Filtered) next) no')
            ])

        pub by-destination : (d : Destination) → decided ≡ d → Ordered H (by-rules (find (maps_outside view.proto view.dst) held) d) (PreroutingDrops ∷ Unmapped ∷ KeptOut ∷ more)
        by-destination destination.Drop e = holding H (Err cause.Rule) PreroutingDrops (Unmapped ∷ KeptOut ∷ more) (shares.prerouting.1 (new, (outside, e))) refl
        by-destination (destination.To x) e =
            skipped H (next x) PreroutingDrops (Unmapped ∷ KeptOut ∷ more) (λ h. let no' = asks (destination.To x) destination.Drop e (shares.prerouting.0 h).1.1 in absurd cc)
            (skipped H (next x) Unmapped (KeptOut ∷ more) (λ h. let no' = asks (destination.To x) destination.None e (shares.unmapped.0 h).1.1 in absurd cc)
            (skipped H (next x) KeptOut more (λ h. let no' = asks (destination.To x) destination.None e (shares.kept.0 h).1.1 in absurd cc)
            (then_ordered x (inr (inl (outside, e))))))
        by-destination destination.None e =
            skipped H (by-rules (find (maps_outside view.proto view.dst) held) destination.None) PreroutingDrops (Unmapped ∷ KeptOut ∷ more)
            (λ h. let no' = asks destination.None destination.Drop e (shares.prerouting.0 h).1.1 in absurd cc)
            (by-session e (find (maps_outside view.proto view.dst) held) refl)

      -- an inside destination asks no chain
      pub by-inside : is_inside config view.dst.addr ≡ true → Ordered H (next view.dst) (PreroutingDrops ∷ Unmapped ∷ KeptOut ∷ more)
      by-inside inside =
          let never : is_inside config view.dst.addr ≡ false → ⊥ = λ outside. false≢true (sym outside ∙ inside) in
          skips H (next view.dst) (PreroutingDrops ∷ Unmapped ∷ KeptOut ∷ []) more ((λ h. never (shares.prerouting.0 h).1.0), ((λ h. never (shares.unmapped.0 h).1.0), ((λ h. never (shares.kept.0 h).1.0), tt))) (then_ordered view.dst (inl (inside, refl)))

    -- a clash of the new session
    pub by-clash : (inside : Endpoint) → Leads inside → (way : Result Passage Cause) → (NoneInside held view.proto inside remote → Ordered H way more)
        → Ordered H (if is_some (find (clashes (order.new_to config s view iif remote held inside)) held) then Err cause.Clash else way) (Clashes ∷ more)
    by-clash inside leads way rest =
        let t = order.new_to config s view iif remote held inside in
        tested H Clashes more (is_some (find (clashes t) held)) way
        (λ some. let u = found-in (clashes t) held some in shares.clashes.1 (new, (inside, u.0, leads, u.1, clashes-Clash t u.0 u.2)))
        (λ h.
        let is = (shares.clashes.0 h).1 in
        let same : is.0 ≡ inside = one-way is.0 inside is.2 leads in
        let clash : Clashing t is.1 = subst (λ x. Clashing (order.new_to config s view iif remote held x) is.1) same is.4 in
        ap is_some (find-some (clashes t) held is.1 is.3 (Clash-clashes t is.1 clash)).1)
        (λ none. rest (λ u in_u own.
        let found = find-some (clashes t) held u in_u (Clash-clashes t u (inl own)) in
        false≢true (sym none ∙ ap is_some found.1)))

-- ---- in

module _ (config : Config) (s : State) (view : View) (sound : AreSound config s.sessions) where
  abbrev In' : Result Passage Cause → List Reason → Type 0
  In' = Ordered (HoldsIn config s view Wan view.src s.sessions)

  abbrev verdict_in : Endpoint → Connection → Forwarding
  verdict_in inside state = forward_verdict config (facts_of config s.rules s.sessions s.clock view Wan (Some Lan) view.src inside state) s.rules

  shares-in : Shares config s view Wan view.src s.sessions sound.apart (HoldsIn config s view Wan view.src s.sessions)
  shares-in = record { prerouting = (λ h. h, λ h. h); unmapped = (λ h. h, λ h. h); kept = (λ h. h, λ h. h); clashes = (λ h. h, λ h. h) }

  module _ (new : NoneOutside s.sessions view.proto view.dst view.src) where
    abbrev Leads' : Endpoint → Type 0
    Leads' = order.LeadsTo config s view Wan view.src s.sessions

    begun-ordered : (inside : Endpoint) → Leads' inside → In' (begun_in config s.rules s.sessions s.clock view inside) (Clashes ∷ ForwardDrops ∷ NoRoom ∷ [])
    begun-ordered inside leads =
        let H = HoldsIn config s view Wan view.src s.sessions in
        let t = order.new_to config s view Wan view.src s.sessions inside in
        let way = counted config s.rules s.sessions s.clock view (inward t) in
        by-clash config s view Wan view.src s.sessions sound.apart H shares-in new (ForwardDrops ∷ NoRoom ∷ []) inside leads (unless_dropped (verdict_in inside New) way) (λ none.
        let more = one-more t s.sessions none in
        filtered H (NoRoom ∷ []) (verdict_in inside New) way
        (λ drops. (inside, New, inl (new, leads, refl), drops))
        (λ h. elim h.2 [
          | inl fresh ↦
              let same = one-way config s view Wan view.src s.sessions sound.apart h.0 inside fresh.1 leads in
              subst (λ x. verdict_in x New ≡ forwarding.Drop) same (subst (λ c. verdict_in h.0 c ≡ forwarding.Drop) fresh.2 h.3)
          | inr known ↦ absurd (new known.0 known.1 known.2)
        ])
        (tested H NoRoom [] (nat_lt 65536 (length (put t s.sessions))) (Ok (inward t)) (λ many. (new, more.0 many)) (λ holds. more.1 holds.1) (λ few. (inward t, refl))))

    inside-ordered : (b : Bool) → is_inside config view.dst.addr ≡ b
        → In' (then_with (if b then Ok view.dst else inside_by_rules config s.rules s.sessions s.clock view s.sessions view.src.addr (find (maps_outside view.proto view.dst) s.sessions)
        (prerouting_verdict config (facts_of config s.rules s.sessions s.clock view Wan None view.src view.dst New) s.rules)) (begun_in config s.rules s.sessions s.clock view))
        (PreroutingDrops ∷ Unmapped ∷ KeptOut ∷ Clashes ∷ ForwardDrops ∷ NoRoom ∷ [])
    inside-ordered true e = by-inside config s view Wan view.src s.sessions sound.apart (HoldsIn config s view Wan view.src s.sessions) shares-in new (Clashes ∷ ForwardDrops ∷ NoRoom ∷ [])
        (begun_in config s.rules s.sessions s.clock view) begun-ordered e
    inside-ordered false e = by-destination config s view Wan view.src s.sessions sound.apart (HoldsIn config s view Wan view.src s.sessions) shares-in new (Clashes ∷ ForwardDrops ∷ NoRoom ∷ [])
        (begun_in config s.rules s.sessions s.clock view) begun-ordered e
        (prerouting_verdict config (facts_of config s.rules s.sessions s.clock view Wan None view.src view.dst New) s.rules) refl

  abbrev in_reasons : List Reason
  in_reasons = NeedsSession ∷ PreroutingDrops ∷ Unmapped ∷ KeptOut ∷ Clashes ∷ ForwardDrops ∷ NoRoom ∷ []

  in-by : (found : Option Session) → find (has_outside view.proto view.dst view.src) s.sessions ≡ found → In' (in_by config s.rules s.sessions s.clock view found) in_reasons
  in-by (Some u) e =
      let H = HoldsIn config s view Wan view.src s.sessions in
      let is = find-In (has_outside view.proto view.dst view.src) s.sessions u e in
      let has = has_outside-true view.proto view.dst view.src u is.1 in
      let state = connection_of u Remote view.flags in
      let p = inward (passed_by u Remote view.flags s.clock) in
      let way = unless_dropped (verdict_in u.inside state) (Ok p) in
      skips H way (NeedsSession ∷ PreroutingDrops ∷ Unmapped ∷ KeptOut ∷ Clashes ∷ []) (ForwardDrops ∷ NoRoom ∷ [])
      ((λ h. h.0 u is.0 has), ((λ h. h.0 u is.0 has), ((λ h. h.0 u is.0 has), ((λ h. h.0 u is.0 has), ((λ h. h.0 u is.0 has), tt)))))
      (filtered H (NoRoom ∷ []) (verdict_in u.inside state) (Ok p)
      (λ drops. (u.inside, state, inr (u, is.0, has, refl, refl), drops))
      (λ h. elim h.2 [
        | inl fresh ↦ absurd (fresh.0 u is.0 has)
        | inr known ↦
            let same = one-outside s.sessions sound.rises sound.apart view.proto view.dst view.src known.0 u known.1 is.0 known.2 has in
            subst (λ (v : Session). verdict_in v.inside (connection_of v Remote view.flags) ≡ forwarding.Drop) same
            (subst (λ c. verdict_in known.0.inside c ≡ forwarding.Drop) known.4 (subst (λ x. verdict_in x h.1 ≡ forwarding.Drop) known.3 h.3))
      ])
      (skipped H (Ok p) NoRoom [] (λ h. h.0 u is.0 has) (p, refl)))
  in-by None e =
      let new : NoneOutside s.sessions view.proto view.dst view.src = λ u in_u own.
      let found = find-some (has_outside view.proto view.dst view.src) s.sessions u in_u (has_outside-from view.proto view.dst view.src u own) in none-some found.0 (sym e ∙ found.1) in
      tested (HoldsIn config s view Wan view.src s.sessions) NeedsSession (PreroutingDrops ∷ Unmapped ∷ KeptOut ∷ Clashes ∷ ForwardDrops ∷ NoRoom ∷ []) (needs_session view)
      (then_with (inside_for config s.rules s.sessions s.clock view) (begun_in config s.rules s.sessions s.clock view)) (λ needs. (new, needs)) (λ h. h.1)
      (λ _. inside-ordered new (is_inside config view.dst.addr) refl)

  pub in-ordered : In' (in_leg config s.rules s.sessions s.clock view) in_reasons
  in-ordered = in-by (find (has_outside view.proto view.dst view.src) s.sessions) refl
