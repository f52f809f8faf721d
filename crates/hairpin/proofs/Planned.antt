-- The plan of a packet that hairpins, from what is looked up in the table and in the mappings.
use Rattle.std.proofs.Common.{◌≡◌, ◌≢◌, ℕ, ◌+◌, ◌<◌, ◌≤◌, List, length, Contains, count_by, is_some, get_or, Option, Some, None, Result, Ok, Err, IfSome, IfNone, Bool, true, false, not, if◌then◌else◌, refl, sym, ap, ◌∙◌, subst, inl, inr, arith}
use Rattle.std.specs.Prelude.{find}
use Rattle.std.specs.List.{filter}
use Rattle.std.specs.Option.{option_map, option_map_or}
use Rattle.std.proofs.lemmas.Bool.{cases_Bool, false≢true, false_from_ne_true, le-ltb, lt-ltb}
use Rattle.std.proofs.lemmas.Option.{same_Some}
use Rattle.packet.specs.Config.{Config, Pool, is_config, is_inside}
use Rattle.packet.specs.declared.bounds.Filtering.{Filtering}
use Rattle.packet.specs.declared.bounds.Filtering.TheVariants as filtering
use Rattle.packet.specs.declared.endpoint.Endpoint.{Endpoint}
use Rattle.packet.specs.declared.endpoint.Iface.TheVariants.{Lan}
use Rattle.packet.specs.declared.endpoint.Proto.{Proto}
use Rattle.packet.specs.declared.view.View.{View}
use Rattle.ruletree.specs.declared.tree.Spelled.{Spelled}
use Rattle.sessions.specs.Listing.{In, breaks_mapping, clashes, has_inside, has_outside, has_peer, listing, put, same_flow}
use Rattle.sessions.specs.Table.{AnyClash, Clash as Clashing}
use Rattle.sessions.specs.declared.session.Change.{Change}
use Rattle.sessions.specs.declared.session.Change.TheVariants.{Begin, Seen, Restart}
use Rattle.sessions.specs.declared.session.Opener.TheVariants.{Inside, Remote}
use Rattle.sessions.specs.declared.session.Session.{Session}
use Rattle.sessions.proofs.Clashing.{breaks-from, breaks-parts, differ}
use Rattle.sessions.proofs.Found.{has_outside-true}
use Rattle.sessions.proofs.Held.{Clash-same_keys, SameKeys-refl}
use Rattle.sessions.proofs.PeerFinds.{has_peer-true}
use Rattle.sessions.proofs.Puts.{has_inside-true, length-listing}
use Rattle.sessions.proofs.Sets.{In-filter, In-insert, In-listing, filter-In, insert-In, listing-In}
use Rattle.verdict.specs.Hooks.{forward_verdict, prerouting_verdict}
use Rattle.verdict.specs.declared.facts.State.{State}
use Rattle.verdict.specs.declared.facts.State.TheVariants.{New}
use Rattle.verdict.specs.declared.hook.Destination.{Destination}
use Rattle.verdict.specs.declared.hook.Destination.TheVariants as destination
use Rattle.verdict.specs.declared.hook.Forwarding.{Forwarding}
use Rattle.verdict.specs.declared.hook.Forwarding.TheVariants as forwarding
use Rattle.hairpin.specs.Legs.{Passage, begun_second, by_mapping, counted, facts_of, first_by, first_state, forwarded, inside_by_rules, inside_far, lets_in, maps_inside, maps_outside, needs_session, new_session, outside_near, passed_by, second, second_by, then_with, through, unless_dropped}
use Rattle.hairpin.specs.FromInside.{GoesOutFirst}
use Rattle.hairpin.specs.Plans.{Gives, GivesThen, IsApart, IsOf, Plans}
use Rattle.sessions.specs.Sound.{AreSound}
use Rattle.hairpin.specs.declared.cause.Cause.{Cause}
use Rattle.hairpin.specs.declared.cause.Cause.TheVariants.{Clash, Filtered, NoSession, Rule, SelfMapped, TableFull}
use Rattle.hairpin.specs.declared.held.Held.{Held}
use Rattle.hairpin.specs.declared.plan.Plan.{Plan}
use Rattle.hairpin.proofs.Apart.{find-In, maps_outside-parts}
use Rattle.hairpin.proofs.Clashing.{none_clashes, no_clash}
use Rattle.hairpin.proofs.Opening.{may_begin}
use Rattle.hairpin.proofs.Doubling.{IsFirst, IsSecond, Rises-put, find-put, first-is, fresh, gone, put-In, second-is}

-- ---- what is looked up is what is found once the first session is put in

module _ (first : Session) (sessions : List Session) (keeps : (u : Session) → In u sessions → same_flow first u ≡ true → u.outside ≡ first.outside) where
  find-other : (p : Session → Bool) (dst : Endpoint) → ((s : Session) → p s ≡ true → s.outside ≡ dst) → first.outside ≢ dst → find p (put first sessions) ≡ find p sessions
  find-other p dst at away = find-put p first sessions (false_from_ne_true _ (λ h. away (at first h))) (λ s in_s same. false_from_ne_true _ (λ h. away (sym (keeps s in_s same) ∙ at s h)))

  pub has-other : (proto : Proto) (dst remote : Endpoint) → first.outside ≢ dst → find (has_outside proto dst remote) (put first sessions) ≡ find (has_outside proto dst remote) sessions
  has-other proto dst remote = find-other (has_outside proto dst remote) dst (λ s h. (has_outside-true proto dst remote s h).1)

  -- a mapping of another outside endpoint lets in whom it let in
  lets-other : (filter : Filtering) (remote : ℕ) (m : Session) → first.outside ≢ m.outside → lets_in filter (put first sessions) m remote ≡ lets_in filter sessions m remote
  lets-other filtering.Endpoint remote m away = refl
  lets-other filtering.Address remote m away = ap is_some (find-other (has_peer m.proto m.inside m.outside remote) m.outside (λ s h. (has_peer-true m.proto m.inside m.outside remote s h).2) away)

  found-other : (filter : Filtering) (proto : Proto) (dst : Endpoint) (remote : ℕ) → first.outside ≢ dst → (o : Option Session) → find (maps_outside proto dst) sessions ≡ o
      → by_mapping filter (put first sessions) remote o ≡ by_mapping filter sessions remote o
  found-other filter proto dst remote away None e = refl
  found-other filter proto dst remote away (Some m) e =
      let is = (maps_outside-parts proto dst m (find-In (maps_outside proto dst) sessions m e).1).2 in
      ap (λ b. if b then Ok m.inside else Err Filtered) (lets-other filter remote m (λ same. away (same ∙ is)))

  pub given-other : (config : Config) (rules : Spelled) (now : ℕ) (view : View) (remote : ℕ) → first.outside ≢ view.dst → (d : Destination)
      → inside_by_rules config rules sessions now view (put first sessions) remote (find (maps_outside view.proto view.dst) (put first sessions)) d
      ≡ inside_by_rules config rules sessions now view sessions remote (find (maps_outside view.proto view.dst) sessions) d
  given-other config rules now view remote away destination.None =
      ap (by_mapping config.filtering (put first sessions) remote) (find-other (maps_outside view.proto view.dst) view.dst (λ s h. (maps_outside-parts view.proto view.dst s h).2) away)
      ∙ found-other config.filtering view.proto view.dst remote away (find (maps_outside view.proto view.dst) sessions) refl
  given-other config rules now view remote away (destination.To inside) = refl
  given-other config rules now view remote away destination.Drop = refl

  -- one that is held, or the first in its place, is found to clash
  pub clash-held : (t u : Session) → In u sessions → Clashing t u → (s : Session) × In s (put first sessions) × Clashing t s
  clash-held t u in_u clash = elim (cases_Bool (same_flow first u)) [
    | inl same ↦
        let has = has_inside-true first.proto first.inside first.remote u same in
        (first, put-In first sessions, Clash-same_keys t first t u (SameKeys-refl t) (record { proto = sym has.0; inside = sym has.1; outside = sym (keeps u in_u same); remote = sym has.2 }) clash)
    | inr other ↦ (u, insert-In first (filter (λ v. not (same_flow first v)) sessions) u (inr (filter-In (λ v. not (same_flow first v)) sessions u in_u (ap not other))), clash)
  ]

pub clash-found : (t : Session) (sessions : List Session) → (s : Session) × In s sessions × Clashing t s → is_some (find (clashes t) sessions) ≡ true
clash-found t sessions is = elim (cases_Bool (is_some (find (clashes t) sessions))) [ inl h ↦ h | inr none ↦ absurd (no_clash t sessions (gone (find (clashes t) sessions) none) is.0 is.1 is.2) ]

-- none clashes, where none that is held does and the mappings of the first stay
pub clash-none : (held : List (Option Session)) (first t : Session) → first.remote ≢ t.remote → breaks_mapping t first ≡ false → ¬ AnyClash held t
    → is_some (find (clashes t) (put first (listing held))) ≡ false
clash-none held first t away keeps_mapping none =
    ap is_some (none_clashes t (put first (listing held)) (λ s in_s clash.
    elim (In-insert first (filter (λ v. not (same_flow first v)) (listing held)) s in_s) [
      | inl e ↦ elim (subst (Clashing t) e clash) [ inl h ↦ away h.2 | inr more ↦ elim more [ inl h ↦ away h.2 | inr h ↦ false≢true (sym keeps_mapping ∙ breaks-from t first h) ] ]
      | inr old ↦
          let at = In-listing held s (In-filter (λ v. not (same_flow first v)) (listing held) s old).0 in
          none (record { place = at.0; held = s; is_held = at.1; clash = clash })
    ]))

pub clash-any : (held : List (Option Session)) (first t : Session) → ((u : Session) → In u (listing held) → same_flow first u ≡ true → u.outside ≡ first.outside) → AnyClash held t
    → is_some (find (clashes t) (put first (listing held))) ≡ true
clash-any held first t keeps any = clash-found t (put first (listing held))
    (clash-held first (listing held) keeps t any.held (listing-In held any.held any.place any.is_held) any.clash)

pub clash-first : (held : List (Option Session)) (first t : Session) → breaks_mapping t first ≡ true → is_some (find (clashes t) (put first (listing held))) ≡ true
clash-first held first t breaks = clash-found t (put first (listing held)) (first, put-In first (listing held), inr (inr (breaks-parts t first breaks)))

-- the second session begins, or it clashes
pub begun-as : (config : Config) (rules : Spelled) (sessions : List Session) (now : ℕ) (view : View) (first : Session) (held : List Session) (inside : Endpoint) (t : Session)
    → t ≡ new_session config rules sessions now view Remote inside view.dst first.outside → (b : Bool) → is_some (find (clashes t) held) ≡ b
    → (if b then Err Clash else Ok t) ≡ begun_second config rules sessions now view first held inside
begun-as config rules sessions now view first held inside t is b h =
    subst (λ (u : Session). (if b then Err Clash else Ok t) ≡ (if is_some (find (clashes u) held) then Err Clash else Ok u)) is (sym (ap (λ c. if c then Err Clash else Ok t) h))

-- it is looked up as if the first were not put in
pub second-found : {b o : Option Held} (config : Config) (rules : Spelled) (held : List (Option Session)) (now : ℕ) (view : View) (first : Session) → GoesOutFirst held view first
    → option_map (λ (h : Held). h.session) b ≡ find (has_outside view.proto view.dst first.outside) (listing held) → b ≡ o
    → second_by config rules (listing held) now view first (put first (listing held)) (find (has_outside view.proto view.dst first.outside) (put first (listing held)))
    ≡ second_by config rules (listing held) now view first (put first (listing held)) (option_map (λ (h : Held). h.session) o)
second-found config rules held now view first goes found is = ap (second_by config rules (listing held) now view first (put first (listing held)))
    (has-other first (listing held) goes.keeps view.proto view.dst first.outside goes.away ∙ sym found ∙ ap (λ b. option_map (λ (h : Held). h.session) b) is)

-- ---- a session that begins

pub first-none : (config : Config) (rules : Spelled) (sessions : List Session) (now : ℕ) (view : View) → needs_session view ≡ false
    → (r : Result Endpoint Cause) → r ≡ outside_near config rules sessions now view (find (maps_inside view.proto view.src) sessions)
    → then_with r (λ outside. Ok (new_session config rules sessions now view Inside view.src outside view.dst)) ≡ first_by config rules sessions now view None
first-none config rules sessions now view needs r e =
    let next : Endpoint → Result Session Cause = λ outside. Ok (new_session config rules sessions now view Inside view.src outside view.dst) in
    ap (λ x. then_with x next) e
    ∙ sym (ap (λ c. if c then Err NoSession else then_with (outside_near config rules sessions now view (find (maps_inside view.proto view.src) sessions)) next) needs)

pub second-none : (config : Config) (rules : Spelled) (sessions : List Session) (now : ℕ) (view : View) (first : Session) → ((u : Session) → In u sessions → same_flow first u ≡ true → u.outside ≡ first.outside)
    → first.outside ≢ view.dst → needs_session view ≡ false
    → (r : Result Endpoint Cause) → r ≡ inside_far config rules sessions now view first sessions
    → then_with r (begun_second config rules sessions now view first (put first sessions)) ≡ second_by config rules sessions now view first (put first sessions) None
second-none config rules sessions now view first keeps away needs r e =
    let next = begun_second config rules sessions now view first (put first sessions) in
    let decision = prerouting_verdict config (facts_of config rules sessions now view Lan None view.src view.dst New) rules in
    let there : inside_far config rules sessions now view first sessions ≡ inside_far config rules sessions now view first (put first sessions) =
    sym (given-other first sessions keeps config rules now view first.outside.addr away decision) in
    ap (λ x. then_with x next) (e ∙ there) ∙ sym (ap (λ c. if c then Err NoSession else then_with (inside_far config rules sessions now view first (put first sessions)) next) needs)

-- ---- the changes give the sessions

-- the change is of no slot that holds a session of another outside endpoint
not_of : (external : Pool) (held : List (Option Session)) (now : ℕ) (change : Change) (first : Session) → Gives external held now change first
    → (slot : ℕ) (s : Session) → get_or held slot None ≡ Some s → s.outside ≢ first.outside → ¬ IsOf change slot
not_of external held now (Begin t) first gives slot s at away is = is
not_of external held now (Seen of bits) first gives slot s at away is =
    let same : gives.0 ≡ s = same_Some gives.0 s (sym gives.1 ∙ subst (λ k. get_or held k None ≡ Some s) (sym is) at) in
    away (sym (ap (λ (u : Session). u.outside) same) ∙ sym (ap (λ (u : Session). u.outside) gives.3))
not_of external held now (Restart of opener) first gives slot s at away is =
    let same : gives.0 ≡ s = same_Some gives.0 s (sym gives.1 ∙ subst (λ k. get_or held k None ≡ Some s) (sym is) at) in
    away (sym (ap (λ (u : Session). u.outside) same) ∙ sym (ap (λ (u : Session). u.outside) gives.2))

-- a change of a session that is held, and of one that begins
abbrev pub GivesHeld : Change → (Session → ℕ → Session) → Held → Type 0
GivesHeld change passed h = (external : Pool) (places : List (Option Session)) (now : ℕ) → get_or places h.slot None ≡ Some h.session → Gives external places now change (passed h.session now)

first-gives : (config : Config) (held : List (Option Session)) (now : ℕ) (view : View) (first : Session) (change : Change) (b : Option Held)
    → IsFirst config (listing held) view now (option_map (λ (h : Held). h.session) b) first → IfSome b (λ h. get_or held h.slot None ≡ Some h.session)
    → IfSome b (GivesHeld change (λ s now. passed_by s Inside view.flags now))
    → IfNone b (change ≡ Begin first)
    → length (put first (listing held)) ≤ 65536 → Gives config.external held now change first
first-gives config held now view first change None f slot goes begins few =
    let new = f.begins refl in
    subst (λ c. Gives config.external held now c first) (sym begins)
    (refl, may_begin config held now first new.0 new.1 new.2 (λ full. absurd (omega (arith, full, few, f.many, length-listing held))))
first-gives config held now view first change (Some h) f slot goes begins few = subst (Gives config.external held now change) (f.goes h.session refl) (goes config.external held now slot)

second-gives : (config : Config) (rules : Spelled) (held : List (Option Session)) (now : ℕ) (view : View) (first t : Session) (change before : Change) (b : Option Held)
    → Contains config.external view.dst.addr → 0 < view.dst.port → first.outside ≢ view.dst
    → option_map (λ (h : Held). h.session) b ≡ find (has_outside view.proto view.dst first.outside) (listing held)
    → IsSecond config rules (put first (listing held)) view now first (option_map (λ (h : Held). h.session) b) t → IfSome b (λ h. get_or held h.slot None ≡ Some h.session)
    → IfSome b (GivesHeld change (λ s now. passed_by s Remote view.flags now))
    → IfNone b (change ≡ Begin t)
    → length (put t (put first (listing held))) ≤ 65536 → Gives config.external held now before first → GivesThen config.external held now before first change t
second-gives config rules held now view first t change before None at port away found f slot goes begins few gives later became =
    let new = f.begins refl in
    let count : count_by is_some later ≡ length (put first (listing held)) = sym (length-listing later) ∙ ap (λ (xs : List Session). length xs) became.listing in
    subst (λ c. Gives config.external later now c t) (sym begins) (
      refl,
      record {
        unseen = new.1;
        last = new.2;
        apart = λ any. new.0 any.held (subst (In any.held) became.listing (listing-In later any.held any.place any.is_held)) any.clash;
        few = λ full. absurd (omega (arith, full, few, f.many, count));
        placed = λ other. subst (λ (e : Endpoint). Contains config.external e.addr × (0 < e.port)) (sym new.3) (at, port);
      },
    )
second-gives config rules held now view first t change before (Some h) at port away found f slot goes begins few gives later became =
    let is = find-In (has_outside view.proto view.dst first.outside) (listing held) h.session (sym found) in
    let outside = (has_outside-true view.proto view.dst first.outside h.session is.1).1 in
    let other = not_of config.external held now before first gives h.slot h.session slot (λ e. away (sym e ∙ outside)) in
    subst (Gives config.external later now change) (f.goes h.session refl) (goes config.external later now (became.kept h.slot h.session slot other))

second-apart : (config : Config) (rules : Spelled) (held : List (Option Session)) (now : ℕ) (view : View) (first t : Session) (change before : Change) (b : Option Held) → first.outside ≢ view.dst
    → option_map (λ (h : Held). h.session) b ≡ find (has_outside view.proto view.dst first.outside) (listing held) → IfSome b (λ h. get_or held h.slot None ≡ Some h.session)
    → IfSome b (λ h. (slot : ℕ) → IsOf change slot → slot ≡ h.slot) → IfNone b (change ≡ Begin t) → Gives config.external held now before first → IsApart held before change
second-apart config rules held now view first t change before None away found slot own begins gives k of = absurd (subst (λ c. IsOf c k) begins of)
second-apart config rules held now view first t change before (Some h) away found slot own begins gives k of =
    let is = find-In (has_outside view.proto view.dst first.outside) (listing held) h.session (sym found) in
    let outside = (has_outside-true view.proto view.dst first.outside h.session is.1).1 in
    let at : get_or held k None ≡ Some h.session = subst (λ j. get_or held j None ≡ Some h.session) (sym (own k of)) slot in
    (not_of config.external held now before first gives k h.session at (λ e. away (sym e ∙ outside)), h.session, at)

-- ---- the way behind the first session

news-is : (b : Option Held) → option_map_or (λ (h : Held). 0) b 1 ≡ fresh (option_map (λ (h : Held). h.session) b)
news-is None = refl
news-is (Some h) = refl

dropped : (d : Forwarding) → d ≢ forwarding.Pass → d ≡ forwarding.Drop
dropped forwarding.Pass away = absurd (away refl)
dropped forwarding.Drop away = refl

module _ (config : Config) (rules : Spelled) (held : List (Option Session)) (now : ℕ) (view : View) (is_one : is_config config ≡ true) (sound : AreSound config (listing held))
    (inside : is_inside config view.src.addr ≡ true) (at : Contains config.external view.dst.addr) (ports : (0 < view.src.port) × (0 < view.dst.port)) (first : Session) (b1 : Option Held)
    (e1 : option_map (λ (h : Held). h.session) b1 ≡ find (has_inside view.proto view.src view.dst) (listing held))
    (ok1 : first_by config rules (listing held) now view (find (has_inside view.proto view.src view.dst) (listing held)) ≡ Ok first) where
  abbrev L : List Session
  L = listing held

  pub is-first : IsFirst config L view now (find (has_inside view.proto view.src view.dst) L) first
  is-first = first-is config rules L now view is_one sound inside at ports.0 ports.1 (find (has_inside view.proto view.src view.dst) L) refl first ok1

  abbrev next : Session → Result Passage Cause
  next t = forwarded config rules L now view Lan Lan view.src t.inside (first_state config rules L now view (find (has_inside view.proto view.src view.dst) L)) (counted config rules L now view (through first t))

  abbrev way : Result Passage Cause
  way = then_with (second config rules L now view first (put first L)) next

  abbrev found2 : Option Session
  found2 = find (has_outside view.proto view.dst first.outside) (put first L)

  module _ (away : first.outside ≢ view.dst) where
    module _ (state : State) (state_is : state ≡ first_state config rules L now view (option_map (λ (h : Held). h.session) b1)) (t : Session) (ok2 : second_by config rules L now view first (put first L) found2 ≡ Ok t) where
      abbrev decided : Forwarding
      decided = forward_verdict config (facts_of config rules L now view Lan (Some Lan) view.src t.inside state) rules

      abbrev end : Result Passage Cause
      end = counted config rules L now view (through first t)

      behind : (result : Result Plan Cause) (d : Forwarding) → decided ≡ d → Plans config.external held now result (unless_dropped d end) → Plans config.external held now result way
      behind result d e plans =
          subst (λ b. Plans config.external held now result (then_with (if b then Err SelfMapped else second_by config rules L now view first (put first L) found2) next)) (sym (differ first.outside view.dst away))
          (subst (λ r. Plans config.external held now result (then_with r next)) (sym ok2)
          (subst (λ s. Plans config.external held now result (forwarded config rules L now view Lan Lan view.src t.inside s end)) (state_is ∙ ap (first_state config rules L now view) e1)
          (subst (λ v. Plans config.external held now result (unless_dropped v end)) (sym e) plans)))

      pub drops_rule : decided ≢ forwarding.Pass → Plans config.external held now (Err Rule) way
      drops_rule other = behind (Err Rule) forwarding.Drop (dropped decided other) refl

      module _ (passes : decided ≡ forwarding.Pass) (b2 : Option Held) (e2 : option_map (λ (h : Held). h.session) b2 ≡ find (has_outside view.proto view.dst first.outside) L) where
        is-second : IsSecond config rules (put first L) view now first (option_map (λ (h : Held). h.session) b2) t
        is-second = subst (λ o. IsSecond config rules (put first L) view now first o t) (has-other first L is-first.keeps view.proto view.dst first.outside away ∙ sym e2)
            (second-is config rules L now view at ports.1 first (put first L) (Rises-put first L sound.rises) (put-In first L) found2 refl t ok2)

        total : count_by is_some held + option_map_or (λ (h : Held). 0) b1 1 + option_map_or (λ (h : Held). 0) b2 1 ≡ length (put t (put first L))
        total =
            let one : length (put first L) ≡ length L + fresh (option_map (λ (h : Held). h.session) b1) = is-first.many ∙ ap (λ o. length L + fresh o) (sym e1) in
            omega (arith, one, is-second.many, length-listing held, news-is b1, news-is b2)

        pub drops_full : 65536 < count_by is_some held + option_map_or (λ (h : Held). 0) b1 1 + option_map_or (λ (h : Held). 0) b2 1 → Plans config.external held now (Err TableFull) way
        drops_full many = behind (Err TableFull) forwarding.Pass passes
            (subst (λ b. Plans config.external held now (Err TableFull) (if b then Err TableFull else Ok (through first t))) (sym (lt-ltb 65536 (length (put t (put first L))) (omega (arith, many, total)))) refl)

        module _ (change1 change2 : Change) (slot1 : IfSome b1 (λ h. get_or held h.slot None ≡ Some h.session)) (slot2 : IfSome b2 (λ h. get_or held h.slot None ≡ Some h.session))
            (goes1 : IfSome b1 (GivesHeld change1 (λ s now. passed_by s Inside view.flags now))) (begins1 : IfNone b1 (change1 ≡ Begin first))
            (goes2 : IfSome b2 (GivesHeld change2 (λ s now. passed_by s Remote view.flags now))) (own2 : IfSome b2 (λ h. (slot : ℕ) → IsOf change2 slot → slot ≡ h.slot))
            (begins2 : IfNone b2 (change2 ≡ Begin t)) where
          pub plans : count_by is_some held + option_map_or (λ (h : Held). 0) b1 1 + option_map_or (λ (h : Held). 0) b2 1 ≤ 65536
              → Plans config.external held now (Ok (record { first = change1; second = Some change2; src = first.outside; dst = t.inside; iface = Lan })) way
          plans few =
              let most : length (put t (put first L)) ≤ 65536 = omega (arith, few, total) in
              let less : length (put first L) ≤ 65536 = omega (arith, most, is-second.many) in
              let gives = first-gives config held now view first change1 b1 (subst (λ o. IsFirst config L view now o first) (sym e1) is-first) slot1 goes1 begins1 less in
              let gives2 = second-gives config rules held now view first t change2 change1 b2 at ports.1 away e2 is-second slot2 goes2 begins2 most gives in
              let apart = second-apart config rules held now view first t change2 change1 b2 away e2 slot2 own2 begins2 gives in
              behind (Ok (record { first = change1; second = Some change2; src = first.outside; dst = t.inside; iface = Lan })) forwarding.Pass passes
              (subst (λ b. Plans config.external held now (Ok (record { first = change1; second = Some change2; src = first.outside; dst = t.inside; iface = Lan })) (if b then Err TableFull else Ok (through first t)))
              (sym (le-ltb 65536 (length (put t (put first L))) most))
              (record { sessions = (first, t, gives, apart, gives2, refl); src = refl; dst = refl; iface = refl }))
