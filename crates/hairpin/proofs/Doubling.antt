-- Both sessions of a packet that hairpins: what joins the sessions, and what is found among them then.
use Rattle.std.proofs.Common.{◌≡◌, ℕ, ◌+◌, ◌<◌, ◌≤◌, List, [], ◌∷◌, length, Contains, Option, Some, None, is_some, Result, Ok, Err, Bool, true, false, cond, not, nat_lt, if◌then◌else◌, refl, sym, ap, ◌∙◌, subst, inl, inr, arith}
use Rattle.std.specs.Prelude.{find}
use Rattle.std.specs.List.{filter}
use Rattle.std.proofs.lemmas.Bool.{cases_Bool, false≢true, ltb-false, not-false, not-true, false_from_ne_true}
use Rattle.std.proofs.lemmas.Option.{none-some, same_Some}
use Rattle.packet.specs.Config.{Config, is_config, is_inside}
use Rattle.packet.specs.Same.{same_endpoint}
use Rattle.packet.specs.declared.endpoint.Endpoint.{Endpoint}
use Rattle.packet.specs.declared.endpoint.Flags.{Flags}
use Rattle.packet.specs.declared.endpoint.Iface.TheVariants.{Lan}
use Rattle.packet.specs.declared.view.View.{View}
use Rattle.portpick.specs.Pool.{near_choice}
use Rattle.ruletree.specs.declared.tree.Spelled.{Spelled}
use Rattle.sessions.specs.Life.{restarts, shown}
use Rattle.sessions.specs.Listing.{In, Rises, below, clashes, has_inside, has_outside, insert, put, same_flow}
use Rattle.sessions.specs.Table.{Clash as Clashing, restarted, seen}
use Rattle.sessions.specs.declared.session.Opener.{Opener}
use Rattle.sessions.specs.declared.session.Opener.TheVariants.{Inside, Remote}
use Rattle.sessions.specs.declared.session.Session.{Session}
use Rattle.sessions.proofs.Held.{SameKeys}
use Rattle.packet.proofs.SameLemmas.{same_endpoint-itself}
use Rattle.sessions.proofs.Found.{has_outside-true}
use Rattle.sessions.proofs.Puts.{has_inside-from, has_inside-true, keys-flow}
use Rattle.sessions.proofs.Sets.{In-filter, Rises-filter, Rises-insert, insert-In}
use Rattle.verdict.specs.Hooks.{forward_verdict, prerouting_verdict}
use Rattle.verdict.specs.declared.facts.Facts.{Facts}
use Rattle.verdict.specs.declared.facts.State.TheVariants.{New}
use Rattle.verdict.specs.declared.hook.Destination.{Destination}
use Rattle.verdict.specs.declared.hook.Destination.TheVariants as destination
use Rattle.hairpin.specs.Legs.{Passage, begun_second, counted, facts_of, first_by, first_state, forwarded, hairpin_leg, inside_by_rules, inside_far, is_taken, maps_inside, maps_outside, needs_session, new_session, outside_near, passed_by, second, second_by, then_with, through, uses_in}
use Rattle.hairpin.specs.KeepBounds.{KeepBounds}
use Rattle.sessions.specs.Sound.{AreSound, IsPlaced}
use Rattle.hairpin.specs.declared.cause.Cause.{Cause}
use Rattle.hairpin.specs.declared.cause.Cause.TheVariants.{Clash, NoSession, Rule, SelfMapped, TableFull}
use Rattle.hairpin.proofs.Apart.{err-ok, find-In, port-ok, same_Ok, some-mapping}
use Rattle.hairpin.proofs.Choosing.{near-given}
use Rattle.hairpin.proofs.Clashing.{no_clash}
use Rattle.hairpin.proofs.Opening.{Opened, opened_chosen, opened_mapped}
use Rattle.hairpin.proofs.Soundness.{IsFine, Joins, apart-joins, either, fine-filtered, fine-then, fine-unless, other-flow, passed-joins, put-known, put-more, two-join}

-- ---- a search of the set with one session put in

find-insert : (p : Session → Bool) (t : Session) (xs : List Session) → p t ≡ false → find p (insert t xs) ≡ find p xs
find-insert p t [] h = ap (λ b. cond b (Some t) None) h
find-insert p t (x ∷ xs) h = elim (cases_Bool (below t x)) [
  | inl is ↦ ap (λ b. find p (cond b (t ∷ x ∷ xs) (x ∷ insert t xs))) is ∙ ap (λ b. cond b (Some t) (find p (x ∷ xs))) h
  | inr isnt ↦ ap (λ b. find p (cond b (t ∷ x ∷ xs) (x ∷ insert t xs))) isnt ∙ ap (λ o. cond (p x) (Some x) o) (find-insert p t xs h)
]

find-filter : (p q : Session → Bool) (xs : List Session) → ((s : Session) → In s xs → q s ≡ false → p s ≡ false) → find p (filter q xs) ≡ find p xs
find-filter p q [] h = refl
find-filter p q (x ∷ xs) h = elim (cases_Bool (q x)) [
  | inl is ↦ ap (λ b. find p (cond b (x ∷ filter q xs) (filter q xs))) is ∙ ap (λ o. cond (p x) (Some x) o) (find-filter p q xs (λ s i. h s (inr i)))
  | inr isnt ↦ ap (λ b. find p (cond b (x ∷ filter q xs) (filter q xs))) isnt ∙ find-filter p q xs (λ s i. h s (inr i)) ∙ sym (ap (λ b. cond b (Some x) (find p xs)) (h x (inl refl) isnt))
]

-- a search finds what it found, where neither the session nor those that it replaces pass
pub find-put : (p : Session → Bool) (t : Session) (xs : List Session) → p t ≡ false → ((s : Session) → In s xs → same_flow t s ≡ true → p s ≡ false) → find p (put t xs) ≡ find p xs
find-put p t xs own others = find-insert p t (filter (λ u. not (same_flow t u)) xs) own ∙ find-filter p (λ u. not (same_flow t u)) xs (λ s in_s h. others s in_s (not-false (same_flow t s) h))

pub Rises-put : (t : Session) (xs : List Session) → Rises xs → Rises (put t xs)
Rises-put t xs rises = Rises-insert t (filter (λ u. not (same_flow t u)) xs)
    (λ u in_rest e. let kept = In-filter (λ v. not (same_flow t v)) xs u in_rest in false≢true (sym (not-true _ kept.1) ∙ keys-flow t u (sym e)))
    (Rises-filter (λ u. not (same_flow t u)) xs rises)

pub put-In : (t : Session) (xs : List Session) → In t (put t xs)
put-In t xs = insert-In t (filter (λ u. not (same_flow t u)) xs) t (inl refl)

-- ---- a session that goes on

pub passed-keys : (s : Session) (sender : Opener) (flags : Flags) (now : ℕ) → SameKeys s (passed_by s sender flags now)
passed-keys s sender flags now = either (SameKeys s) (restarts s flags) (restarted s sender now) (seen s (shown s.proto s.opener sender flags) now)
    (record { proto = refl; inside = refl; outside = refl; remote = refl }) (record { proto = refl; inside = refl; outside = refl; remote = refl })

-- it has the flow of the one that it was
pub passed-flow : (s : Session) (sender : Opener) (flags : Flags) (now : ℕ) → same_flow (passed_by s sender flags now) s ≡ true
passed-flow s sender flags now =
    let keys = passed-keys s sender flags now in
    let t = passed_by s sender flags now in
    has_inside-from t.proto t.inside t.remote s (keys.proto, keys.inside, keys.remote)

-- ---- what a result tells

made : {A B : Type 0} (b : Bool) (cause : Cause) (r : Result A Cause) (next : A → Result B Cause) (y : B) → (if b then Err cause else then_with r next) ≡ Ok y
    → (a : A) × (r ≡ Ok a) × (next a ≡ Ok y)
made true cause r next y e = absurd (err-ok cause y e)
made false cause (Err other) next y e = absurd (err-ok other y e)
made false cause (Ok a) next y e = (a, refl, e)

unless : {A : Type 0} (b : Bool) (cause : Cause) (r : Result A Cause) (y : A) → (if b then Err cause else r) ≡ Ok y → (b ≡ false) × (r ≡ Ok y)
unless true cause r y e = absurd (err-ok cause y e)
unless false cause r y e = (refl, e)

pub gone : (o : Option Session) → is_some o ≡ false → o ≡ None
gone (Some s) h = absurd (false≢true (sym h))
gone None h = refl

-- how many a leg adds
abbrev pub fresh : Option Session → ℕ
fresh None = 1
fresh (Some s) = 0

-- ---- the first leg

-- the first session, where this one of its flow was found
pub record IsFirst (config : Config) (sessions : List Session) (view : View) (now : ℕ) (found : Option Session) (first : Session) : Type 0 where
  pub remote : first.remote ≡ view.dst
  pub keeps : (u : Session) → In u sessions → same_flow first u ≡ true → u.outside ≡ first.outside
  pub many : length (put first sessions) ≡ length sessions + fresh found
  pub joins : length (put first sessions) ≤ 65536 → Joins config sessions now first
  pub begins : found ≡ None → Opened config sessions first × (first.seen ≡ 0) × (first.last ≡ now)
  pub goes : (s : Session) → found ≡ Some s → passed_by s Inside view.flags now ≡ first

module _ (config : Config) (rules : Spelled) (sessions : List Session) (now : ℕ) (view : View) (is_one : is_config config ≡ true) (sound : AreSound config sessions)
    (inside : is_inside config view.src.addr ≡ true) (at : Contains config.external view.dst.addr) (src_port : 0 < view.src.port) (dst_port : 0 < view.dst.port) where
  abbrev near_of : Endpoint → Session
  near_of outside = new_session config rules sessions now view Inside view.src outside view.dst

  opened_by : (found : Option Session) → find (maps_inside view.proto view.src) sessions ≡ found → (outside : Endpoint) → outside_near config rules sessions now view found ≡ Ok outside
      → find (has_inside view.proto view.src view.dst) sessions ≡ None → Opened config sessions (near_of outside)
  opened_by (Some m) e outside h none = opened_mapped config is_one sessions sound (near_of outside) none m e (same_Ok m.outside outside h)
  opened_by None e outside h none =
      let uses = uses_in sessions view.src.addr in
      let taken = is_taken sessions view.proto in
      let given = near-given uses taken config.external view.src.port view.dst.addr outside at (port-ok (near_choice uses taken config.external view.dst.addr view.src.port) outside h) in
      opened_chosen config is_one sessions sound (near_of outside) none given.0 given.1 src_port e given.2

  new-first : (outside : Endpoint) → find (has_inside view.proto view.src view.dst) sessions ≡ None → Opened config sessions (near_of outside) → IsFirst config sessions view now None (near_of outside)
  new-first outside none opened =
      let t = near_of outside in
      let placed : IsPlaced config t = record { inside = inside; outside = opened.outside; inside_port = src_port; outside_port = opened.port; remote_port = dst_port } in
      record {
        remote = refl;
        keeps = λ u in_u h. absurd (false≢true (sym (other-flow t sessions opened.apart u in_u) ∙ h));
        many = put-more t sessions opened.apart;
        joins = λ few. apart-joins config sessions sound t now opened.apart few placed (omega arith) refl;
        begins = λ e. (opened, refl, refl);
        goes = λ s e. absurd (none-some s e);
      }

  known-first : (s : Session) → find (has_inside view.proto view.src view.dst) sessions ≡ Some s → IsFirst config sessions view now (Some s) (passed_by s Inside view.flags now)
  known-first s e =
      let t = passed_by s Inside view.flags now in
      let is = find-In (has_inside view.proto view.src view.dst) sessions s e in
      let has = has_inside-true view.proto view.src view.dst s is.1 in
      let joins = passed-joins config sessions sound s Inside view.flags now is.0 in
      let count : length (put t sessions) ≡ length sessions + 0 = omega (arith, put-known t s sessions sound.rises is.0 (passed-flow s Inside view.flags now)) in
      record {
        remote = sym (passed-keys s Inside view.flags now).remote ∙ has.2;
        keeps = joins.keeps;
        many = count;
        joins = λ few. joins;
        begins = λ none. absurd (none-some s (sym none));
        goes = λ u some. ap (λ (v : Session). passed_by v Inside view.flags now) (same_Some u s (sym some));
      }

  pub first-is : (found : Option Session) → find (has_inside view.proto view.src view.dst) sessions ≡ found → (first : Session) → first_by config rules sessions now view found ≡ Ok first
      → IsFirst config sessions view now found first
  first-is (Some s) e first h = subst (IsFirst config sessions view now (Some s)) (same_Ok _ _ h) (known-first s e)
  first-is None e first h =
      let new = made (needs_session view) NoSession (outside_near config rules sessions now view (find (maps_inside view.proto view.src) sessions)) (λ outside. Ok (near_of outside)) first h in
      subst (IsFirst config sessions view now None) (same_Ok _ _ new.2)
      (new-first new.0 e (opened_by (find (maps_inside view.proto view.src) sessions) refl new.0 new.1 e))

-- ---- the second leg

-- the inside endpoint that the rules or a mapping give is inside
pub inside-placed : (config : Config) (rules : Spelled) (sessions : List Session) (now : ℕ) (view : View) (held : List Session) → AreSound config held → KeepBounds config rules → (remote : ℕ) (facts : Facts) → 0 < facts.dst.port
    → (inside : Endpoint) (d : Destination) → prerouting_verdict config facts rules ≡ d
    → inside_by_rules config rules sessions now view held remote (find (maps_outside view.proto view.dst) held) d ≡ Ok inside → (is_inside config inside.addr ≡ true) × (0 < inside.port)
inside-placed config rules sessions now view held sound bounds remote facts port inside destination.None e h =
    let m = some-mapping config.filtering held remote (find (maps_outside view.proto view.dst) held) inside h in
    let placed = sound.placed m.0 (find-In (maps_outside view.proto view.dst) held m.0 m.1).0 in
    subst (λ (x : Endpoint). (is_inside config x.addr ≡ true) × (0 < x.port)) m.2 (placed.inside, placed.inside_port)
inside-placed config rules sessions now view held sound bounds remote facts port inside (destination.To x) e h =
    subst (λ (y : Endpoint). (is_inside config y.addr ≡ true) × (0 < y.port)) (same_Ok x inside h) (bounds.to facts x e, bounds.port facts x e port)
inside-placed config rules sessions now view held sound bounds remote facts port inside destination.Drop e h = absurd (err-ok Rule inside h)

-- the second session, where this one of its flow was found
pub record IsSecond (config : Config) (rules : Spelled) (held : List Session) (view : View) (now : ℕ) (first : Session) (found : Option Session) (t : Session) : Type 0 where
  pub remote : t.remote ≡ first.outside
  pub many : length (put t held) ≡ length held + fresh found
  pub joins : AreSound config held → KeepBounds config rules → length (put t held) ≤ 65536 → Joins config held now t
  pub begins : found ≡ None → ((s : Session) → In s held → ¬ Clashing t s) × (t.seen ≡ 0) × (t.last ≡ now) × (t.outside ≡ view.dst)
  pub goes : (s : Session) → found ≡ Some s → passed_by s Remote view.flags now ≡ t

module _ (config : Config) (rules : Spelled) (sessions : List Session) (now : ℕ) (view : View) (at : Contains config.external view.dst.addr) (dst_port : 0 < view.dst.port)
    (first : Session) (held : List Session) (rises : Rises held) (in_first : In first held) where
  abbrev far_of : Endpoint → Session
  far_of inside = new_session config rules sessions now view Remote inside view.dst first.outside

  new-second : (inside : Endpoint) → inside_far config rules sessions now view first held ≡ Ok inside → find (clashes (far_of inside)) held ≡ None → IsSecond config rules held view now first None (far_of inside)
  new-second inside way none =
      let t = far_of inside in
      let apart = no_clash t held none in
      let facts = facts_of config rules sessions now view Lan None view.src view.dst New in
      record {
        remote = refl;
        many = put-more t held apart;
        joins = λ sound bounds few.
            let there = inside-placed config rules sessions now view held sound bounds first.outside.addr facts dst_port inside (prerouting_verdict config facts rules) refl way in
            let placed : IsPlaced config t = record { inside = there.0; outside = inr at; inside_port = there.1; outside_port = dst_port; remote_port = (sound.placed first in_first).outside_port } in
            apart-joins config held sound t now apart few placed (omega arith) refl;
        begins = λ e. (apart, refl, refl, refl);
        goes = λ s e. absurd (none-some s e);
      }

  known-second : (s : Session) → find (has_outside view.proto view.dst first.outside) held ≡ Some s → IsSecond config rules held view now first (Some s) (passed_by s Remote view.flags now)
  known-second s e =
      let t = passed_by s Remote view.flags now in
      let is = find-In (has_outside view.proto view.dst first.outside) held s e in
      let count : length (put t held) ≡ length held + 0 = omega (arith, put-known t s held rises is.0 (passed-flow s Remote view.flags now)) in
      record {
        remote = sym (passed-keys s Remote view.flags now).remote ∙ (has_outside-true view.proto view.dst first.outside s is.1).2;
        many = count;
        joins = λ sound bounds few. passed-joins config held sound s Remote view.flags now is.0;
        begins = λ none. absurd (none-some s (sym none));
        goes = λ u some. ap (λ (v : Session). passed_by v Remote view.flags now) (same_Some u s (sym some));
      }

  pub second-is : (found : Option Session) → find (has_outside view.proto view.dst first.outside) held ≡ found → (t : Session) → second_by config rules sessions now view first held found ≡ Ok t
      → IsSecond config rules held view now first found t
  second-is (Some s) e t h = subst (IsSecond config rules held view now first (Some s)) (same_Ok _ _ h) (known-second s e)
  second-is None e t h =
      let new = made (needs_session view) NoSession (inside_far config rules sessions now view first held) (begun_second config rules sessions now view first held) t h in
      let free = unless (is_some (find (clashes (far_of new.0)) held)) Clash (Ok (far_of new.0)) t new.2 in
      subst (IsSecond config rules held view now first None) (same_Ok _ _ free.1) (new-second new.0 new.1 (gone (find (clashes (far_of new.0)) held) free.0))

-- ---- what both legs come to

module _ (config : Config) (rules : Spelled) (sessions : List Session) (now : ℕ) (view : View) (is_one : is_config config ≡ true) (sound : AreSound config sessions) (bounds : KeepBounds config rules)
    (inside : is_inside config view.src.addr ≡ true) (at : Contains config.external view.dst.addr) (src_port : 0 < view.src.port) (dst_port : 0 < view.dst.port) where
  abbrev found_near : Option Session
  found_near = find (has_inside view.proto view.src view.dst) sessions

  abbrev found_far : Session → Option Session
  found_far first = find (has_outside view.proto view.dst first.outside) (put first sessions)

  abbrev behind_both : Session → Session → Result Passage Cause
  behind_both first t = forwarded config rules sessions now view Lan Lan view.src t.inside (first_state config rules sessions now view found_near) (counted config rules sessions now view (through first t))

  -- the two have different remote endpoints
  own-flows : (first t : Session) → first.remote ≡ view.dst → t.remote ≡ first.outside → same_endpoint first.outside view.dst ≡ false → same_flow t first ≡ false
  own-flows first t near far other = false_from_ne_true _ (λ h.
      let has = has_inside-true t.proto t.inside t.remote first h in
      false≢true (sym other ∙ subst (λ (e : Endpoint). same_endpoint first.outside e ≡ true) (sym far ∙ sym has.2 ∙ near) (same_endpoint-itself first.outside)))

  fine-counted : (first t : Session) → IsFirst config sessions view now found_near first → IsSecond config rules (put first sessions) view now first (found_far first) t → same_flow t first ≡ false
      → IsFine config sessions now (counted config rules sessions now view (through first t))
  fine-counted first t f s own = fine-unless config sessions now (nat_lt 65536 (length (put t (put first sessions)))) TableFull (Ok (through first t)) (λ room.
      let few = ltb-false 65536 (length (put t (put first sessions))) room in
      let joins = f.joins (omega (arith, few, s.many)) in
      two-join config sessions now first t joins (s.joins joins.sound bounds few) own)

  fine-second : (first t : Session) → IsFirst config sessions view now found_near first → second config rules sessions now view first (put first sessions) ≡ Ok t → IsFine config sessions now (behind_both first t)
  fine-second first t f e =
      let way = unless (same_endpoint first.outside view.dst) SelfMapped (second_by config rules sessions now view first (put first sessions) (found_far first)) t e in
      let s = second-is config rules sessions now view at dst_port first (put first sessions) (Rises-put first sessions sound.rises) (put-In first sessions) (found_far first) refl t way.1 in
      fine-filtered config sessions now (forward_verdict config (facts_of config rules sessions now view Lan (Some Lan) view.src t.inside (first_state config rules sessions now view found_near)) rules)
      (counted config rules sessions now view (through first t)) (fine-counted first t f s (own-flows first t f.remote s.remote way.0))

  -- a packet that hairpins leaves the sessions sound
  pub fine-hairpin : IsFine config sessions now (hairpin_leg config rules sessions now view)
  fine-hairpin =
      let both = λ (first : Session). then_with (second config rules sessions now view first (put first sessions)) (behind_both first) in
      fine-then config sessions now (first_by config rules sessions now view found_near) both (λ first e.
      let f = first-is config rules sessions now view is_one sound inside at src_port dst_port found_near refl first e in
      fine-then config sessions now (second config rules sessions now view first (put first sessions)) (behind_both first) (λ t e2. fine-second first t f e2))
