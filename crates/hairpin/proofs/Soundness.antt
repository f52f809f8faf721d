-- What may join sessions that are sound.
use Rattle.std.proofs.Common.{◌≡◌, ◌⊎◌, ℕ, ◌+◌, ◌≤◌, List, [], ◌∷◌, length, Result, Ok, Err, Bool, true, false, cond, not, nat_lt, bit_or, if◌then◌else◌, refl, sym, ap, ◌∙◌, subst, inl, inr, arith}
use Rattle.std.specs.List.{filter}
use Rattle.std.proofs.lemmas.Bool.{cases_Bool, false≢true, false_from_ne_true, ltb-false, not-true}
use Rattle.std.proofs.lemmas.List.Sums.{count_by-le-length, length-filter}
use Rattle.packet.specs.Config.{Config}
use Rattle.packet.specs.declared.endpoint.Endpoint.{Endpoint}
use Rattle.packet.specs.declared.endpoint.Flags.{Flags}
use Rattle.packet.specs.declared.endpoint.Iface.{Iface}
use Rattle.packet.specs.declared.endpoint.Proto.{Proto}
use Rattle.packet.specs.declared.endpoint.Proto.TheVariants.{Tcp, Udp}
use Rattle.sessions.specs.Life.{IsSeen, ack_bit, bit_if, fin_bit, reply_bit, reset_bit, restarts, same_side, shown}
use Rattle.sessions.specs.Listing.{Rises, insert, key, put, same_flow}
use Rattle.sessions.specs.Listing.{In as Member}
use Rattle.sessions.specs.Table.{Clash, restarted, seen}
use Rattle.sessions.specs.declared.session.Opener.{Opener}
use Rattle.sessions.specs.declared.session.Opener.TheVariants.{Inside, Remote}
use Rattle.sessions.specs.declared.session.Session.{Session}
use Rattle.sessions.proofs.Held.{Clash-sym}
use Rattle.sessions.proofs.LifeLemmas.{IsSeen-or}
use Rattle.sessions.proofs.Puts.{flow-keys, has_inside-true, keys-flow, length-insert}
use Rattle.sessions.proofs.Sets.{same_key, In-filter, In-insert, Rises-filter, Rises-insert, below-itself, below-keys, filter-In, insert-In}
use Rattle.verdict.specs.declared.hook.Forwarding.{Forwarding}
use Rattle.verdict.specs.declared.hook.Forwarding.TheVariants as forwarding
use Rattle.hairpin.specs.Legs.{Passage, passed_by, put_all, then_with, unless_dropped}
use Rattle.sessions.specs.Sound.{AreSound, IsPlaced}
use Rattle.hairpin.specs.declared.cause.Cause.{Cause}
use Rattle.hairpin.specs.declared.cause.Cause.TheVariants.{TableFull}
use Rattle.hairpin.proofs.Apart.{cases_endpoint}

-- what holds of both holds of the one that a test picks
pub either : {A : Type 0} (P : A → Type 0) (b : Bool) (x y : A) → P x → P y → P (if b then x else y)
either P true x y p q = p
either P false x y p q = q

-- how long a part is
pub filter-most : (p : Session → Bool) (xs : List Session) → length (filter p xs) ≤ length xs
filter-most p xs = omega (arith, length-filter p xs, count_by-le-length p xs)

pub filter-fewer : (p : Session → Bool) (xs : List Session) (s : Session) → Member s xs → p s ≡ false → length (filter p xs) + 1 ≤ length xs
filter-fewer p [] s not_in h = absurd not_in
filter-fewer p (x ∷ xs) s is h = elim (cases_Bool (p x)) [
  | inl is_so ↦ elim is [
    | inl e ↦ absurd (false≢true (sym h ∙ ap p e ∙ is_so))
    | inr there ↦ subst (λ b. length (cond b (x ∷ filter p xs) (filter p xs)) + 1 ≤ length (x ∷ xs)) (sym is_so) (omega (arith, filter-fewer p xs s there h))
  ]
  | inr not_so ↦ subst (λ b. length (cond b (x ∷ filter p xs) (filter p xs)) + 1 ≤ length (x ∷ xs)) (sym not_so) (omega (arith, filter-most p xs))
]

pub filter-all : (p : Session → Bool) (xs : List Session) → ((s : Session) → Member s xs → p s ≡ true) → filter p xs ≡ xs
filter-all p [] all = refl
filter-all p (x ∷ xs) all = ap (λ b. cond b (x ∷ filter p xs) (filter p xs)) (all x (inl refl)) ∙ ap (λ (ys : List Session). x ∷ ys) (filter-all p xs (λ s is. all s (inr is)))

-- a session that stands apart from all has a flow of its own, and is one more
pub other-flow : (t : Session) (xs : List Session) → ((u : Session) → Member u xs → ¬ Clash t u) → (u : Session) → Member u xs → same_flow t u ≡ false
other-flow t xs apart u in_u = false_from_ne_true _ (λ h. apart u in_u (inl (has_inside-true t.proto t.inside t.remote u h)))

pub put-more : (t : Session) (xs : List Session) → ((u : Session) → Member u xs → ¬ Clash t u) → length (put t xs) ≡ length xs + 1
put-more t xs apart = ap (λ (ys : List Session). length (insert t ys)) (filter-all (λ u. not (same_flow t u)) xs (λ u in_u. ap not (other-flow t xs apart u in_u))) ∙ length-insert t xs

-- one of the flow of a session that is held is no more
pub filter-one : (t : Session) (xs : List Session) → Rises xs → length xs ≤ length (filter (λ u. not (same_flow t u)) xs) + 1
filter-one t [] rises = omega arith
filter-one t (x ∷ xs) rises = elim (cases_Bool (same_flow t x)) [
  | inl same ↦
      let all : filter (λ u. not (same_flow t u)) xs ≡ xs = filter-all (λ u. not (same_flow t u)) xs (λ u in_u.
      ap not (false_from_ne_true _ (λ h. below-itself x (below-keys x u x x refl (flow-keys t x same ∙ sym (flow-keys t u h)) ∙ rises.0 u in_u)))) in
      let count : length (filter (λ u. not (same_flow t u)) xs) ≡ length xs = ap (λ (ys : List Session). length ys) all in
      subst (λ b. length (x ∷ xs) ≤ length (cond (not b) (x ∷ filter (λ u. not (same_flow t u)) xs) (filter (λ u. not (same_flow t u)) xs)) + 1) (sym same) (omega arith)
  | inr other ↦
      let rest = filter-one t xs rises.1 in
      subst (λ b. length (x ∷ xs) ≤ length (cond (not b) (x ∷ filter (λ u. not (same_flow t u)) xs) (filter (λ u. not (same_flow t u)) xs)) + 1) (sym other) (omega arith)
]

pub put-known : (t s : Session) (xs : List Session) → Rises xs → Member s xs → same_flow t s ≡ true → length (put t xs) ≡ length xs
put-known t s xs rises in_s same = omega (arith, length-insert t (filter (λ u. not (same_flow t u)) xs), filter-one t xs rises, filter-fewer (λ u. not (same_flow t u)) xs s in_s (ap not same))

-- a packet shows bits of its protocol
bit_if-few : (mark : Bool) (bit : ℕ) → bit_if mark bit ≤ bit
bit_if-few true bit = omega arith
bit_if-few false bit = omega arith

side-few : (side : Opener) → (ack_bit side ≤ 4) × (fin_bit side ≤ 16)
side-few Inside = (omega arith, omega arith)
side-few Remote = (omega arith, omega arith)

shown-fits : (proto : Proto) (opener sender : Opener) (flags : Flags) → IsSeen proto (shown proto opener sender flags)
shown-fits Tcp opener sender flags = omega (arith, bit_if-few (not (same_side opener sender)) reply_bit, bit_if-few flags.ack (ack_bit sender), bit_if-few flags.fin (fin_bit sender), bit_if-few flags.rst reset_bit, side-few sender)
shown-fits Udp opener sender flags = omega (arith, bit_if-few (not (same_side opener sender)) reply_bit)

-- the session may be put in, and has the outside endpoint of the one of its flow
pub record Joins (config : Config) (sessions : List Session) (now : ℕ) (t : Session) : Type 0 where
  pub sound : AreSound config (put t sessions)
  pub last : t.last ≡ now
  pub keeps : (u : Session) → Member u sessions → same_flow t u ≡ true → u.outside ≡ t.outside

module _ (config : Config) (sessions : List Session) (sound : AreSound config sessions) where
  abbrev pub others : Session → List Session
  others t = filter (λ u. not (same_flow t u)) sessions

  pub put-member : (t u : Session) → Member u (put t sessions) → (u ≡ t) ⊎ (Member u sessions × (same_flow t u ≡ false))
  put-member t u is = elim (In-insert t (others t) u is) [ inl e ↦ inl e | inr old ↦ let kept = In-filter (λ v. not (same_flow t v)) sessions u old in inr (kept.0, not-true _ kept.1) ]

  -- a session that stands apart from the others may join them
  pub put-sound : (t : Session) → ((s : Session) → Member s sessions → same_flow t s ≡ false → ¬ Clash t s) → length (put t sessions) ≤ 65536 → IsPlaced config t → IsSeen t.proto t.seen
      → AreSound config (put t sessions)
  put-sound t apart few placed seen = record {
    rises = Rises-insert t (others t)
        (λ u in_rest e. let kept = In-filter (λ v. not (same_flow t v)) sessions u in_rest in false≢true (sym (not-true _ kept.1) ∙ keys-flow t u (sym e)))
        (Rises-filter (λ u. not (same_flow t u)) sessions sound.rises);
    apart = λ u v in_u in_v ne clash. elim (put-member t u in_u) [
      | inl is_u ↦ elim (put-member t v in_v) [ inl is_v ↦ ne (is_u ∙ sym is_v) | inr old_v ↦ apart v old_v.0 old_v.1 (subst (λ x. Clash x v) is_u clash) ]
      | inr old_u ↦ elim (put-member t v in_v) [ inl is_v ↦ apart u old_u.0 old_u.1 (Clash-sym u t (subst (λ x. Clash u x) is_v clash)) | inr old_v ↦ sound.apart u v old_u.0 old_v.0 ne clash ]
    ];
    at_most = few;
    placed = λ u in_u. elim (put-member t u in_u) [ inl is ↦ subst (IsPlaced config) (sym is) placed | inr old ↦ sound.placed u old.0 ];
    seen = λ u in_u. elim (put-member t u in_u) [ inl is ↦ subst (λ (v : Session). IsSeen v.proto v.seen) (sym is) seen | inr old ↦ sound.seen u old.0 ];
  }

  -- it is the only one of its flow
  pub apart-joins : (t : Session) (now : ℕ) → ((u : Session) → Member u sessions → ¬ Clash t u) → length (put t sessions) ≤ 65536 → IsPlaced config t → IsSeen t.proto t.seen → t.last ≡ now → Joins config sessions now t
  apart-joins t now apart few placed seen last =
      record { sound = put-sound t (λ s in_s other. apart s in_s) few placed seen; last = last; keeps = λ u in_u same. absurd (false≢true (sym (other-flow t sessions apart u in_u) ∙ same)) }

  -- a session goes on, as one of the same endpoints
  pub on-sound : (s : Session) (opener : Opener) (bits last : ℕ) → Member s sessions → IsSeen s.proto bits
      → AreSound config (put (record s { opener = opener; seen = bits; last = last }) sessions)
  on-sound s opener bits last in_s seen =
      let t : Session = record s { opener = opener; seen = bits; last = last } in
      let own : same_flow t s ≡ true = keys-flow t s refl in
      let placed = sound.placed s in_s in
      put-sound t
      (λ u in_u not_own clash. sound.apart s u in_s in_u (λ e. false≢true (sym not_own ∙ subst (λ v. same_flow t v ≡ true) e own)) clash)
      (omega (arith, length-insert t (others t), filter-fewer (λ u. not (same_flow t u)) sessions s in_s (ap not own), sound.at_most))
      (record { inside = placed.inside; outside = placed.outside; inside_port = placed.inside_port; outside_port = placed.outside_port; remote_port = placed.remote_port })
      seen

  pub filter-sound : (p : Session → Bool) → AreSound config (filter p sessions)
  filter-sound p = record {
    rises = Rises-filter p sessions sound.rises;
    apart = λ s t in_s in_t. sound.apart s t (In-filter p sessions s in_s).0 (In-filter p sessions t in_t).0;
    at_most = omega (arith, filter-most p sessions, sound.at_most);
    placed = λ s in_s. sound.placed s (In-filter p sessions s in_s).0;
    seen = λ s in_s. sound.seen s (In-filter p sessions s in_s).0;
  }

  -- of a session that is one of them, none else has the flow
  same_outside : (s t u : Session) → Member s sessions → t.outside ≡ s.outside → key t ≡ key s → Member u sessions → same_flow t u ≡ true → u.outside ≡ t.outside
  same_outside s t u in_s outside keys in_u same = elim (cases_endpoint u.outside s.outside) [
    | inl is ↦ is ∙ sym outside
    | inr ne ↦ absurd (sound.apart s u in_s in_u (λ e. ne (ap (λ (v : Session). v.outside) (sym e))) (inl (same_key s u (sym keys ∙ sym (flow-keys t u same)))))
  ]

  pub passed-joins : (s : Session) (sender : Opener) (flags : Flags) (now : ℕ) → Member s sessions → Joins config sessions now (passed_by s sender flags now)
  passed-joins s sender flags now in_s =
      let bits = shown s.proto s.opener sender flags in
      let fits = IsSeen-or s.proto s.seen bits (sound.seen s in_s) (shown-fits s.proto s.opener sender flags) in
      either (Joins config sessions now) (restarts s flags) (restarted s sender now) (seen s bits now)
      (record { sound = on-sound s sender 0 now in_s (omega arith); last = refl; keeps = λ u in_u. same_outside s (restarted s sender now) u in_s refl refl in_u })
      (record { sound = on-sound s s.opener (bit_or s.seen bits) now in_s fits; last = refl; keeps = λ u in_u. same_outside s (seen s bits now) u in_s refl refl in_u })

-- each may be put in where those before it are
abbrev pub JoinEach : Config → List Session → ℕ → List Session → Type 0
JoinEach config sessions now [] = Unit {0}
JoinEach config sessions now (t ∷ ts) = Joins config sessions now t × JoinEach config (put t sessions) now ts

-- none is of the flow of another
abbrev pub HaveOwnFlows : List Session → Type 0
HaveOwnFlows [] = Unit {0}
HaveOwnFlows (t ∷ ts) = ((u : Session) → Member u ts → same_flow u t ≡ false) × HaveOwnFlows ts

-- the sessions may be put in, in turn, and no mapping is lost
pub record JoinAll (config : Config) (sessions : List Session) (now : ℕ) (ts : List Session) : Type 0 where
  pub sound : AreSound config (put_all ts sessions)
  pub each : JoinEach config sessions now ts
  pub flows : HaveOwnFlows ts
  pub last : (t : Session) → Member t ts → t.last ≡ now
  pub keeps : (u : Session) → Member u sessions → (v : Session) × Member v (put_all ts sessions) × (v.proto ≡ u.proto) × (v.inside ≡ u.inside) × (v.outside ≡ u.outside)

-- what a leg comes to changes a state of these sessions into a sound one, and loses no mapping
abbrev pub IsFine : Config → List Session → ℕ → Result Passage Cause → Type 0
IsFine config sessions now (Err cause) = Unit {0}
IsFine config sessions now (Ok passage) = JoinAll config sessions now passage.sessions

-- what is drawn from a result, or passes a test, or is let pass is fine where what goes on is
pub fine-then : {A : Type 0} (config : Config) (sessions : List Session) (now : ℕ) (r : Result A Cause) (next : A → Result Passage Cause) → ((a : A) → r ≡ Ok a → IsFine config sessions now (next a)) → IsFine config sessions now (then_with r next)
fine-then config sessions now (Err cause) next fine = tt
fine-then config sessions now (Ok a) next fine = fine a refl

pub fine-unless : (config : Config) (sessions : List Session) (now : ℕ) (b : Bool) (cause : Cause) (way : Result Passage Cause) → (b ≡ false → IsFine config sessions now way) → IsFine config sessions now (if b then Err cause else way)
fine-unless config sessions now true cause way fine = tt
fine-unless config sessions now false cause way fine = fine refl

pub fine-filtered : (config : Config) (sessions : List Session) (now : ℕ) (verdict : Forwarding) (way : Result Passage Cause) → IsFine config sessions now way → IsFine config sessions now (unless_dropped verdict way)
fine-filtered config sessions now forwarding.Drop way fine = tt
fine-filtered config sessions now forwarding.Pass way fine = fine

module _ (config : Config) (sessions : List Session) (now : ℕ) (t : Session) (joins : Joins config sessions now t) where
  keeps-each : (u : Session) → Member u sessions → (v : Session) × Member v (put t sessions) × (v.proto ≡ u.proto) × (v.inside ≡ u.inside) × (v.outside ≡ u.outside)
  keeps-each u in_u = elim (cases_Bool (same_flow t u)) [
    | inl same ↦
        let has = has_inside-true t.proto t.inside t.remote u same in
        (t, insert-In t (filter (λ v. not (same_flow t v)) sessions) t (inl refl), sym has.0, sym has.1, sym (joins.keeps u in_u same))
    | inr other ↦ (u, insert-In t (filter (λ v. not (same_flow t v)) sessions) u (inr (filter-In (λ v. not (same_flow t v)) sessions u in_u (ap not other))), refl, refl, refl)
  ]

  pub one-joins : JoinAll config sessions now (t ∷ [])
  one-joins = record {
    sound = joins.sound;
    each = (joins, tt);
    flows = (λ u not_in. absurd not_in, tt);
    last = λ u is. elim is [ inl e ↦ subst (λ (v : Session). v.last ≡ now) (sym e) joins.last | inr not_in ↦ absurd not_in ];
    keeps = keeps-each;
  }

-- a new session that stands apart is fine, if there is room
pub fine-one : (config : Config) (sessions : List Session) → AreSound config sessions → (now : ℕ) (t : Session) (src dst : Endpoint) (iface : Iface) → ((u : Session) → Member u sessions → ¬ Clash t u)
    → IsPlaced config t → IsSeen t.proto t.seen → t.last ≡ now → IsFine config sessions now (if nat_lt 65536 (length (put t sessions)) then Err TableFull else Ok (record { sessions = t ∷ []; src = src; dst = dst; iface = iface }))
fine-one config sessions sound now t src dst iface apart placed seen last =
    fine-unless config sessions now (nat_lt 65536 (length (put t sessions))) TableFull (Ok (record { sessions = t ∷ []; src = src; dst = dst; iface = iface })) (λ room.
    one-joins config sessions now t (apart-joins config sessions sound t now apart (omega (arith, ltb-false 65536 (length (put t sessions)) room)) placed seen last))

pub two-join : (config : Config) (sessions : List Session) (now : ℕ) (t u : Session) → Joins config sessions now t → Joins config (put t sessions) now u → same_flow u t ≡ false → JoinAll config sessions now (t ∷ u ∷ [])
two-join config sessions now t u joins more own = record {
  sound = more.sound;
  each = (joins, (more, tt));
  flows = (
    (λ v is. elim is [ inl e ↦ ap (λ (x : Session). same_flow x t) e ∙ own | inr not_in ↦ absurd not_in ]),
    ((λ v not_in. absurd not_in), tt),
  );
  last = λ w is. elim is [
    | inl e ↦ subst (λ (v : Session). v.last ≡ now) (sym e) joins.last
    | inr later ↦ elim later [ inl e ↦ subst (λ (v : Session). v.last ≡ now) (sym e) more.last | inr not_in ↦ absurd not_in ]
  ];
  keeps = λ w in_w.
      let a = keeps-each config sessions now t joins w in_w in
      let b = keeps-each config (put t sessions) now u more a.0 a.1 in
      (b.0, b.1, b.2 ∙ a.2, b.3 ∙ a.3, b.4 ∙ a.4);
}
