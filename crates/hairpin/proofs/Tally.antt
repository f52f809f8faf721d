-- How a tally follows an update of one slot.
use Rattle.std.proofs.Common.{◌≡◌, ◌≢◌, ℕ, zero, suc, ◌+◌, ◌<◌, ◌≤◌, List, [], ◌∷◌, Option, Some, None, true, false, cond, drop, get_or, count_by, is_some, refl, sym, ap, ◌∙◌, inl, inr, arith}
use Rattle.std.proofs.lemmas.Bool.{cases_lt, cases_Bool}
use Rattle.std.proofs.lemmas.Grind.{common_steps}
use Rattle.sessions.specs.declared.session.Session.{Session}
use Rattle.mappings.specs.declared.map.Mapping.{Mapping}
use Rattle.packet.specs.Same.{same_endpoint}
use Rattle.mappings.specs.Map.{one_at, same_mapping}
use Rattle.mappings.proofs.Times.{same_mapping-true}
use Rattle.hairpin.specs.Tallies.{weight, tally, mapping_of}

rest-is : (xs : List (Option Session)) (k : ℕ) → get_or (drop 1 xs) k None ≡ get_or xs (suc k) None
rest-is [] k = refl
rest-is (x ∷ xs) k = refl

module _ (p : Mapping) where
  parts : (xs : List (Option Session)) → tally p xs ≡ weight p (get_or xs 0 None) + tally p (drop 1 xs)
  parts [] = refl
  parts (x ∷ xs) = refl

  pub tally-same : (xs ys : List (Option Session)) → ((k : ℕ) → get_or xs k None ≡ get_or ys k None) → tally p xs ≡ tally p ys
  tally-same [] [] same = refl
  tally-same [] (y ∷ ys) same =
      let here : weight p y ≡ 0 = ap (weight p) (sym (same 0)) in
      let there : 0 ≡ tally p ys = tally-same [] ys (λ k. same (suc k)) in
      omega arith
  tally-same (x ∷ xs) [] same =
      let here : weight p x ≡ 0 = ap (weight p) (same 0) in
      let there : tally p xs ≡ 0 = tally-same xs [] (λ k. same (suc k)) in
      omega arith
  tally-same (x ∷ xs) (y ∷ ys) same =
      let here : weight p x ≡ weight p y = ap (weight p) (same 0) in
      let there : tally p xs ≡ tally p ys = tally-same xs ys (λ k. same (suc k)) in
      omega arith

  -- the slot has o now, and every other slot has what it had
  pub tally-update : (old new : List (Option Session)) (slot : ℕ) (o : Option Session) → get_or new slot None ≡ o → ((k : ℕ) → k ≢ slot → get_or new k None ≡ get_or old k None) → tally p new + weight p (get_or old slot None) ≡ tally p old + weight p o
  tally-update old new zero o is same =
      let a = parts old in
      let b = parts new in
      let f : weight p (get_or new 0 None) ≡ weight p o = ap (weight p) is in
      let t : tally p (drop 1 new) ≡ tally p (drop 1 old) = tally-same (drop 1 new) (drop 1 old) (λ k. rest-is new k ∙ same (suc k) (λ e. absurd (omega arith)) ∙ sym (rest-is old k)) in
      omega arith
  tally-update old new (suc slot) o is same =
      let a = parts old in
      let b = parts new in
      let f : weight p (get_or new 0 None) ≡ weight p (get_or old 0 None) = ap (weight p) (same 0 (λ e. absurd (omega arith))) in
      let t : tally p (drop 1 new) + weight p (get_or (drop 1 old) slot None) ≡ tally p (drop 1 old) + weight p o =
      tally-update (drop 1 old) (drop 1 new) slot o (rest-is new slot ∙ is) (λ k away. rest-is new k ∙ same (suc k) (λ e. away (omega arith)) ∙ sym (rest-is old k)) in
      let g : weight p (get_or (drop 1 old) slot None) ≡ weight p (get_or old (suc slot) None) = ap (weight p) (rest-is old slot) in
      omega arith

  -- what a slot holds counts
  pub tally-at : (xs : List (Option Session)) (slot : ℕ) (o : Option Session) → get_or xs slot None ≡ o → weight p o ≤ tally p xs
  tally-at [] slot o is = let e : weight p o ≡ 0 = ap (weight p) (sym is) in omega arith
  tally-at (x ∷ xs) zero o is = let e : weight p o ≡ weight p x = ap (weight p) (sym is) in omega arith
  tally-at (x ∷ xs) (suc slot) o is = let e = tally-at xs slot o is in omega arith

  -- what counts is held in some slot
  pub tally-some : (xs : List (Option Session)) → 0 < tally p xs → (slot : ℕ) × (s : Session) × (get_or xs slot None ≡ Some s) × (0 < weight p (Some s))
  tally-some [] lt = absurd (omega arith)
  tally-some (None ∷ xs) lt = let old = tally-some xs (omega arith) in (suc old.0, old.1, old.2, old.3)
  tally-some (Some s ∷ xs) lt = elim (cases_lt 0 (weight p (Some s))) [ inl here ↦ (zero, s, refl, here) | inr none ↦ let old = tally-some xs (omega arith) in (suc old.0, old.1, old.2, old.3) ]

-- what a session weighs, by whether it is translated
pub weight-translated : (p : Mapping) (s : Session) → same_endpoint s.inside s.outside ≡ false → weight p (Some s) ≡ one_at p (mapping_of s)
weight-translated p s h = ap (λ b. cond b 0 (one_at p (mapping_of s))) h

pub weight-plain : (p : Mapping) (s : Session) → same_endpoint s.inside s.outside ≡ true → weight p (Some s) ≡ 0
weight-plain p s h = ap (λ b. cond b 0 (one_at p (mapping_of s))) h

-- no mapping counts more often than sessions are held
one_at-few : (p q : Mapping) → one_at p q ≤ 1
one_at-few p q = elim (cases_Bool (same_mapping p q)) [
  | inl one ↦ let e : one_at p q ≡ 1 = ap (λ b. cond b 1 0) one in omega arith
  | inr other ↦ let e : one_at p q ≡ 0 = ap (λ b. cond b 1 0) other in omega arith
]

weight-few : (p : Mapping) (s : Session) → weight p (Some s) ≤ 1
weight-few p s = elim (cases_Bool (same_endpoint s.inside s.outside)) [
  | inl same ↦ omega (arith, weight-plain p s same)
  | inr away ↦ omega (arith, weight-translated p s away, one_at-few p (mapping_of s))
]

pub tally-few : (p : Mapping) (xs : List (Option Session)) → tally p xs ≤ count_by is_some xs
tally-few p [] = omega arith
tally-few p (None ∷ xs) = grind (arith, common_steps, tally-few p xs)
tally-few p (Some s ∷ xs) = grind (arith, common_steps, tally-few p xs, weight-few p s)

-- a session that weighs at a mapping is translated, and the mapping is its own
pub weighs : (p : Mapping) (s : Session) → 0 < weight p (Some s) → (same_endpoint s.inside s.outside ≡ false) × (p ≡ mapping_of s)
weighs p s lt = elim (cases_Bool (same_endpoint s.inside s.outside)) [
  | inl same ↦ absurd (omega (arith, weight-plain p s same))
  | inr away ↦ (
    away,
    elim (cases_Bool (same_mapping p (mapping_of s))) [
      | inl one ↦ same_mapping-true p (mapping_of s) one
      | inr other ↦ let zero_is : one_at p (mapping_of s) ≡ 0 = ap (λ b. cond b 1 0) other in absurd (omega (arith, weight-translated p s away))
    ],
  )
]
