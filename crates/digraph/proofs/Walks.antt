-- Paths, loops, and heights raised round by round.
use Rattle.std.proofs.Common.{◌≡◌, ℕ, zero, suc, ◌+◌, ◌<◌, ◌≤◌, true, false, List, [], ◌∷◌, length, eqb, refl, sym, subst, inl, inr, arith}
use Rattle.std.specs.List.{list_any, IsDistinct, AllByRecursion}
use Rattle.std.proofs.lemmas.Map.Steps.{length-le_from_distinct_below}
use Rattle.std.proofs.lemmas.Bool.Decides.{nat_tests}
use Rattle.std.proofs.lemmas.Bool.{cases_Bool, or_parts}
use Rattle.digraph.specs.Paths.{Path, HasPath, HasLoop, IsDeeper, IsReachedFrom}
use Rattle.digraph.specs.Heights.{AreHeights, IsRaised}

module _ (E : ℕ → ℕ → Type 0) where
  -- one step more at the end
  pub path_on : (n a b c : ℕ) → Path E n a b → E b c → Path E (suc n) a c
  path_on zero a b c same e = (c, subst (λ v. E v c) (sym same) e, refl)
  path_on (suc n) a b c p e = (p.0, p.1, path_on n p.0 b c p.2 e)

  -- a path has a front of each smaller length
  pub path_front : (n m a : ℕ) → m ≤ n → HasPath E n a → HasPath E m a
  path_front n zero a le p = (a, refl)
  path_front zero (suc m) a le p = absurd (omega arith)
  path_front (suc n) (suc m) a le p =
      let rest = path_front n m p.1.0 (omega arith) (p.0, p.1.2) in
      (rest.0, (p.1.0, p.1.1, rest.1))

  -- whoever comes to a loop goes on for ever
  unrolled : (a n : ℕ) → Path E (suc n) a a → (k x m : ℕ) → Path E (suc m) x a → HasPath E k x
  unrolled a n loop zero x m p = (x, refl)
  unrolled a n loop (suc k) x zero p =
      let h = unrolled a n loop k a n loop in
      (h.0, (p.0, p.1, subst (λ v. Path E k v h.0) (sym p.2) h.1))
  unrolled a n loop (suc k) x (suc m) p =
      let h = unrolled a n loop k p.0 m p.2 in
      (h.0, (p.0, p.1, h.1))

  pub paths_of_loop : (loop : HasLoop E) (k : ℕ) → HasPath E k loop.0
  paths_of_loop loop k = unrolled loop.0 loop.1 loop.2 k loop.0 loop.1 loop.2

  -- ---- a path as long as there are numbers comes to one of them twice

  abbrev Reaches : ℕ → ℕ → Type 0
  Reaches a b = (n : ℕ) × Path E (suc n) a b

  none_is : (q : ℕ) (xs : List ℕ) → list_any (eqb q) xs ≡ false → AllByRecursion (λ y. eqb q y ≡ false) xs
  none_is q [] fresh = tt
  none_is q (x ∷ xs) fresh = let e = or_parts (eqb q x) (list_any (eqb q) xs) fresh in (e.0, none_is q xs e.1)

  distinct_more : (q : ℕ) (xs : List ℕ) → list_any (eqb q) xs ≡ false → IsDistinct eqb xs → IsDistinct eqb (q ∷ xs)
  unfolding IsDistinct
  distinct_more q xs fresh distinct = (none_is q xs fresh, distinct)

  distinct_none : IsDistinct eqb []
  unfolding IsDistinct
  distinct_none = tt

  -- what holds of the numbers seen and of one more
  seen_more : (P : ℕ → Type 0) (q : ℕ) (xs : List ℕ) → P q → ((r : ℕ) → list_any (eqb r) xs ≡ true → P r) → (r : ℕ) → list_any (eqb r) (q ∷ xs) ≡ true → P r
  seen_more P q xs now before r is = elim (cases_Bool (eqb r q)) [
    | inl same ↦ let e : r ≡ q = grind (arith, nat_tests) in subst P (sym e) now
    | inr other ↦ before r (rw other at is)
  ]

  module _ (count : ℕ) (within : (a b : ℕ) → E a b → (a < count) × (b < count)) where
    walk : (m : ℕ) (seen : List ℕ) (a : ℕ) → IsDistinct eqb seen → ((q : ℕ) → list_any (eqb q) seen ≡ true → q < count) → ((q : ℕ) → list_any (eqb q) seen ≡ true → Reaches q a) → a < count → HasPath E m a → count ≤ length seen + m → HasLoop E
    walk zero seen a distinct below reach lt p long = elim (cases_Bool (list_any (eqb a) seen)) [
      | inl again ↦ let r = reach a again in (a, r.0, r.1)
      | inr fresh ↦
          let few : length (a ∷ seen) ≤ count = length-le_from_distinct_below (a ∷ seen) count (distinct_more a seen fresh distinct) (seen_more (λ q. q < count) a seen lt below) in
          absurd (omega arith)
    ]
    walk (suc m) seen a distinct below reach lt p long = elim (cases_Bool (list_any (eqb a) seen)) [
      | inl again ↦ let r = reach a again in (a, r.0, r.1)
      | inr fresh ↦
          walk m (a ∷ seen) p.1.0 (distinct_more a seen fresh distinct)
          (seen_more (λ q. q < count) a seen lt below)
          (seen_more (λ q. Reaches q p.1.0) a seen (0, (p.1.0, p.1.1, refl)) (λ q is. let r = reach q is in (suc r.0, path_on (suc r.0) q a p.1.0 r.1 p.1.1)))
          (within a p.1.0 p.1.1).1 (p.0, p.1.2) (omega arith)
    ]

    pub loop_of_path : (a : ℕ) → a < count → HasPath E count a → HasLoop E
    loop_of_path a lt p = walk count [] a distinct_none (λ q is. cc) (λ q is. cc) lt p (omega arith)

  -- ---- heights

  pub heights_none : AreHeights E 0 (λ _. 0)
  heights_none a zero = (λ le. (le, (a, refl)), λ p. p.0)
  heights_none a (suc n) = (λ le. absurd (omega arith), λ p. p.0)

  pub heights_more : (k : ℕ) (old new : ℕ → ℕ) → AreHeights E k old → IsRaised E old new → AreHeights E (k + 1) new
  heights_more k old new are raised a zero = (λ le. (omega arith, (a, refl)), λ p. omega arith)
  heights_more k old new are raised a (suc n) = (
    λ le.
        let r = raised.reached a (omega arith) in
        let old_le : n ≤ old r.0 = omega (arith, r.2) in
        let p = (are r.0 n).0 old_le in
        (omega (arith, p.0), (p.1.0, (r.0, r.1, p.1.1))),
    λ p.
        let le : n ≤ k = omega (arith, p.0) in
        let old_le = (are p.1.1.0 n).1 (le, (p.1.0, p.1.1.2)) in
        omega (arith, raised.upper a p.1.1.0 p.1.1.1),
  )

  pub heights_small : (k : ℕ) (f : ℕ → ℕ) → AreHeights E k f → (a : ℕ) → f a ≤ k
  heights_small k f are a = ((are a (f a)).0 (omega arith)).0

module _ (E F : ℕ → ℕ → Type 0) (into : (a b : ℕ) → E a b → F a b) where
  pub path_into : (n a b : ℕ) → Path E n a b → Path F n a b
  path_into zero a b p = p
  path_into (suc n) a b p = (p.0, into a p.0 p.1, path_into n p.0 b p.2)

  pub loop_into : HasLoop E → HasLoop F
  loop_into l = (l.0, l.1, path_into (suc l.1) l.0 l.0 l.2)

  pub deeper_into : (most : ℕ) → IsDeeper E most → IsDeeper F most
  deeper_into most d = (d.0, d.1, d.2, (d.3.0, path_into d.0 d.1 d.3.0 d.3.1))

  module _ (S T : ℕ → Type 0) (starts : (a : ℕ) → S a → T a) where
    pub reached_into : (b : ℕ) → IsReachedFrom E S b → IsReachedFrom F T b
    reached_into b from = (from.0, starts from.0 from.1, from.2, path_into from.2 from.0 b from.3)
