-- What one round of marks reaches.
use Rattle.std.proofs.Common.{◌≡◌, ◌↔◌, ◌⊎◌, ℕ, zero, suc, ◌+◌, ◌<◌, ◌≤◌, Bool, List, slice_get, Some, refl, sym, subst, inl, inr, arith}
use Rattle.std.specs.List.{Contains}
use Rattle.std.proofs.lemmas.Bool.{cases_lt}
use Rattle.digraph.specs.Paths.{Path, IsReachedFrom, IsDeeper}
use Rattle.digraph.specs.Edges.{IsMarked, HasEdge}
use Rattle.digraph.proofs.Walks.{path_on}

-- a path has a last step
path_off : (E : ℕ → ℕ → Type 0) (n a c : ℕ) → Path E (suc n) a c → (b : ℕ) × Path E n a b × E b c
path_off E zero a c p = (a, refl, subst (λ v. E a v) p.2 p.1)
path_off E (suc n) a c p = let q = path_off E n p.0 c p.2 in (q.0, (p.0, p.1, q.1), q.2)

module _ (rows : List (List ℕ)) (start marks new : List Bool) (row : List ℕ) (place : ℕ) (at : slice_get rows place ≡ Some row)
    (mark : (b : ℕ) → IsMarked new b ↔ (IsMarked marks b ⊎ (IsMarked marks place × Contains row b))) where
  pub kept_on : ((b : ℕ) → IsMarked start b → IsMarked marks b) → (b : ℕ) → IsMarked start b → IsMarked new b
  kept_on kept b old = (mark b).1 (inl (kept b old))

  pub sound_on : ((b : ℕ) → IsMarked marks b → IsReachedFrom (HasEdge rows) (IsMarked start) b) → (b : ℕ) → IsMarked new b → IsReachedFrom (HasEdge rows) (IsMarked start) b
  sound_on sound b is = elim ((mark b).0 is) [
    | inl before ↦ sound b before
    | inr now ↦
        let from = sound place now.0 in
        (from.0, from.1, suc from.2, path_on (HasEdge rows) from.2 from.0 place b from.3 (row, at, now.1))
  ]

  pub stepped_on : ((b : ℕ) → IsMarked start b → IsMarked marks b) → ((a b : ℕ) → a < place → IsMarked start a → HasEdge rows a b → IsMarked marks b)
      → (a b : ℕ) → a < place + 1 → IsMarked start a → HasEdge rows a b → IsMarked new b
  stepped_on kept stepped a b lt is edge = elim (cases_lt a place) [
    | inl below ↦ (mark b).1 (inl (stepped a b below is edge))
    | inr above ↦
        let here : a ≡ place = omega arith in
        let same : edge.0 ≡ row = let e : slice_get rows place ≡ Some edge.0 = subst (λ k. slice_get rows k ≡ Some edge.0) here edge.1 in cc in
        (mark b).1 (inr (kept place (subst (λ k. IsMarked start k) here is), subst (λ r. Contains r b) same edge.2))
  ]

module _ (E : ℕ → ℕ → Type 0) (start marks new : List Bool) (round : ℕ)
    (kept : (b : ℕ) → IsMarked marks b → IsMarked new b)
    (sound : (b : ℕ) → IsMarked new b → IsReachedFrom E (IsMarked marks) b)
    (stepped : (a b : ℕ) → IsMarked marks a → E a b → IsMarked new b) where
  joined : (n m a c b : ℕ) → Path E n a c → Path E m c b → (k : ℕ) × Path E k a b
  joined zero m a c b p q = (m, subst (λ v. Path E m v b) (sym p) q)
  joined (suc n) m a c b p q = let r = joined n m p.0 c b p.2 q in (suc r.0, (p.0, p.1, r.1))

  pub sound_round : ((b : ℕ) → IsMarked marks b → IsReachedFrom E (IsMarked start) b) → (b : ℕ) → IsMarked new b → IsReachedFrom E (IsMarked start) b
  sound_round before b is =
      let late = sound b is in
      let early = before late.0 late.1 in
      let whole = joined early.2 late.2 early.0 late.0 b early.3 late.3 in
      (early.0, early.1, whole.0, whole.1)

  pub complete_round : ((a b n : ℕ) → n ≤ round → IsMarked start a → Path E n a b → IsMarked marks b)
      → (a b n : ℕ) → n ≤ round + 1 → IsMarked start a → Path E n a b → IsMarked new b
  complete_round before a b zero le is p = kept b (before a b zero (omega arith) is p)
  complete_round before a b (suc n) le is p =
      let q = path_off E n a b p in
      stepped q.0 b (before a q.0 n (omega arith) is q.1) q.2

-- where no path has more steps than that, as many rounds reach all
pub all_reached : (E : ℕ → ℕ → Type 0) (most : ℕ) (start marks : List Bool) → ¬ IsDeeper E most
    → ((a b n : ℕ) → n ≤ most → IsMarked start a → Path E n a b → IsMarked marks b)
    → (b : ℕ) → IsReachedFrom E (IsMarked start) b → IsMarked marks b
all_reached E most start marks flat complete b from = elim (cases_lt most from.2) [
  | inl deep ↦ absurd (flat (from.2, from.0, deep, (b, from.3)))
  | inr short ↦ complete from.0 b from.2 short from.1 from.3
]
