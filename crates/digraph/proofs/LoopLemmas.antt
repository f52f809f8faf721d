-- Ranks that fall with each step, and a step from whose end a path leads back.
use Rattle.std.proofs.Common.{◌≡◌, ◌↔◌, ◌⊎◌, ℕ, zero, suc, ◌+◌, ◌<◌, ◌≤◌, List, Bool, true, false, length, get_or, slice_set, slice_get, Some, sym, ap, ◌∙◌, subst, inl, inr, arith}
use Rattle.std.specs.List.{Contains}
use Rattle.std.proofs.lemmas.Bool.{cases_eq, cases_lt}
use Rattle.std.proofs.lemmas.List.{get_or_default, get_or-set_other}
use Rattle.std.proofs.lemmas.Grind.{get_or-set_at}
use Rattle.digraph.specs.Paths.{Path, HasLoop, IsReachedFrom}
use Rattle.digraph.specs.Edges.{IsMarked, HasEdge}

module _ (E : ℕ → ℕ → Type 0) where
  module _ (rank : ℕ → ℕ) (falls : (a b : ℕ) → E a b → rank b < rank a) where
    fallen : (n a b : ℕ) → Path E n a b → rank b + n ≤ rank a
    fallen zero a b same = let e : rank a ≡ rank b = ap rank same in omega arith
    fallen (suc n) a b p = let rest = fallen n p.0 b p.2 in let step = falls a p.0 p.1 in omega arith

    pub no_loop : ¬ HasLoop E
    no_loop loop = let end = fallen (suc loop.1) loop.0 loop.0 loop.2 in omega arith

  pub loop_of_step : (marks : List Bool) (from to : ℕ) → E from to → ((a : ℕ) → IsMarked marks a → a ≡ to) → IsReachedFrom E (IsMarked marks) from → HasLoop E
  loop_of_step marks from to step one reached =
      (from, reached.2, (reached.0, subst (λ k. E from k) (sym (one reached.0 reached.1)) step, reached.3))

-- one place more of a row whose rank is below
pub below_more : (ranks row : List ℕ) (rank i : ℕ) → get_or ranks (get_or row i 0) 0 < rank → ((k : ℕ) → k < i → get_or ranks (get_or row k 0) 0 < rank)
    → (k : ℕ) → k < i + 1 → get_or ranks (get_or row k 0) 0 < rank
below_more ranks row rank i here before k lt = elim (cases_lt k i) [
  | inl below ↦ before k below
  | inr above ↦ let same : i ≡ k = omega arith in subst (λ j. get_or ranks (get_or row j 0) 0 < rank) same here
]

-- one row more whose steps lead to lower ranks
pub falls_more : (rows : List (List ℕ)) (ranks row : List ℕ) (i : ℕ) → slice_get rows i ≡ Some row → ((b : ℕ) → Contains row b → get_or ranks b 0 < get_or ranks i 0)
    → ((a b : ℕ) → a < i → HasEdge rows a b → get_or ranks b 0 < get_or ranks a 0) → (a b : ℕ) → a < i + 1 → HasEdge rows a b → get_or ranks b 0 < get_or ranks a 0
falls_more rows ranks row i at over before a b lt edge = elim (cases_lt a i) [
  | inl below ↦ before a b below edge
  | inr above ↦
      let here : a ≡ i = omega arith in
      let row_is : edge.0 ≡ row = cc in
      subst (λ k. get_or ranks b 0 < get_or ranks k 0) (sym here) (over b (subst (λ r. Contains r b) row_is edge.2))
]

-- one place more of a row is marked
module _ (row : List ℕ) (old marks : List Bool) (i : ℕ) (inside : i < length row) (within : get_or row i 0 < length marks)
    (before : (b : ℕ) → IsMarked marks b ↔ (IsMarked old b ⊎ ((j : ℕ) × (j < i) × (get_or row j b ≡ b)))) where
  marked_here : (b : ℕ) → get_or row i 0 ≡ b → IsMarked (slice_set marks (get_or row i 0) true) b ↔ (IsMarked old b ⊎ ((j : ℕ) × (j < i + 1) × (get_or row j b ≡ b)))
  marked_here b here = (
    λ _. inr (i, omega arith, get_or_default row i b 0 inside ∙ here),
    λ _. get_or-set_at marks (get_or row i 0) b true false (sym here) within,
  )

  marked_there : (b : ℕ) → (b ≡ get_or row i 0 → ⊥) → IsMarked (slice_set marks (get_or row i 0) true) b ↔ (IsMarked old b ⊎ ((j : ℕ) × (j < i + 1) × (get_or row j b ≡ b)))
  marked_there b other =
      let same = get_or-set_other marks (get_or row i 0) b true false other in (
        λ marked. elim ((before b).0 (sym same ∙ marked)) [
          | inl was ↦ inl was
          | inr found ↦ inr (found.0, omega (arith, found.1), found.2)
        ],
        λ either. same ∙ (before b).1 (elim either [
          | inl was ↦ inl was
          | inr found ↦ elim (cases_lt found.0 i) [
            | inl below ↦ inr (found.0, below, found.2)
            | inr above ↦
                let at : found.0 ≡ i = omega (arith, found.1, above) in
                absurd (other (sym found.2 ∙ subst (λ k. get_or row k b ≡ get_or row i 0) (sym at) (get_or_default row i b 0 inside)))
          ]
        ]),
      )

  pub marked_more : (b : ℕ) → IsMarked (slice_set marks (get_or row i 0) true) b ↔ (IsMarked old b ⊎ ((j : ℕ) × (j < i + 1) × (get_or row j b ≡ b)))
  marked_more b = elim (cases_eq (get_or row i 0) b) [
    | inl here ↦ marked_here b here
    | inr other ↦ marked_there b (λ e. other (sym e))
  ]
