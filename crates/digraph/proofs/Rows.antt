-- A round over rows of numbers, and what heights say of loops and long paths.
use Rattle.std.proofs.Common.{◌≡◌, ◌↔◌, ℕ, zero, suc, ◌+◌, ◌<◌, ◌≤◌, List, [], ◌∷◌, ◌++◌, length, get_or, slice_get, Some, All, sym, ◌∙◌, subst, inl, inr, replicate, arith}
use Rattle.std.specs.List.{Contains}
use Rattle.std.proofs.lemmas.List.{get_or_push, get_or_append_left, get_or-replicate, length-replicate, get_or_past, length-append}
use Rattle.std.proofs.lemmas.List.Elements.{All-contains, All-get_or}
use Rattle.std.proofs.lemmas.Option.{slice_get_within, get_or_from_slice_get}
use Rattle.std.proofs.lemmas.Bool.{cases_lt}
use Rattle.digraph.specs.Paths.{HasPath, HasLoop, IsDeeper}
use Rattle.digraph.specs.Heights.{AreHeights}
use Rattle.digraph.specs.Edges.{HasEdge, AreWithin}
use Rattle.digraph.proofs.Walks.{path_front, paths_of_loop, loop_of_path, heights_none}

-- one row more has its height
module _ (rows : List (List ℕ)) (heights new row : List ℕ) (i height : ℕ)
    (at : slice_get rows i ≡ Some row) (same : length new ≡ i)
    (over : (b : ℕ) → Contains row b → get_or heights b 0 < height)
    (one : 0 < height → (b : ℕ) × Contains row b × (height ≡ get_or heights b 0 + 1)) where
  pub upper_more : ((a b : ℕ) → a < i → HasEdge rows a b → get_or heights b 0 < get_or new a 0) → (a b : ℕ) → a < i + 1 → HasEdge rows a b → get_or heights b 0 < get_or (new ++ height ∷ []) a 0
  upper_more before a b lt edge = elim (cases_lt a i) [
    | inl below ↦ let within : a < length new = omega arith in rw get_or_append_left (before a b below edge)
    | inr above ↦
        let here : a ≡ i = omega arith in
        let row_is : edge.0 ≡ row = cc in
        let value : get_or (new ++ height ∷ []) a 0 ≡ height = get_or_push new height 0 a (same ∙ sym here) in
        rw value (over b (subst (λ r. Contains r b) row_is edge.2))
  ]

  pub reached_more : ((a : ℕ) → 0 < get_or new a 0 → (b : ℕ) × HasEdge rows a b × (get_or new a 0 ≡ get_or heights b 0 + 1)) → (a : ℕ) → 0 < get_or (new ++ height ∷ []) a 0 → (b : ℕ) × HasEdge rows a b × (get_or (new ++ height ∷ []) a 0 ≡ get_or heights b 0 + 1)
  reached_more before a some = elim (cases_lt a i) [
    | inl below ↦
        let within : a < length new = omega arith in
        let value : get_or (new ++ height ∷ []) a 0 ≡ get_or new a 0 = get_or_append_left new (height ∷ []) 0 a within in
        let r = before a (rw value at some) in
        (r.0, r.1, value ∙ r.2)
    | inr above ↦ elim (cases_lt i a) [
      | inl past ↦
          let none : get_or (new ++ height ∷ []) a 0 ≡ 0 = get_or_past (new ++ height ∷ []) a 0 (omega (arith, length-append new (height ∷ []))) in
          absurd (omega (arith, none, some))
      | inr not_past ↦
          let here : a ≡ i = omega arith in
          let value : get_or (new ++ height ∷ []) a 0 ≡ height = get_or_push new height 0 a (same ∙ sym here) in
          let r = one (rw value at some) in
          (r.0, (row, subst (λ n. slice_get rows n ≡ Some row) (sym here) at, r.1), value ∙ r.2)
    ]
  ]

-- an edge leads from a place of a row to another
pub edge_within : (rows : List (List ℕ)) → AreWithin rows → (a b : ℕ) → HasEdge rows a b → (a < length rows) × (b < length rows)
edge_within rows within a b edge = (
  slice_get_within rows a edge.0 edge.1,
  All-contains (λ c. c < length rows) edge.0 b (subst (All (λ c. c < length rows)) (get_or_from_slice_get rows a edge.0 edge.0 edge.1) (All-get_or (All (λ c. c < length rows)) rows a edge.0 (slice_get_within rows a edge.0 edge.1) within)) edge.2,
)

-- the first step of a path
first_step : (E : ℕ → ℕ → Type 0) (n a : ℕ) → 0 < n → HasPath E n a → (c : ℕ) × E a c
first_step E zero a some p = absurd (omega arith)
first_step E (suc n) a some p = (p.1.0, p.1.1)

zero_of : (count a : ℕ) → get_or {A = ℕ} (replicate count 0) a 0 ≡ 0
zero_of count a = elim (cases_lt a count) [
  | inl lt ↦ get_or-replicate count a 0 0 lt
  | inr ge ↦ get_or_past (replicate count 0) a 0 (omega (arith, length-replicate {A = ℕ} count 0))
]

module _ (rows : List (List ℕ)) where
  pub is_path : (heights : List ℕ) (steps : ℕ) → AreHeights (HasEdge rows) steps (λ k. get_or heights k 0) → ((a : ℕ) × (steps ≤ get_or heights a 0)) ↔ ((a : ℕ) × HasPath (HasEdge rows) steps a)
  is_path heights steps are = (
    λ some. (some.0, ((are some.0 steps).0 some.1).1),
    λ path. (path.0, (are path.0 steps).1 (omega arith, path.1)),
  )

  pub is_deeper : (most : ℕ) → ((a : ℕ) × HasPath (HasEdge rows) (most + 1) a) ↔ IsDeeper (HasEdge rows) most
  is_deeper most = (
    λ path. (most + 1, path.0, omega arith, path.1),
    λ deep. (deep.1, path_front (HasEdge rows) deep.0 (most + 1) deep.1 (omega (arith, deep.2)) deep.3),
  )

  pub is_loop : AreWithin rows → 0 < length rows → ((a : ℕ) × HasPath (HasEdge rows) (length rows) a) ↔ HasLoop (HasEdge rows)
  is_loop within some = (
    λ path. loop_of_path (HasEdge rows) (length rows) (edge_within rows within) path.0 (let e = first_step (HasEdge rows) (length rows) path.0 some path.1 in (edge_within rows within path.0 e.0 e.1).0) path.1,
    λ loop. (loop.0, paths_of_loop (HasEdge rows) loop (length rows)),
  )

  pub zeros_are : (count : ℕ) → AreHeights (HasEdge rows) 0 (λ k. get_or (replicate count 0) k 0)
  zeros_are count a n =
      let h = heights_none (HasEdge rows) a n in
      let e : get_or {A = ℕ} (replicate count 0) a 0 ≡ 0 = zero_of count a in
      rw e h
