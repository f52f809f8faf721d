-- What a probe tells of the elements on its other side, and how many probes are left.
use Rattle.std.proofs.Common.{Less, Greater, ◌≡◌, ℕ, zero, suc, ◌+◌, ◌/◌, ◌^◌, ◌<◌, ◌≤◌, List, length, slice_index_or, sym, ap, ◌∙◌, subst, inl, inr, arith}
use Rattle.std.proofs.lemmas.Bool.{cases_eq}
use Rattle.std.proofs.lemmas.List.Sorted.{sorted_far}
use Rattle.std.proofs.Math.Nat.{pow-succ'}
use Rattle.std.specs.List.{AllPairs}
use Rattle.std.specs.List.Sorted.{IsSortedBy}
use Rattle.sets.specs.declared.element.Element.{Element}
use Rattle.sets.specs.declared.element.Pair.{Pair}
use Rattle.sets.specs.Intervals.{IsBelow, StandsBesideElement}
use Rattle.sets.specs.Members.{Fact, IsIn, Overlaps}
use Rattle.sets.specs.Order.{is_key_before}
use Rattle.sets.proofs.Places.{not_where_less, not_where_greater, not_below, not_above, below_unless_shared}
use Rattle.sets.proofs.Sorted.{at_places, keys_ordered, same_in_range}

-- a part of which one is left is halved by one digit
pub halved : (rest left : ℕ) → 0 < left → left < 2 ^ rest → (r : ℕ) × (rest ≡ r + 1) × (left / 2 < 2 ^ r)
halved zero left some lt = absurd (omega arith)
halved (suc r) left some lt = let p = pow-succ' 2 r in (r, omega arith, omega arith)

module _ {X : Type 0} (key : X → Element) (fact : Fact) (row : List X) (rising : AllPairs (λ one next. IsBelow (key one) (key next)) row) where
  -- what stands before an element lies in none from it on
  pub none_behind : (m : ℕ) (one : X) → m < length row → one ≡ slice_index_or row m one → StandsBesideElement Less fact (key one)
      → (k : ℕ) (d : X) → m ≤ k → k < length row → ¬ IsIn fact (key (slice_index_or row k d))
  none_behind m one lm at stands k d le lk i = elim (cases_eq k m) [
    | inl e ↦
        let same : slice_index_or row k d ≡ one = ap (λ n. slice_index_or row n d) e ∙ same_in_range row m d one lm ∙ sym at in
        not_where_less fact (key one) stands (subst (λ x. IsIn fact (key x)) same i)
    | inr ne ↦
        let same : slice_index_or row m d ≡ one = same_in_range row m d one lm ∙ sym at in
        let below : IsBelow (key one) (key (slice_index_or row k d)) = subst (λ x. IsBelow (key x) (key (slice_index_or row k d))) same (rising m k d (omega arith) lk) in
        not_above fact (key one) (key (slice_index_or row k d)) below stands i
  ]

  -- what stands behind an element lies in none up to it
  pub none_before : (m : ℕ) (one : X) → m < length row → one ≡ slice_index_or row m one → StandsBesideElement Greater fact (key one)
      → (k : ℕ) (d : X) → k ≤ m → ¬ IsIn fact (key (slice_index_or row k d))
  none_before m one lm at stands k d le i = elim (cases_eq k m) [
    | inl e ↦
        let same : slice_index_or row k d ≡ one = ap (λ n. slice_index_or row n d) e ∙ same_in_range row m d one lm ∙ sym at in
        not_where_greater fact (key one) stands (subst (λ x. IsIn fact (key x)) same i)
    | inr ne ↦
        let same : slice_index_or row m d ≡ one = same_in_range row m d one lm ∙ sym at in
        let below : IsBelow (key (slice_index_or row k d)) (key one) = subst (λ x. IsBelow (key (slice_index_or row k d)) (key x)) same (rising k m d (omega arith) lm) in
        not_below fact (key (slice_index_or row k d)) (key one) below stands i
  ]

-- keys in order that share nothing stand one below the other
pub keys_rise : {V : Type 0} (pairs : List (Pair V)) → ¬ Overlaps pairs → IsSortedBy is_key_before pairs → AllPairs (λ (one next : Pair V). IsBelow one.key next.key) pairs
keys_rise pairs apart sorted i j d lt lj = below_unless_shared _ _ (sorted_far is_key_before keys_ordered pairs sorted i j d (omega arith) lj)
    (λ s. apart (at_places pairs i j (slice_index_or pairs i d) (slice_index_or pairs j d) lt lj (same_in_range pairs i _ d (omega arith)) (same_in_range pairs j _ d lj) s))
