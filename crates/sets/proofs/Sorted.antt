-- Of keys in order two share a fact only where two neighbours do, and an order of them changes nothing.
use Rattle.std.proofs.Common.{Ordering, Less, Equal, Greater, ◌≡◌, ◌≢◌, ◌↔◌, ◌⊎◌, ℕ, zero, suc, ◌<◌, ◌≤◌, List, [], ◌∷◌, length, slice_index_or, cond, eqb, false, refl, sym, ap, ◌∙◌, subst, inl, inr, arith}
use Rattle.std.proofs.lemmas.Bool.{cases_lt, cases_eq, eq-eqb, ne_eqb, false≢true}
use Rattle.std.proofs.lemmas.Cmp.{nat_cmp_total, nat_list_cmp_total, ranked, by_ranked, tied_back}
use Rattle.std.proofs.lemmas.List.Sorted.{ranks_by, sorted_far, IsPermutation-keeps, IsPermutation-sym, Contains-permutation}
use Rattle.std.proofs.lemmas.List.Edits.{swapped_from_swap, length-swap}
use Rattle.std.specs.Cmp.{IsStrictWeakOrder}
use Rattle.std.specs.Cmp.Lexicographic.{slice_cmp}
use Rattle.std.specs.List.{swap}
use Rattle.std.specs.List.Sorted.{IsPermutation, IsSortedBy}
use Rattle.std.specs.Ordering.{nat_cmp, is_lt, ordering_then, ordering_reverse}
use Rattle.sets.specs.declared.element.Element.{Element}
use Rattle.sets.specs.declared.element.Pair.{Pair}
use Rattle.sets.specs.Members.{Fact, Share, MapsTo, Overlaps}
use Rattle.sets.specs.Order.{place_of, is_before, is_key_before}
use Rattle.sets.proofs.Keys.{ranges_share, share_ranges, names_share, share_names, kinds_differ, kinds_differ_too}

pub keys_ordered : {V : Type 0} → IsStrictWeakOrder {X = Pair V} is_key_before
keys_ordered = ranks_by nat_list_cmp_total (λ pair. place_of pair.key)

pub then_equal : (o : Ordering) → ordering_then o Equal ≡ o
then_equal Less = refl
then_equal Equal = refl
then_equal Greater = refl

pub not_less : (x y : ℕ) → is_lt (ordering_then (nat_cmp x y) Equal) ≡ false → y ≤ x
not_less x y h = by_ranked (x < y) (x ≡ y) (y < x) (nat_cmp x y) (ranked x y _ refl)
    (λ e lt. absurd (false≢true (sym h ∙ ap (λ o. is_lt (ordering_then o Equal)) e)))
    (λ e eq. omega arith)
    (λ e gt. omega arith)

-- lists of which none stands before the other are the same
pub neither_less : (xs ys : List ℕ) → is_lt (slice_cmp nat_cmp xs ys) ≡ false → is_lt (slice_cmp nat_cmp ys xs) ≡ false → xs ≡ ys
neither_less [] [] h k = refl
neither_less [] (y ∷ ys) h k = absurd (false≢true (sym h))
neither_less (x ∷ xs) [] h k = absurd (false≢true (sym k))
neither_less (x ∷ xs) (y ∷ ys) h k = by_ranked (x < y) (x ≡ y) (y < x) (nat_cmp x y) (ranked x y _ refl)
    (λ e lt. absurd (false≢true (sym h ∙ ap (λ o. is_lt (ordering_then o (slice_cmp nat_cmp xs ys))) e)))
    (λ e eq.
    let first : is_lt (slice_cmp nat_cmp xs ys) ≡ false = subst (λ o. is_lt (ordering_then o (slice_cmp nat_cmp xs ys)) ≡ false) e h in
    let second : is_lt (slice_cmp nat_cmp ys xs) ≡ false = subst (λ o. is_lt (ordering_then o (slice_cmp nat_cmp ys xs)) ≡ false) (tied_back nat_cmp_total x y e) k in
    let rest : xs ≡ ys = neither_less xs ys first second in
    cc)
    (λ e gt.
    let less : nat_cmp y x ≡ Less = nat_cmp_total.antisymm y x ∙ ap ordering_reverse e in
    absurd (false≢true (sym k ∙ ap (λ o. is_lt (ordering_then o (slice_cmp nat_cmp ys xs))) less)))

-- what stands between two keys that share a fact shares one with the first
between : (a b c : Element) → is_before b a ≡ false → is_before c b ≡ false → Share a c → Share a b
unfolding place_of
between (Element.Numbers a) (Element.Numbers b) (Element.Numbers c) h k s =
    let both = share_ranges a c s in
    let first = not_less b.low a.low h in
    let second = not_less c.low b.low k in
    let rises = b.rises in
    ranges_share a b (omega arith) (omega arith)
between (Element.Numbers a) (Element.Name b) (Element.Numbers c) h k s = absurd (false≢true (sym k))
between (Element.Numbers a) b (Element.Name c) h k s = absurd (kinds_differ a c s)
between (Element.Name a) b (Element.Numbers c) h k s = absurd (kinds_differ_too c a s)
between (Element.Name a) (Element.Numbers b) (Element.Name c) h k s = absurd (false≢true (sym h))
between (Element.Name a) (Element.Name b) (Element.Name c) h k s =
    let e = share_names a c s in
    names_share a b (neither_less a.items b.items (subst (λ xs. is_lt (slice_cmp nat_cmp xs b.items) ≡ false) (sym e) k) h)

share_sym : (a b : Element) → Share a b → Share b a
unfolding Share
share_sym a b (fact, p, q) = (fact, q, p)

-- where a swap puts an element
abbrev moved : ℕ → ℕ → ℕ → ℕ
moved a b i = cond (eqb i a) b (cond (eqb i b) a i)

moved_cases : (a b i : ℕ) → ((i ≡ a) × (moved a b i ≡ b)) ⊎ (((i ≢ a) × (i ≡ b) × (moved a b i ≡ a)) ⊎ ((i ≢ a) × (i ≢ b) × (moved a b i ≡ i)))
moved_cases a b i = elim (cases_eq i a) [
  | inl e ↦ inl (e, rw (eq-eqb i a e) refl)
  | inr na ↦ inr (elim (cases_eq i b) [
    | inl e ↦ inl (na, e, rw (ne_eqb i a na, eq-eqb i b e) refl)
    | inr nb ↦ inr (na, nb, rw (ne_eqb i a na, ne_eqb i b nb) refl)
  ])
]

apart_of : (a b i j x y : ℕ) → i ≢ j → x ≡ y
    → ((i ≡ a) × (x ≡ b)) ⊎ (((i ≢ a) × (i ≡ b) × (x ≡ a)) ⊎ ((i ≢ a) × (i ≢ b) × (x ≡ i)))
    → ((j ≡ a) × (y ≡ b)) ⊎ (((j ≢ a) × (j ≡ b) × (y ≡ a)) ⊎ ((j ≢ a) × (j ≢ b) × (y ≡ j))) → ⊥
apart_of a b i j x y ne e p q = ne (grind arith)

moved_apart : (a b i j : ℕ) → i ≢ j → moved a b i ≢ moved a b j
moved_apart a b i j ne e = apart_of a b i j (moved a b i) (moved a b j) ne e (moved_cases a b i) (moved_cases a b j)

moved_below : (a b i n : ℕ) → a < n → b < n → i < n → moved a b i < n
moved_below a b i n la lb li = elim (moved_cases a b i) [
  | inl (e, m) ↦ rw m lb
  | inr (inl (na, e, m)) ↦ rw m la
  | inr (inr (na, nb, m)) ↦ rw m li
]

pub same_in_range : {X : Type 0} (xs : List X) (k : ℕ) (d e : X) → k < length xs → slice_index_or xs k d ≡ slice_index_or xs k e
same_in_range [] k d e lt = absurd (omega arith)
same_in_range (x ∷ xs) zero d e lt = refl
same_in_range (x ∷ xs) (suc k) d e lt = same_in_range xs k d e (omega arith)

module _ {V : Type 0} where
  -- where two keys share a fact
  places : (xs : List (Pair V)) → Overlaps xs
      → (i j : ℕ) × (p q : Pair V) × (i < j) × (j < length xs) × (slice_index_or xs i p ≡ p) × (slice_index_or xs j q ≡ q) × Share p.key q.key
  places [] o = absurd o
  places (x ∷ xs) (inl (k, q, lt, is, s)) = (0, suc k, x, q, omega arith, omega arith, refl, is, s)
  places (x ∷ xs) (inr o) = let (i, j, p, q, lt, lj, pi, qj, s) = places xs o in (suc i, suc j, p, q, omega arith, omega arith, pi, qj, s)

  pub at_places : (xs : List (Pair V)) (i j : ℕ) (p q : Pair V) → i < j → j < length xs → slice_index_or xs i p ≡ p → slice_index_or xs j q ≡ q → Share p.key q.key → Overlaps xs
  at_places [] i j p q lt lj pi qj s = absurd (omega arith)
  at_places (x ∷ xs) i zero p q lt lj pi qj s = absurd (omega arith)
  at_places (x ∷ xs) zero (suc j) p q lt lj pi qj s = inl (j, q, omega arith, qj, subst (λ (y : Pair V). Share y.key q.key) (sym pi) s)
  at_places (x ∷ xs) (suc i) (suc j) p q lt lj pi qj s = inr (at_places xs i j p q (omega arith) (omega arith) pi qj s)

  at_two : (xs : List (Pair V)) (i j : ℕ) (p q : Pair V) → i ≢ j → i < length xs → j < length xs → slice_index_or xs i p ≡ p → slice_index_or xs j q ≡ q → Share p.key q.key → Overlaps xs
  at_two xs i j p q ne li lj pi qj s = elim (cases_lt i j) [
    | inl lt ↦ at_places xs i j p q lt lj pi qj s
    | inr ge ↦ at_places xs j i q p (omega arith) li qj pi (share_sym p.key q.key s)
  ]

  swapped_at : (xs : List (Pair V)) (a b i : ℕ) (p : Pair V) → a < length xs → b < length xs → slice_index_or xs i p ≡ p → slice_index_or (swap xs a b) (moved a b i) p ≡ p
  swapped_at xs a b i p la lb pi =
      let moves = swapped_from_swap xs (swap xs a b) a b p la lb refl in
      elim (moved_cases a b i) [
        | inl (e, m) ↦ rw m (moves.1 ∙ ap (λ k. slice_index_or xs k p) (sym e) ∙ pi)
        | inr (inl (na, e, m)) ↦ rw m (moves.0 ∙ ap (λ k. slice_index_or xs k p) (sym e) ∙ pi)
        | inr (inr (na, nb, m)) ↦ rw m (moves.2 i na nb ∙ pi)
      ]

  overlaps_swapped : (xs : List (Pair V)) (a b : ℕ) → a < length xs → b < length xs → Overlaps xs → Overlaps (swap xs a b)
  overlaps_swapped xs a b la lb o =
      let (i, j, p, q, lt, lj, pi, qj, s) = places xs o in
      let n = length-swap xs a b in
      at_two (swap xs a b) (moved a b i) (moved a b j) p q (moved_apart a b i j (omega arith))
      (rw n (moved_below a b i (length xs) la lb (omega arith))) (rw n (moved_below a b j (length xs) la lb lj))
      (swapped_at xs a b i p la lb pi) (swapped_at xs a b j q la lb qj) s

  -- an order of the keys changes nothing
  pub overlaps_permuted : (xs ys : List (Pair V)) → IsPermutation xs ys → Overlaps xs ↔ Overlaps ys
  overlaps_permuted xs ys h = (
    λ o. IsPermutation-keeps xs Overlaps o overlaps_swapped ys h,
    λ o. IsPermutation-keeps ys Overlaps o overlaps_swapped xs (IsPermutation-sym xs ys h),
  )

  leads_more : (fact : Fact) (verdict : V) (xs ys : List (Pair V)) → IsPermutation xs ys → MapsTo fact verdict xs → MapsTo fact verdict ys
  leads_more fact verdict xs ys h (k, pair, lt, is, holds) =
      let there = Contains-permutation xs ys pair h (k, lt, is) in
      (there.0, pair, there.1, there.2, holds)

  pub leads_permuted : (fact : Fact) (verdict : V) (xs ys : List (Pair V)) → IsPermutation xs ys → MapsTo fact verdict ys ↔ MapsTo fact verdict xs
  leads_permuted fact verdict xs ys h = (leads_more fact verdict ys xs (IsPermutation-sym xs ys h), leads_more fact verdict xs ys h)

  -- no two neighbours share a fact, so no two keys do
  pub apart_from_neighbours : (xs : List (Pair V)) → IsSortedBy is_key_before xs
      → ((k : ℕ) (d : Pair V) → suc k < length xs → ¬ Share (slice_index_or xs k d).key (slice_index_or xs (suc k) d).key) → ¬ Overlaps xs
  apart_from_neighbours xs sorted apart o =
      let (i, j, p, q, lt, lj, pi, qj, s) = places xs o in
      let first = sorted_far is_key_before keys_ordered xs sorted i (suc i) p (omega arith) (omega arith) in
      let second = sorted_far is_key_before keys_ordered xs sorted (suc i) j p (omega arith) lj in
      let shared : Share (slice_index_or xs i p).key (slice_index_or xs j p).key = rw (pi, same_in_range xs j p q lj ∙ qj) s in
      apart i p (omega arith) (between _ _ _ first second shared)

  pub overlap_from_neighbours : (xs : List (Pair V)) (k : ℕ) (p q : Pair V) → suc k < length xs → slice_index_or xs k p ≡ p → slice_index_or xs (suc k) q ≡ q → Share p.key q.key → Overlaps xs
  overlap_from_neighbours xs k p q lt pk qk s = at_places xs k (suc k) p q (omega arith) lt pk qk s
