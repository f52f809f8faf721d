-- Elements that share a fact, and keys that don't.
use Rattle.std.proofs.Common.{◌≡◌, ◌↔◌, ◌⊎◌, ℕ, zero, suc, ◌<◌, ◌≤◌, List, [], ◌∷◌, length, slice_index_or, Vec, Global, Bool, true, false, IsTrue, drop, refl, sym, ap, ◌∙◌, subst, inl, inr, arith}
use Rattle.std.proofs.lemmas.Bool.{cases_lt}
use Rattle.std.specs.Bool.{MatchBool}
use Rattle.std.specs.List.{Any, HoldsAt, AllWithin}
use Rattle.sets.specs.declared.element.Range.{Range}
use Rattle.sets.specs.declared.element.Element.{Element}
use Rattle.sets.specs.declared.element.Pair.{Pair}
use Rattle.sets.specs.Members.{Fact, IsIn, Share, MapsTo, Overlaps}

-- two ranges share a number where neither ends before the other begins
pub ranges_share : (a b : Range) → a.low ≤ b.high → b.low ≤ a.high → Share (Element.Numbers a) (Element.Numbers b)
unfolding Share IsIn
ranges_share a b h k = elim (cases_lt a.low b.low) [
  | inl lt ↦ (Fact.Number b.low, record { from = omega arith; to = k }, record { from = omega arith; to = b.rises })
  | inr le ↦ (Fact.Number a.low, record { from = omega arith; to = a.rises }, record { from = le; to = h })
]

pub share_ranges : (a b : Range) → Share (Element.Numbers a) (Element.Numbers b) → (a.low ≤ b.high) × (b.low ≤ a.high)
unfolding Share IsIn
share_ranges a b (Fact.Number n, p, q) =
    let p0 = p.from in let p1 = p.to in let q0 = q.from in let q1 = q.to in
    (omega arith, omega arith)
share_ranges a b (Fact.Name n, p, q) = absurd p

-- two names share a fact where their bytes are the same
pub names_share : (a b : Vec ℕ Global) → a.items ≡ b.items → Share (Element.Name a) (Element.Name b)
unfolding Share IsIn
names_share a b e = (Fact.Name a.items, refl, e)

pub share_names : (a b : Vec ℕ Global) → Share (Element.Name a) (Element.Name b) → a.items ≡ b.items
unfolding Share IsIn
share_names a b (Fact.Number n, p, q) = absurd p
share_names a b (Fact.Name n, p, q) = sym p ∙ q

-- a range and a name share nothing
pub kinds_differ : (a : Range) (b : Vec ℕ Global) → ¬ Share (Element.Numbers a) (Element.Name b)
unfolding Share IsIn
kinds_differ a b (Fact.Number n, p, q) = absurd q
kinds_differ a b (Fact.Name n, p, q) = absurd p

pub kinds_differ_too : (a : Range) (b : Vec ℕ Global) → ¬ Share (Element.Name b) (Element.Numbers a)
unfolding Share IsIn
kinds_differ_too a b (Fact.Number n, p, q) = absurd p
kinds_differ_too a b (Fact.Name n, p, q) = absurd q

module _ {V : Type 0} (fact : Fact) where
  -- of two keys that hold a fact one is the other
  pub one_key : (pairs : List (Pair V)) → ¬ Overlaps pairs → (i j : ℕ) (p q : Pair V) → i < length pairs → j < length pairs
      → slice_index_or pairs i p ≡ p → slice_index_or pairs j q ≡ q → IsIn fact p.key → IsIn fact q.key → p ≡ q
  unfolding Share
  one_key [] apart i j p q li lj pi qj hp hq = absurd (omega arith)
  one_key (x ∷ xs) apart zero zero p q li lj pi qj hp hq = cc
  one_key (x ∷ xs) apart zero (suc j) p q li lj pi qj hp hq =
      absurd (apart (inl (j, q, omega arith, qj, (fact, subst (λ y. IsIn fact y.key) (sym pi) hp, hq))))
  one_key (x ∷ xs) apart (suc i) zero p q li lj pi qj hp hq =
      absurd (apart (inl (i, p, omega arith, pi, (fact, subst (λ y. IsIn fact y.key) (sym qj) hq, hp))))
  one_key (x ∷ xs) apart (suc i) (suc j) p q li lj pi qj hp hq =
      one_key xs (λ o. apart (inr o)) i j p q (omega arith) (omega arith) pi qj hp hq

  -- the key that holds a fact has the only verdict
  pub only_verdict : (pairs : List (Pair V)) → ¬ Overlaps pairs → (i : ℕ) (p : Pair V) → i < length pairs → slice_index_or pairs i p ≡ p → IsIn fact p.key
      → (other : V) → MapsTo fact other pairs ↔ (other ≡ p.verdict)
  only_verdict pairs apart i p li pi hp other = (
    λ (j, q, lj, qj, (hq, e)). sym e ∙ ap (λ (y : Pair V). y.verdict) (one_key pairs apart j i q p lj li qj pi hq hp),
    λ e. (i, p, li, pi, (hp, sym e)),
  )

item_at : {X : Type 0} (xs : List X) (k : ℕ) → k < length xs → (x : X) × (slice_index_or xs k x ≡ x)
item_at [] k lt = absurd (omega arith)
item_at (x ∷ xs) zero lt = (x, refl)
item_at (x ∷ xs) (suc k) lt = item_at xs k (omega arith)

-- what `any` answered, where the test decides P
pub any_is : {X : Type 0} (P : X → Type 0) (xs : List X) (r : Bool) → MatchBool r ((k : ℕ) × (k < length xs) × HoldsAt P xs k) (AllWithin (λ x. ¬ P x) xs 0 (length xs)) → IsTrue r ↔ Any P xs
any_is P xs true h =
    let item = item_at xs h.0 h.1 in
    (λ t. (h.0, item.0, h.1, item.1, subst P item.1 (h.2 item.0)), λ a. refl)
any_is P xs false h = (λ (t : false ≡ true). cc, λ (k, x, lt, is, p). absurd (h k x (omega arith) lt (subst P (sym is) p)))

-- from some place on two keys share a fact where the key there shares one with a later one, or two later ones do
pub overlaps_from : {V : Type 0} (pairs : List (Pair V)) (k : ℕ) (pair : Pair V) → k < length pairs → slice_index_or pairs k pair ≡ pair
    → Overlaps (drop k pairs) ↔ (Any (λ later. Share pair.key later.key) (drop (suc k) pairs) ⊎ Overlaps (drop (suc k) pairs))
overlaps_from [] k pair lt is = absurd (omega arith)
overlaps_from (x ∷ xs) zero pair lt is = subst (λ y. Overlaps (x ∷ xs) ↔ (Any (λ later. Share y.key later.key) xs ⊎ Overlaps xs)) is (λ o. o, λ o. o)
overlaps_from (x ∷ xs) (suc k) pair lt is = overlaps_from xs k pair (omega arith) is
