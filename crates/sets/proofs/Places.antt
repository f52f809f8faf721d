-- How elements in order stand beside one another and beside a fact.
use Rattle.std.proofs.Common.{Ordering, Less, Equal, Greater, ◌≡◌, ◌≢◌, ℕ, ◌+◌, ◌<◌, ◌≤◌, List, [], ◌∷◌, Vec, Global, false, slice_index_or, refl, sym, ap, ◌∙◌, subst, inl, inr, arith}
use Rattle.std.proofs.lemmas.Bool.{false≢true, cases_lt}
use Rattle.std.proofs.lemmas.Cmp.{nat_list_cmp_total, tied_back, tied_itself, alike_right}
use Rattle.std.specs.Cmp.Lexicographic.{slice_cmp}
use Rattle.std.specs.Ordering.{nat_cmp, is_lt, ordering_reverse}
use Rattle.sets.specs.declared.element.Range.{Range}
use Rattle.sets.specs.declared.element.Element.{Element}
use Rattle.sets.specs.Intervals.{IsBelow, IsApart, StandsBesideElement}
use Rattle.sets.specs.Joining.{IsJoined}
use Rattle.sets.specs.Members.{Fact, IsIn, Share}
use Rattle.sets.specs.Order.{place_of, is_before}
use Rattle.sets.proofs.Keys.{ranges_share, names_share}
use Rattle.sets.proofs.Sorted.{not_less, neither_less}

rises : (a b : List ℕ) (o : Ordering) → slice_cmp nat_cmp a b ≡ o → is_lt (slice_cmp nat_cmp b a) ≡ false → a ≢ b → o ≡ Less
rises a b Less e h ne = refl
rises a b Equal e h ne = absurd (ne (neither_less a b (ap is_lt e) h))
rises a b Greater e h ne = absurd (false≢true (sym h ∙ ap is_lt (nat_list_cmp_total.antisymm b a ∙ ap ordering_reverse e)))

-- of two names, neither before the other in order, the first stands before the second unless they are the same
pub names_rise : (a b : List ℕ) → is_lt (slice_cmp nat_cmp b a) ≡ false → a ≢ b → slice_cmp nat_cmp a b ≡ Less
names_rise a b h ne = rises a b (slice_cmp nat_cmp a b) refl h ne

same_name : (a b : List ℕ) → Equal ≡ slice_cmp nat_cmp a b → a ≡ b
same_name a b e = neither_less a b (ap is_lt (sym e)) (ap is_lt (tied_back nat_list_cmp_total a b (sym e)))

equal_itself : (a b : List ℕ) → a ≡ b → slice_cmp nat_cmp a b ≡ Equal
equal_itself a b e = subst (λ c. slice_cmp nat_cmp a c ≡ Equal) e (tied_itself nat_list_cmp_total a)

turned : (a b : List ℕ) → slice_cmp nat_cmp a b ≡ Less → slice_cmp nat_cmp b a ≡ Greater
turned a b e = nat_list_cmp_total.antisymm b a ∙ ap ordering_reverse e

pub in_where_equal : (f : Fact) (m : Element) → StandsBesideElement Equal f m → IsIn f m
unfolding StandsBesideElement IsIn
in_where_equal (Fact.Number n) (Element.Numbers r) h = h
in_where_equal (Fact.Number n) (Element.Name own) h = cc
in_where_equal (Fact.Name n) (Element.Numbers r) h = cc
in_where_equal (Fact.Name n) (Element.Name own) h = same_name n own.items h

pub not_where_less : (f : Fact) (m : Element) → StandsBesideElement Less f m → ¬ IsIn f m
unfolding StandsBesideElement IsIn
not_where_less (Fact.Number n) (Element.Numbers r) h i = let from = i.from in absurd (omega arith)
not_where_less (Fact.Number n) (Element.Name own) h i = i
not_where_less (Fact.Name n) (Element.Numbers r) h i = i
not_where_less (Fact.Name n) (Element.Name own) h i = let e = equal_itself n own.items i in cc

pub not_where_greater : (f : Fact) (m : Element) → StandsBesideElement Greater f m → ¬ IsIn f m
unfolding StandsBesideElement IsIn
not_where_greater (Fact.Number n) (Element.Numbers r) h i = let to = i.to in absurd (omega arith)
not_where_greater (Fact.Number n) (Element.Name own) h i = i
not_where_greater (Fact.Name n) (Element.Numbers r) h i = i
not_where_greater (Fact.Name n) (Element.Name own) h i = let e = equal_itself n own.items i in cc

-- what stands behind an element lies in none that is below it
pub not_below : (f : Fact) (k m : Element) → IsBelow k m → StandsBesideElement Greater f m → ¬ IsIn f k
unfolding StandsBesideElement IsIn IsBelow
not_below (Fact.Number n) (Element.Numbers a) (Element.Numbers b) below h i = let to = i.to in let up = b.rises in absurd (omega arith)
not_below (Fact.Number n) (Element.Numbers a) (Element.Name b) below h i = cc
not_below (Fact.Number n) (Element.Name a) m below h i = i
not_below (Fact.Name w) (Element.Numbers a) m below h i = i
not_below (Fact.Name w) (Element.Name a) (Element.Numbers b) below h i = below
not_below (Fact.Name w) (Element.Name a) (Element.Name b) below h i =
    let e : slice_cmp nat_cmp w b.items ≡ slice_cmp nat_cmp a.items b.items = ap (λ x. slice_cmp nat_cmp x b.items) i in
    cc

-- what stands before an element lies in none that it is below
pub not_above : (f : Fact) (m k : Element) → IsBelow m k → StandsBesideElement Less f m → ¬ IsIn f k
unfolding StandsBesideElement IsIn IsBelow
not_above (Fact.Number n) (Element.Numbers a) (Element.Numbers b) below h i = let from = i.from in let up = a.rises in absurd (omega arith)
not_above (Fact.Number n) m (Element.Name b) below h i = i
not_above (Fact.Number n) (Element.Name a) (Element.Numbers b) below h i = below
not_above (Fact.Name w) m (Element.Numbers b) below h i = i
not_above (Fact.Name w) (Element.Numbers a) (Element.Name b) below h i = cc
not_above (Fact.Name w) (Element.Name a) (Element.Name b) below h i =
    let e : slice_cmp nat_cmp w a.items ≡ slice_cmp nat_cmp b.items a.items = ap (λ x. slice_cmp nat_cmp x a.items) i in
    let t = turned a.items b.items below in
    cc

-- of two elements in order that share nothing the first is below the second
pub below_unless_shared : (k m : Element) → is_before m k ≡ false → ¬ Share k m → IsBelow k m
unfolding place_of IsBelow
below_unless_shared (Element.Numbers a) (Element.Numbers b) h apart =
    let up = not_less b.low a.low h in
    elim (cases_lt a.high b.low) [
      | inl lt ↦ lt
      | inr le ↦ let rises = b.rises in absurd (apart (ranges_share a b (omega arith) le))
    ]
below_unless_shared (Element.Numbers a) (Element.Name b) h apart = tt
below_unless_shared (Element.Name a) (Element.Numbers b) h apart = absurd (false≢true (sym h))
below_unless_shared (Element.Name a) (Element.Name b) h apart = names_rise a.items b.items h (λ e. apart (names_share a b e))

pub below_where_apart : (k m : Element) → IsApart k m → IsBelow k m
unfolding IsApart IsBelow
below_where_apart (Element.Numbers a) (Element.Numbers b) h = omega arith
below_where_apart (Element.Numbers a) (Element.Name b) h = tt
below_where_apart (Element.Name a) (Element.Numbers b) h = h
below_where_apart (Element.Name a) (Element.Name b) h = h

kinds : (xs ys : List ℕ) → (0 ∷ xs) ≢ (1 ∷ ys)
kinds xs ys p = let e : slice_index_or (0 ∷ xs) 0 0 ≡ slice_index_or (1 ∷ ys) 0 0 = ap (λ zs. slice_index_or zs 0 0) p in absurd (omega arith)

-- what an element is apart from, it is apart from each that begins there
pub apart_same : (e k m : Element) → place_of m ≡ place_of k → IsApart e k → IsApart e m
unfolding place_of IsApart
apart_same (Element.Numbers e) (Element.Numbers k) (Element.Numbers m) p h = let low : m.low ≡ k.low = cc in omega arith
apart_same (Element.Numbers e) k (Element.Name m) p h = tt
apart_same (Element.Numbers e) (Element.Name k) (Element.Numbers m) p h = absurd (kinds _ _ p)
apart_same (Element.Name e) (Element.Numbers k) m p h = absurd h
apart_same (Element.Name e) (Element.Name k) (Element.Numbers m) p h = absurd (kinds _ _ p)
apart_same (Element.Name e) (Element.Name k) (Element.Name m) p h = let same : m.items ≡ k.items = cc in rw same h

-- and from each that stands behind it
pub apart_later : (e k m : Element) → is_before m k ≡ false → IsApart e k → IsApart e m
unfolding place_of IsApart
apart_later (Element.Numbers e) (Element.Numbers k) (Element.Numbers m) b h = let up = not_less m.low k.low b in omega arith
apart_later (Element.Numbers e) k (Element.Name m) b h = tt
apart_later (Element.Numbers e) (Element.Name k) (Element.Numbers m) b h = absurd (false≢true (sym b))
apart_later (Element.Name e) (Element.Numbers k) m b h = absurd h
apart_later (Element.Name e) (Element.Name k) (Element.Numbers m) b h = absurd (false≢true (sym b))
apart_later (Element.Name e) (Element.Name k) (Element.Name m) b h = later e.items k.items m.items (slice_cmp nat_cmp m.items k.items) refl b h
  where
    later : (e k m : List ℕ) (o : Ordering) → slice_cmp nat_cmp m k ≡ o → is_lt (slice_cmp nat_cmp m k) ≡ false → slice_cmp nat_cmp e k ≡ Less → slice_cmp nat_cmp e m ≡ Less
    later e k m Less is b h = absurd (false≢true (sym b ∙ ap is_lt is))
    later e k m Equal is b h = alike_right nat_list_cmp_total m k e is ∙ h
    later e k m Greater is b h = nat_list_cmp_total.trans e k m h (nat_list_cmp_total.antisymm k m ∙ ap ordering_reverse is)

-- two ranges that touch are one
pub ranges_joined : (a b r : Range) → is_before (Element.Numbers b) (Element.Numbers a) ≡ false → b.low ≤ a.high + 1
    → r.low ≡ a.low → a.high ≤ r.high → b.high ≤ r.high → (a.high < r.high → r.high ≡ b.high) → IsJoined (Element.Numbers a) (Element.Numbers b) (Element.Numbers r)
unfolding place_of IsIn
ranges_joined a b r h touch low end later within =
    let up = not_less b.low a.low h in
    record {
      begins = ap (λ n. 0 ∷ n ∷ []) low;
      holds = elim [
        | Fact.Number n ↦ (
          λ i.
              let from = i.from in
              let to = i.to in
              elim (cases_lt a.high n) [
                | inl lt ↦ let last = within (omega arith) in inr (record { from = omega arith; to = omega arith })
                | inr le ↦ inl (record { from = omega arith; to = le })
              ],
          elim [
            | inl i ↦ let from = i.from in let to = i.to in record { from = omega arith; to = omega arith }
            | inr i ↦ let from = i.from in let to = i.to in record { from = omega arith; to = omega arith }
          ],
        )
        | Fact.Name w ↦ (λ i. absurd i, elim [ inl i ↦ i | inr i ↦ i ])
      ];
    }

-- a name that comes again is one
pub names_joined : (a b : Vec ℕ Global) → a.items ≡ b.items → IsJoined (Element.Name a) (Element.Name b) (Element.Name a)
unfolding IsIn
names_joined a b same = record {
  begins = refl;
  holds = elim [
    | Fact.Number n ↦ (λ i. absurd i, elim [ inl i ↦ i | inr i ↦ i ])
    | Fact.Name w ↦ (λ i. inl i, elim [ inl i ↦ i | inr i ↦ i ∙ sym same ])
  ];
}
