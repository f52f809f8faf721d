-- What `dedup_by` leaves of elements in order, where each is joined to the last that touches it.
use Rattle.std.proofs.Common.{◌≡◌, ◌↔◌, ◌⊎◌, ℕ, zero, suc, ◌<◌, ◌≤◌, List, [], ◌∷◌, length, slice_index_or, Bool, true, false, refl, sym, ap, ◌∙◌, subst, inl, inr, arith}
use Rattle.std.specs.Bool.{MatchBool}
use Rattle.std.specs.List.Retain.{DedupsFrom, IsDeduped}
use Rattle.std.specs.List.Sorted.{IsSortedBy}
use Rattle.std.specs.Cmp.{IsStrictWeakOrder}
use Rattle.std.proofs.lemmas.Cmp.{nat_list_cmp_total}
use Rattle.std.proofs.lemmas.List.Sorted.{ranks_by, sorted_far}
use Rattle.std.specs.Cmp.Lexicographic.{slice_cmp}
use Rattle.std.specs.Ordering.{nat_cmp, is_lt}
use Rattle.sets.specs.declared.element.Element.{Element}
use Rattle.sets.specs.Intervals.{IsApart, AreIntervals}
use Rattle.sets.specs.Joining.{IsJoined}
use Rattle.sets.specs.Members.{Fact, IsIn, IsMember}
use Rattle.sets.specs.Order.{place_of, is_before}
use Rattle.sets.proofs.Places.{apart_same, apart_later}

pub elements_ordered : IsStrictWeakOrder is_before
elements_ordered = ranks_by nat_list_cmp_total place_of

-- none of the elements stands before the one
abbrev NoneBefore : Element → List Element → Type 0
NoneBefore one [] = Unit {0}
NoneBefore one (x ∷ xs) = (is_before x one ≡ false) × NoneBefore one xs

abbrev Rise : List Element → Type 0
Rise [] = Unit {0}
Rise (x ∷ xs) = NoneBefore x xs × Rise xs

abbrev ApartFromAll : Element → List Element → Type 0
ApartFromAll one [] = Unit {0}
ApartFromAll one (x ∷ xs) = IsApart one x × ApartFromAll one xs

abbrev AllApart : List Element → Type 0
AllApart [] = Unit {0}
AllApart (x ∷ xs) = ApartFromAll x xs × AllApart xs

abbrev Holds : Fact → List Element → Type 0
Holds fact [] = ⊥
Holds fact (x ∷ xs) = IsIn fact x ⊎ Holds fact xs

none_before : (one : Element) (xs : List Element) → ((j : ℕ) (d : Element) → j < length xs → is_before (slice_index_or xs j d) one ≡ false) → NoneBefore one xs
none_before one [] h = tt
none_before one (x ∷ xs) h = (h 0 x (omega arith), none_before one xs (λ j d lt. h (suc j) d (omega arith)))

rise_by : (xs : List Element) → ((i j : ℕ) (d : Element) → i ≤ j → j < length xs → is_before (slice_index_or xs j d) (slice_index_or xs i d) ≡ false) → Rise xs
rise_by [] h = tt
rise_by (x ∷ xs) h = (none_before x xs (λ j d lt. h 0 (suc j) d (omega arith) (omega arith)), rise_by xs (λ i j d le lt. h (suc i) (suc j) d (omega arith) (omega arith)))

rise : (xs : List Element) → IsSortedBy is_before xs → Rise xs
rise xs sorted = rise_by xs (λ i j d le lt. sorted_far is_before elements_ordered xs sorted i j d le lt)

none_before_same : (k m : Element) (xs : List Element) → place_of m ≡ place_of k → NoneBefore k xs → NoneBefore m xs
none_before_same k m [] e h = tt
none_before_same k m (x ∷ xs) e h = (ap (λ p. is_lt (slice_cmp nat_cmp (place_of x) p)) e ∙ h.0, none_before_same k m xs e h.1)

apart_from_at : (one : Element) (ys : List Element) → ApartFromAll one ys → (j : ℕ) (d : Element) → j < length ys → IsApart one (slice_index_or ys j d)
apart_from_at one [] h j d lt = absurd (omega arith)
apart_from_at one (y ∷ ys) h zero d lt = h.0
apart_from_at one (y ∷ ys) h (suc j) d lt = apart_from_at one ys h.1 j d (omega arith)

intervals_of : (ys : List Element) → AllApart ys → AreIntervals ys
intervals_of [] h i j d lt lj = absurd (omega arith)
intervals_of (y ∷ ys) h i zero d lt lj = absurd (omega arith)
intervals_of (y ∷ ys) h zero (suc j) d lt lj = apart_from_at y ys h.0 j d (omega arith)
intervals_of (y ∷ ys) h (suc i) (suc j) d lt lj = intervals_of ys h.1 i j d (omega arith) (omega arith)

holds_of : (fact : Fact) (xs : List Element) → IsMember fact xs → Holds fact xs
holds_of fact [] (k, x, lt, is, p) = absurd (omega arith)
holds_of fact (y ∷ ys) (zero, x, lt, is, p) = inl (subst (λ e. IsIn fact e) (sym is) p)
holds_of fact (y ∷ ys) (suc k, x, lt, is, p) = inr (holds_of fact ys (k, x, omega arith, is, p))

member_of : (fact : Fact) (xs : List Element) → Holds fact xs → IsMember fact xs
member_of fact [] h = absurd h
member_of fact (x ∷ xs) (inl i) = (0, x, omega arith, refl, i)
member_of fact (x ∷ xs) (inr h) = let (k, y, lt, is, p) = member_of fact xs h in (suc k, y, omega arith, is, p)

-- what a call says of the later element, the last one kept, and these as it left them
abbrev pub Told : Element → Element → Bool → Element → Element → Type 0
Told x k b x' k' = (x' ≡ x) × (is_before x k ≡ false → MatchBool b (IsJoined k x k') (IsApart k x × (k' ≡ k)))

module _ {F : Type 0} (R : F → Element → Element → Bool → F → Element → Element → Type 0)
    (told : (f : F) (x k : Element) (b : Bool) (f' : F) (x' k' : Element) → R f x k b f' x' k' → Told x k b x' k') where
  -- what an element is apart from, it stays apart from
  apart_kept : (e : Element) (f : F) (k : Element) (xs ys : List Element) → NoneBefore k xs → Rise xs → DedupsFrom R f k xs ys → IsApart e k → ApartFromAll e ys
  apart_kept e f k [] ys none up d h = subst (ApartFromAll e) (sym d) (h, tt)
  apart_kept e f k (x ∷ xs) ys none up (true, f', x', k', r, d) h =
      let joined = (told f x k true f' x' k' r).1 none.0 in
      apart_kept e f' k' xs ys (none_before_same k k' xs joined.begins none.1) up.1 d (apart_same e k k' joined.begins h)
  apart_kept e f k (x ∷ xs) ys none up (false, f', x', k', r, (zs, d, is)) h =
      let same = (told f x k false f' x' k' r).0 in
      let stays = (told f x k false f' x' k' r).1 none.0 in
      let behind : DedupsFrom R f' x xs zs = subst (λ y. DedupsFrom R f' y xs zs) same d in
      let later = apart_kept e f' x xs zs up.0 up.1 behind (apart_later e k x none.0 h) in
      subst (ApartFromAll e) (sym is) (subst (λ y. IsApart e y) (sym stays.1) h, later)

  all_apart : (f : F) (k : Element) (xs ys : List Element) → NoneBefore k xs → Rise xs → DedupsFrom R f k xs ys → AllApart ys
  all_apart f k [] ys none up d = subst AllApart (sym d) (tt, tt)
  all_apart f k (x ∷ xs) ys none up (true, f', x', k', r, d) =
      let joined = (told f x k true f' x' k' r).1 none.0 in
      all_apart f' k' xs ys (none_before_same k k' xs joined.begins none.1) up.1 d
  all_apart f k (x ∷ xs) ys none up (false, f', x', k', r, (zs, d, is)) =
      let same = (told f x k false f' x' k' r).0 in
      let stays = (told f x k false f' x' k' r).1 none.0 in
      let behind : DedupsFrom R f' x xs zs = subst (λ y. DedupsFrom R f' y xs zs) same d in
      let apart : IsApart k' x = subst (λ y. IsApart y x) (sym stays.1) stays.0 in
      subst AllApart (sym is) (apart_kept k' f' x xs zs up.0 up.1 behind apart, all_apart f' x xs zs up.0 up.1 behind)

  same_held : (fact : Fact) (f : F) (k : Element) (xs ys : List Element) → NoneBefore k xs → Rise xs → DedupsFrom R f k xs ys → Holds fact ys ↔ (IsIn fact k ⊎ Holds fact xs)
  same_held fact f k [] ys none up d = subst (λ l. Holds fact l ↔ (IsIn fact k ⊎ Holds fact [])) (sym d) (λ h. h, λ h. h)
  same_held fact f k (x ∷ xs) ys none up (true, f', x', k', r, d) =
      let joined = (told f x k true f' x' k' r).1 none.0 in
      let rest = same_held fact f' k' xs ys (none_before_same k k' xs joined.begins none.1) up.1 d in
      let held = joined.holds fact in (
        λ h. elim (rest.0 h) [
          | inl i ↦ elim (held.0 i) [ inl a ↦ inl a | inr b ↦ inr (inl b) ]
          | inr l ↦ inr (inr l)
        ],
        elim [
          | inl i ↦ rest.1 (inl (held.1 (inl i)))
          | inr l ↦ elim l [ inl b ↦ rest.1 (inl (held.1 (inr b))) | inr m ↦ rest.1 (inr m) ]
        ],
      )
  same_held fact f k (x ∷ xs) ys none up (false, f', x', k', r, (zs, d, is)) =
      let same = (told f x k false f' x' k' r).0 in
      let stays = (told f x k false f' x' k' r).1 none.0 in
      let behind : DedupsFrom R f' x xs zs = subst (λ y. DedupsFrom R f' y xs zs) same d in
      let rest = same_held fact f' x xs zs up.0 up.1 behind in
      subst (λ l. Holds fact l ↔ (IsIn fact k ⊎ (IsIn fact x ⊎ Holds fact xs))) (sym is) (
        elim [ inl i ↦ inl (subst (λ y. IsIn fact y) stays.1 i) | inr h ↦ inr (rest.0 h) ],
        elim [ inl i ↦ inl (subst (λ y. IsIn fact y) (sym stays.1) i) | inr h ↦ inr (rest.1 h) ],
      )

  pub intervals_left : (f : F) (xs ys : List Element) → IsSortedBy is_before xs → IsDeduped R f xs ys → AreIntervals ys
  intervals_left f [] ys sorted d = subst AreIntervals (sym d.told) (intervals_of [] tt)
  intervals_left f (x ∷ xs) ys sorted d = let up = rise (x ∷ xs) sorted in intervals_of ys (all_apart f x xs ys up.0 up.1 d.told)

  pub members_left : (f : F) (xs ys : List Element) → IsSortedBy is_before xs → IsDeduped R f xs ys → (fact : Fact) → IsMember fact ys ↔ IsMember fact xs
  members_left f [] ys sorted d fact = subst (λ l. IsMember fact l ↔ IsMember fact []) (sym d.told) (λ h. h, λ h. h)
  members_left f (x ∷ xs) ys sorted d fact =
      let up = rise (x ∷ xs) sorted in
      let held = same_held fact f x xs ys up.0 up.1 d.told in
      (λ m. member_of fact (x ∷ xs) (held.0 (holds_of fact ys m)), λ m. member_of fact ys (held.1 (holds_of fact (x ∷ xs) m)))
