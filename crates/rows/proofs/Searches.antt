-- What a test of one item says of the others, where it holds of no item behind one that it doesn't hold of.
use Rattle.std.proofs.Common.{◌≡◌, ℕ, suc, ◌+◌, ◌<◌, ◌≤◌, Bool, true, false, List, length, get_or, ap, sym, ◌∙◌, subst, inl, inr, arith}
use Rattle.std.proofs.lemmas.Bool.{cases_eq, false_from_ne_true, false≢true}
use Rattle.std.proofs.lemmas.List.{get_or_default}
use Rattle.std.specs.List.{AllWithin}
use Rattle.std.specs.List.Sorted.{IsPartitionedBy}

module _ {X : Type 0} (p : X → Bool) (xs : List X) where
  -- an item that was read has this answer, whatever stands for items that aren't there
  pub read-at : (i : ℕ) (x : X) (b : Bool) → i < length xs → x ≡ get_or xs i x → p x ≡ b → (d : X) → p (get_or xs i d) ≡ b
  read-at i x b inside is answer d = ap p (get_or_default xs i d x inside ∙ sym is) ∙ answer

  pub true-up_to : IsPartitionedBy p xs → (i : ℕ) → i < length xs → ((d : X) → p (get_or xs i d) ≡ true) → (high : ℕ) → high ≤ suc i → AllWithin (λ y. p y ≡ true) xs 0 high
  true-up_to parted i inside is high le = λ k d low lt. parted k i d (omega arith) inside (is d)

  pub false-from : IsPartitionedBy p xs → (i : ℕ) → i < length xs → ((d : X) → p (get_or xs i d) ≡ false) → (low : ℕ) → i ≤ low → AllWithin (λ y. p y ≡ false) xs low (length xs)
  false-from parted i inside is low le = λ k d from lt. false_from_ne_true (p (get_or xs k d)) (λ yes. false≢true (sym (is d) ∙ parted i k d (omega arith) lt yes))

  -- one more item is seen, of which the test holds: all so far were such
  pub counted-true : IsPartitionedBy p xs → (place i next : ℕ) → next ≡ i + 1 → place ≤ i → i < length xs → ((d : X) → p (get_or xs i d) ≡ true) → AllWithin (λ y. p y ≡ false) xs place i → AllWithin (λ y. p y ≡ true) xs 0 (place + 1) × AllWithin (λ y. p y ≡ false) xs (place + 1) next
  counted-true parted place i next e le inside is behind = elim (cases_eq place i) [
    | inl same ↦ (true-up_to parted i inside is (place + 1) (omega arith), λ k d low lt. absurd (omega arith))
    | inr differ ↦ (true-up_to parted i inside is (place + 1) (omega arith), λ k d low lt. absurd (false≢true (sym (behind place d (omega arith) (omega arith)) ∙ parted place i d le inside (is d))))
  ]

  -- or of which it doesn't hold
  pub counted-false : (place i next : ℕ) → next ≡ i + 1 → ((d : X) → p (get_or xs i d) ≡ false) → AllWithin (λ y. p y ≡ false) xs place i → AllWithin (λ y. p y ≡ false) xs place next
  counted-false place i next e is behind = λ k d low lt. elim (cases_eq k i) [
    | inl same ↦ subst (λ j. p (get_or xs j d) ≡ false) (sym same) (is d)
    | inr differ ↦ behind k d low (omega arith)
  ]
