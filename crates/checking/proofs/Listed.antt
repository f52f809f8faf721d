-- A list that is read from its front on.
use Rattle.std.proofs.Common.{arith, subst, ◌≡◌, ℕ, List, [], ◌∷◌, ◌++◌, Some, None, Bor}
use Rattle.std.proofs.lemmas.Str.Pattern.{IsSplitOnceResult, split_parts}
use Rattle.checking.specs.Spelling.{SpellsList}
use Rattle.checking.proofs.Lacking.{Lacks, list_is_split}
use Rattle.checking.proofs.Round.{found-behind}

-- what is found so far, and what the rest spells, are what the list spells; and where the list spells any, so does the
-- rest
abbrev pub GoesOn : {A : Type 0} → (List ℕ → A → Type 0) → List ℕ → List A → List ℕ → Type 0
GoesOn {A = A} Spells list found rest =
    ((x : A) (xs : List A) → SpellsList Spells rest (x ∷ xs)
    → SpellsList Spells list (found ++ x ∷ xs))
    × ((xs : List A) → SpellsList Spells list xs → (ys : List A) × SpellsList Spells rest ys)

module _ {A : Type 0} (Spells : List ℕ → A → Type 0) (lacks : (text : List ℕ) (x : A) → Spells text x → Lacks 44 text)
    (list rest : List ℕ) (found : List A) (here : GoesOn Spells list found rest) where
  module _ (split : Bor (List ℕ) × Bor (List ℕ)) (cases : IsSplitOnceResult 44 rest (Some split)) where
    pub goes_on : (more : List A) (x : A) → Spells split.0.now x → more ≡ found ++ (x ∷ []) → GoesOn Spells list more split.1.now
    goes_on more x one is =
        let parts = split_parts 44 _ (Some split) cases (omega arith) in (
          λ y ys spelled. subst (SpellsList Spells list) (found-behind _ _ (y ∷ ys) _ is)
              (here.0 x (y ∷ ys) (split.0.now, split.1.now, parts.0, one, spelled)),
          λ xs spelled.
              let behind = here.1 xs spelled in
              (list_is_split Spells lacks _ behind.0 (Some split) behind.1 cases).1,
        )

    pub none_in_front : ((x : A) → ¬ Spells split.0.now x) → (xs : List A) → ¬ SpellsList Spells list xs
    none_in_front none xs spelled =
        let behind = here.1 xs spelled in
        let parts = list_is_split Spells lacks _ behind.0 (Some split) behind.1 cases in
        none parts.0.0 parts.0.1

  pub none_at_the_end : IsSplitOnceResult 44 rest None → ((x : A) → ¬ Spells rest x) → (xs : List A) → ¬ SpellsList Spells list xs
  none_at_the_end cases none xs spelled =
      let behind = here.1 xs spelled in
      let last = list_is_split Spells lacks _ behind.0 None behind.1 cases in
      none last.0 last.1
