-- What holds of some element of two lists in a row.
use Rattle.std.proofs.Common.{◌⊎◌, ◌↔◌, zero, suc, List, [], ◌∷◌, ◌++◌, inl, inr, arith}
use Rattle.std.proofs.lemmas.List.Sorted.{IsPermutation-sym, Contains-permutation}
use Rattle.std.specs.List.{Any}
use Rattle.std.specs.List.Sorted.{IsPermutation}
use Rattle.sets.specs.declared.element.Element.{Element}
use Rattle.sets.specs.Members.{Fact, IsMember}

module _ {X : Type 0} (P : X → Type 0) where
  pub either_of : (xs ys : List X) → Any P (xs ++ ys) → Any P xs ⊎ Any P ys
  either_of [] ys a = inr a
  either_of (x ∷ xs) ys (zero, y, lt, is, p) = inl (zero, y, omega arith, is, p)
  either_of (x ∷ xs) ys (suc k, y, lt, is, p) = elim (either_of xs ys (k, y, omega arith, is, p)) [
    | inl (j, z, below, there, q) ↦ inl (suc j, z, omega arith, there, q)
    | inr a ↦ inr a
  ]

  pub whole_of_second : (xs ys : List X) → Any P ys → Any P (xs ++ ys)
  whole_of_second [] ys a = a
  whole_of_second (x ∷ xs) ys a = let (j, z, below, there, q) = whole_of_second xs ys a in (suc j, z, omega arith, there, q)

  pub whole_of_first : (xs ys : List X) → Any P xs → Any P (xs ++ ys)
  whole_of_first [] ys (k, y, lt, is, p) = absurd (omega arith)
  whole_of_first (x ∷ xs) ys (zero, y, lt, is, p) = (zero, y, omega arith, is, p)
  whole_of_first (x ∷ xs) ys (suc k, y, lt, is, p) = let (j, z, below, there, q) = whole_of_first xs ys (k, y, omega arith, is, p) in (suc j, z, omega arith, there, q)

members_more : (fact : Fact) (xs ys : List Element) → IsPermutation xs ys → IsMember fact xs → IsMember fact ys
members_more fact xs ys h (k, x, lt, is, holds) = let there = Contains-permutation xs ys x h (k, lt, is) in (there.0, x, there.1, there.2, holds)

-- an order of the elements changes nothing
pub members_permuted : (fact : Fact) (xs ys : List Element) → IsPermutation xs ys → IsMember fact ys ↔ IsMember fact xs
members_permuted fact xs ys h = (members_more fact ys xs (IsPermutation-sym xs ys h), members_more fact xs ys h)
