-- A match that is said twice tells no more than one that is said once.
use Rattle.std.proofs.Common.{◌≡◌, ◌<◌, ℕ, zero, suc, ◌+◌, Bool, true, false, not, IsTrue, List, [], ◌∷◌, ◌++◌, Some, length, take, get_or, slice_get, slice_index_or, refl, sym, ap, ◌∙◌, subst, inl, inr, arith, length-append}
use Rattle.std.specs.List.{Contains, list_all}
use Rattle.std.proofs.lemmas.Bool.{cases_Bool, cases_lt, false≢true}
use Rattle.std.proofs.lemmas.List.{get_or_push, get_or_append_left}
use Rattle.std.proofs.lemmas.Option.{slice_get_read}
use Rattle.std.proofs.lemmas.List.Folds.{list_all_at}
use Rattle.std.proofs.lemmas.List.Elements.{Contains-append_left, Contains-push, Contains-push_cases}
use Rattle.ruletree.specs.declared.tree.Set.{Set}
use Rattle.ruletree.specs.declared.tree.Match.{Match}
use Rattle.verdict.specs.declared.row.Probe.{Probe}
use Rattle.verdict.specs.Matching.{holds as match_holds}
use Rattle.verdict.specs.Lines.{Tells}
use Rattle.verdict.specs.Tests.{IsRepeat, IsSomeRepeat, HasSame}

-- where all hold, each does
each_holds : (p : Match → Bool) (xs : List Match) (x : Match) → list_all p xs ≡ true → Contains xs x → p x ≡ true
each_holds p xs x all held = elim (cases_Bool (p x)) [
  | inl holds ↦ holds
  | inr fails ↦ absurd (false≢true (sym (list_all_at p xs held.0 x held.1 (ap p held.2 ∙ fails)) ∙ all))
]

-- and where each does, all do
all_hold_of : (p : Match → Bool) (xs : List Match) → ((x : Match) → Contains xs x → p x ≡ true) → list_all p xs ≡ true
all_hold_of p [] each = refl
all_hold_of p (x ∷ xs) each =
    let first : p x ≡ true = each x (0, omega arith, refl) in
    let rest : list_all p xs ≡ true = all_hold_of p xs (λ y held. each y (suc held.0, (let lt = held.1 in omega (arith, lt)), held.2)) in
    rw first rest

more_hold : (p : Match → Bool) (xs ys : List Match) → ((y : Match) → Contains ys y → Contains xs y) → list_all p xs ≡ true → list_all p ys ≡ true
more_hold p xs ys within all = all_hold_of p ys (λ y held. each_holds p xs y all (within y held))

pub same_all : (p : Match → Bool) (kept matches : List Match) → HasSame kept matches → list_all p kept ≡ list_all p matches
same_all p kept matches same = elim (cases_Bool (list_all p kept)) [
  | inl holds ↦ holds ∙ sym (more_hold p kept matches same.all holds)
  | inr fails ↦ elim (cases_Bool (list_all p matches)) [
    | inl holds ↦ absurd (false≢true (sym fails ∙ more_hold p matches kept same.sound holds))
    | inr both ↦ fails ∙ sym both
  ]
]

pub same_tells : (sets : List Set) (kept matches : List Match) (probe : Probe) → HasSame kept matches → Tells sets kept probe → Tells sets matches probe
same_tells sets kept matches probe same tells config facts out = sym (same_all (match_holds config sets facts) kept matches same) ∙ tells config facts out

pub same_none : HasSame [] []
same_none = record { sound = λ own is. is; all = λ own is. is; fewer = omega arith }

-- one more, said for the first time
pub same_first : (kept done : List Match) (own : Match) → HasSame kept done → HasSame (kept ++ own ∷ []) (done ++ own ∷ [])
same_first kept done own same = record {
  sound = λ any is. elim (Contains-push_cases kept own any is) [
    | inl before ↦ Contains-append_left done (own ∷ []) any (same.sound any before)
    | inr here ↦ subst (Contains (done ++ own ∷ [])) here (Contains-push done own)
  ];
  all = λ any is. elim (Contains-push_cases done own any is) [
    | inl before ↦ Contains-append_left kept (own ∷ []) any (same.all any before)
    | inr here ↦ subst (Contains (kept ++ own ∷ [])) here (Contains-push kept own)
  ];
  fewer = let one = length-append kept (own ∷ []) in let two = length-append done (own ∷ []) in let few = same.fewer in omega (arith, one, two, few);
}

-- or again
pub same_again : (kept done : List Match) (own : Match) → Contains done own → HasSame kept done → HasSame kept (done ++ own ∷ [])
same_again kept done own said same = record {
  sound = λ any is. Contains-append_left done (own ∷ []) any (same.sound any is);
  all = λ any is. elim (Contains-push_cases done own any is) [
    | inl before ↦ same.all any before
    | inr here ↦ same.all any (subst (Contains done) here said)
  ];
  fewer = let two = length-append done (own ∷ []) in let few = same.fewer in omega (arith, two, few);
}

-- what stands before a place is among the first
pub among_first : (xs : List Match) (before place : ℕ) (x : Match) → before < place → slice_get xs before ≡ Some x → Contains (take place xs) x
among_first [] before place x lt at = cc
among_first (y ∷ ys) before zero x lt at = absurd (omega (arith, lt))
among_first (y ∷ ys) zero (suc place) x lt at = (0, omega arith, cc)
among_first (y ∷ ys) (suc before) (suc place) x lt at = let more = among_first ys before place x (omega (arith, lt)) at in (suc more.0, (let lt = more.1 in omega (arith, lt)), more.2)

-- one more is told
pub firsts_more : (matches : List Match) (firsts : List Bool) (k : ℕ) (is_first : Bool) → length firsts ≡ k → (is_first ≡ false → IsSomeRepeat matches k)
    → ((place : ℕ) → place < k → slice_index_or firsts place true ≡ false → IsSomeRepeat matches place)
    → (place : ℕ) → place < k + 1 → slice_index_or (firsts ++ is_first ∷ []) place true ≡ false → IsSomeRepeat matches place
firsts_more matches firsts k is_first count here before place lt told = elim (cases_lt place k) [
  | inl below ↦
      let value = get_or_append_left firsts (is_first ∷ []) true place (omega (arith, below, count)) in
      before place below (sym value ∙ told)
  | inr above ↦
      let same : place ≡ k = omega (arith, lt, above) in
      let value = get_or_push firsts is_first true place (count ∙ sym same) in
      subst (IsSomeRepeat matches) (sym same) (here (sym value ∙ told))
]

-- places of equal matches
pub repeat_at : (matches : List Match) (before place : ℕ) (one other : Match) → before < place → place < length matches → one ≡ get_or matches before one → other ≡ get_or matches place other → one ≡ other → IsRepeat matches before place
repeat_at matches before place one other rises within is_one is_other same = record {
  rises = rises;
  within = within;
  same = slice_get_read matches _ before one refl (omega (arith, rises, within)) is_one ∙ ap Some same ∙ sym (slice_get_read matches _ place other refl within is_other);
}

pub not_false : (b : Bool) → not b ≡ false → IsTrue b
not_false true told = refl
not_false false told = absurd (false≢true (sym told))
