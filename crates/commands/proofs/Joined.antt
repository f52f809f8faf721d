-- Two results, of which the first error counts.
use Rattle.std.proofs.Common.{◌≡◌, ◌⊎◌, inl, inr, Result, Ok, Err, IfErr, OnOk, subst, sym}
use Rattle.std.specs.Result.{result_and}

module _ {T U E : Type 0} (r : Result T E) (s whole : Result U E) (is : whole ≡ result_and r s) where
  pub error_of_both : (P : E → Type 0) → IfErr r P → IfErr s P → IfErr whole P
  error_of_both P one other = subst (λ (w : Result U E). IfErr w P) (sym is) (joined r one) where
    joined : (first : Result T E) → IfErr first P → IfErr (result_and first s) P
    joined (Ok x) one = other
    joined (Err e) one = one

  pub first_is_well : (P : Type 0) → OnOk r P → OnOk whole P
  first_is_well P one = subst (λ (w : Result U E). OnOk w P) (sym is) (joined r s one) where
    joined : (first : Result T E) (second : Result U E) → OnOk first P → OnOk (result_and first second) P
    joined (Ok x) (Ok y) one = one
    joined (Ok x) (Err e) one = tt
    joined (Err e) second one = tt

  -- the second one's error counts only if the first is well
  pub error_of_one : (P : E → Type 0) (Q : Type 0) → IfErr r P → OnOk r Q → IfErr whole (λ e. Q ⊎ P e)
  error_of_one P Q one well = subst (λ (w : Result U E). IfErr w (λ e. Q ⊎ P e)) (sym is) (joined r s one well) where
    joined : (first : Result T E) (second : Result U E) → IfErr first P → OnOk first Q → IfErr (result_and first second) (λ e. Q ⊎ P e)
    joined (Ok x) (Ok y) one well = tt
    joined (Ok x) (Err e) one well = inl well
    joined (Err e) second one well = inr one
