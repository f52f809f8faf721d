-- A text whose front was cut off at a comma.
use Rattle.std.proofs.Common.{arith, sym, ◌≡◌, ◌+◌, ℕ, ◌<◌, List, [], ◌∷◌, ◌++◌, length}
use Rattle.std.proofs.lemmas.List.{append_assoc, length-append}

pub back-shorter : (c : ℕ) (text front back : List ℕ) → text ≡ front ++ (c ∷ back) → length back < length text
back-shorter c text front back is =
    let all : length text ≡ length front + length (c ∷ back) = rw is (length-append front (c ∷ back)) in omega arith

-- what stands before the rest is found
pub found-behind : {A : Type 0} (before now rest : List A) (q : A) → now ≡ before ++ (q ∷ []) → before ++ (q ∷ rest) ≡ now ++ rest
found-behind before now rest q is = rw is (sym (append_assoc before (q ∷ []) rest))
