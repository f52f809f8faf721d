-- What is put by a write, or comes of it in a crash, is one of the outcomes of a torn write.
use Rattle.std.proofs.Common.{◌≡◌, ◌⊎◌, ℕ, ◌+◌, ◌-◌, ◌<◌, ◌≤◌, ◌/◌, ◌%◌, ◌^◌, Bool, true, false, not, List, [], ◌∷◌, ◌++◌, length, get_or, replicate, refl, sym, ◌∙◌, ap, subst, arith, length-append}
use Rattle.std.specs.Prelude.{nat_eq, ◌&&◌, if◌then◌else◌, Some, None}
use Rattle.std.proofs.lemmas.List.{length-replicate, get_or_append_left}
use Rattle.disk_model.specs.Disk.{Torn, put}
use Rattle.trial_disk.specs.Recorded.{Patch, MayLeave}
use Rattle.trial_disk.specs.Choices.{placed, laid, comes, chosen, ones, is_closing}
use Rattle.trial_disk.specs.Lawful.{put_outside, put_longer, put_first}
use Rattle.disk_model.proofs.Moments.{torn_nothing}

single : (part : List ℕ) → length part ≡ 1 → part ≡ get_or part 0 0 ∷ []
single [] one = absurd (omega (arith, one))
single (x ∷ []) one = refl
single (x ∷ y ∷ r) one = absurd (omega (arith, one))

-- other bytes in its range are an outcome too, where a closing byte makes no 1
pub torn_placed : (at : ℕ) (bytes part old : List ℕ) → length part ≡ length bytes → (bytes ≡ 0 ∷ [] → get_or part 0 0 ≡ 1 → get_or old at 0 ≡ 1) → Torn at bytes old (placed at part old)
torn_placed at bytes part old same closes =
    let more = replicate (at - length old) 0 in
    let size : length (old ++ more) ≡ length old + (at - length old) = length-append old more ∙ ap (λ n. length old + n) (length-replicate (at - length old) 0) in
    record {
      no_shorter = omega (arith, put_longer at part (old ++ more), size);
      outside = λ k lt where_is. put_outside at part (old ++ more) k (omega (arith, lt, size)) (subst (λ n. (k < at) ⊎ (at + n ≤ k)) (sym same) where_is) ∙ get_or_append_left old more 0 k lt;
      closing = λ is one.
          let alone : part ≡ get_or part 0 0 ∷ [] = single part (same ∙ ap length is) in
          let first : get_or (put at (get_or part 0 0 ∷ []) (old ++ more)) at 0 ≡ get_or part 0 0 = put_first at (get_or part 0 0) (old ++ more) (omega (arith, size)) in
          let there : get_or (placed at part old) at 0 ≡ get_or part 0 0 = ap (λ (b : List ℕ). get_or (put at b (old ++ more)) at 0) alone ∙ first in
          closes is (sym there ∙ one);
    }

ones_by : (bytes : List ℕ) (found : Bool) → List ℕ
ones_by bytes found = if is_closing bytes && not found then 0 ∷ [] else replicate (length bytes) 1

length-ones : (bytes : List ℕ) (found : Bool) → length (ones_by bytes found) ≡ length bytes
unfolding ones_by
length-ones [] found = refl
length-ones (x ∷ []) true = by_test (nat_eq x 0)
  where
    by_test : (b : Bool) → length {A = ℕ} (if b && not true then 0 ∷ [] else replicate 1 1) ≡ 1
    by_test true = refl
    by_test false = refl
length-ones (x ∷ []) false = by_test (nat_eq x 0)
  where
    by_test : (b : Bool) → length {A = ℕ} (if b && not false then 0 ∷ [] else replicate 1 1) ≡ 1
    by_test true = refl
    by_test false = refl
length-ones (x ∷ y ∷ r) found = length-replicate (length (x ∷ y ∷ r)) 1

ones_closing : (n : ℕ) (found : Bool) → found ≡ nat_eq n 1 → get_or (ones_by (0 ∷ []) found) 0 0 ≡ 1 → n ≡ 1
unfolding ones_by
ones_closing n true is one = search (arith, sym is)
ones_closing n false is one = absurd (omega (arith, one))

torn_ones : (at : ℕ) (bytes old : List ℕ) → Torn at bytes old (placed at (ones (record { at = at; bytes = bytes }) old) old)
unfolding ones_by
torn_ones at bytes old =
    let found = nat_eq (get_or old at 0) 1 in
    torn_placed at bytes (ones_by bytes found) old (length-ones bytes found) (λ is one. ones_closing (get_or old at 0) found refl (subst (λ (b : List ℕ). get_or (ones_by b found) 0 0 ≡ 1) is one))

high_first : (bytes : List ℕ) → bytes ≡ 0 ∷ [] → get_or {A = ℕ} (replicate (length bytes) 255) 0 0 ≡ 255
high_first bytes is = ap (λ (l : List ℕ). get_or {A = ℕ} (replicate (length l) 255) 0 0) is

torn_by : (at : ℕ) (bytes old : List ℕ) (a b c d e : Bool)
    → Torn at bytes old (laid at (if a then None else if b then Some bytes else if c then Some (ones (record { at = at; bytes = bytes }) old) else if d then Some (replicate (length bytes) 255) else if e then Some bytes else None) old)
torn_by at bytes old true b c d e = torn_nothing at bytes old
torn_by at bytes old false true c d e = torn_whole at bytes old
  where
    torn_whole : (at : ℕ) (bytes old : List ℕ) → Torn at bytes old (placed at bytes old)
    torn_whole at bytes old = torn_placed at bytes bytes old refl (λ is one. absurd (let z : get_or bytes 0 0 ≡ 0 = ap (λ (l : List ℕ). get_or l 0 0) is in omega (arith, z, one)))
torn_by at bytes old false false true d e = torn_ones at bytes old
torn_by at bytes old false false false true e =
    torn_placed at bytes (replicate (length bytes) 255) old (length-replicate (length bytes) 255)
    (λ is one. absurd (omega (arith, high_first bytes is, one)))
torn_by at bytes old false false false false true = torn_placed at bytes bytes old refl (λ is one. absurd (let z : get_or bytes 0 0 ≡ 0 = ap (λ (l : List ℕ). get_or l 0 0) is in omega (arith, z, one)))
torn_by at bytes old false false false false false = torn_nothing at bytes old

pub torn_laid : (choice number : ℕ) (w : Patch) (before : List ℕ) → Torn w.at w.bytes before (laid w.at (comes choice number w before) before)
torn_laid choice number w before = torn_by w.at w.bytes before (nat_eq choice 0) (nat_eq choice 1) (nat_eq choice 2) (nat_eq choice 3) (nat_eq (choice / 2 ^ (number % 64) % 2) 1)

pub may_choose : (choice : ℕ) (writes : List Patch) (base : List ℕ) → MayLeave writes base (chosen choice writes base)
may_choose choice [] base = refl
may_choose choice (w ∷ earlier) base = (chosen choice earlier base, may_choose choice earlier base, torn_laid choice (length earlier) w (chosen choice earlier base))
