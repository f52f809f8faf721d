-- Reading a list, as the loops do.
use Rattle.std.proofs.Common.{◌≡◌, ℕ, suc, ◌-◌, ◌+◌, ◌≤◌, ◌<◌, Bool, true, false, List, [], ◌∷◌, ◌++◌, Option, Some, None, refl, sym, ap, ◌∙◌, append_assoc, arith}
use Rattle.std.specs.Prelude.{◌||◌}
use Rattle.rulesyntax.specs.declared.error.ReadError.{ReadError}
use Rattle.rulesyntax.specs.declared.error.ReadError.TheVariants as errors
use Rattle.rulesyntax.specs.declared.rule.Parts.{Parts}
use Rattle.rulesyntax.specs.declared.rule.Part.{Part}
use Rattle.rulesyntax.specs.Grammar.{Tokens}
use Rattle.rulesyntax.specs.Reading.{◌>>=◌, Reader, Step, IsSyntax, Fails, ends, closes, fill_at, list_from, comma_at, entries_from, begins_part, part_at, with_part, parts_from}

abbrev pub with_front : {A : Type 0} → List A → Option (List A × Tokens) → Option (List A × Tokens)
with_front front read = read >>= λ x. Some (front ++ x.0, x.1)

regroup : {A : Type 0} (front : List A) (x : A) (read : Option (List A × Tokens)) → with_front front (read >>= λ xs. Some (x ∷ xs.0, xs.1)) ≡ with_front (front ++ x ∷ []) read
regroup front x (Some xs) = ap (λ ys. Some (ys, xs.1)) (simp append_assoc)
regroup front x None = refl

-- an error of syntax tells that nothing is read
pub stopped : {Y : Type 0} (error : ReadError) (read : Option Y) → IsSyntax error → read ≡ None → Fails error read
stopped errors.Memory read is none = absurd is
stopped (errors.Syntax spot) read is none = none

-- ---- items

module _ {B : Type 0} (steps : Step B) where
  pub list_on : (end i : ℕ) (body : B) (ts item : Tokens) (x : B) (braced : Bool) (after : Tokens) (total : Option (B × Tokens)) → i < end → item ≡ fill_at ts → false ≡ ends item → steps body item ≡ Some ((x, braced), after) → (braced || closes after) ≡ true
      → list_from steps (end - i) body ts ≡ total → list_from steps (end - (i + 1)) x after ≡ total
  unfolding list_from
  list_on end i body ts item x braced after total lt is e h apart so_far =
      let k : end - i ≡ suc (end - (i + 1)) = omega arith in
      let e' : ends (fill_at ts) ≡ false = cc in
      let h' : steps body (fill_at ts) ≡ Some ((x, braced), after) = ap (steps body) (sym is) ∙ h in
      let one : list_from steps (end - i) body ts ≡ list_from steps (end - (i + 1)) x after = rw (k, e', h', apart) refl in
      sym one ∙ so_far

  pub list_done : (end i : ℕ) (body : B) (ts item : Tokens) (total : Option (B × Tokens)) → i < end → item ≡ fill_at ts → true ≡ ends item
      → list_from steps (end - i) body ts ≡ total → total ≡ Some (body, item)
  unfolding list_from
  list_done end i body ts item total lt is e so_far =
      let k : end - i ≡ suc (end - (i + 1)) = omega arith in
      let e' : ends (fill_at ts) ≡ true = cc in
      let one : list_from steps (end - i) body ts ≡ Some (body, item) = rw (k, e', ← is) refl in
      sym so_far ∙ one

  pub list_stuck : (end i : ℕ) (body : B) (ts item : Tokens) (x : B) (braced : Bool) (after : Tokens) (total : Option (B × Tokens)) → i < end → item ≡ fill_at ts → false ≡ ends item → steps body item ≡ Some ((x, braced), after) → (braced || closes after) ≡ false
      → list_from steps (end - i) body ts ≡ total → total ≡ None
  unfolding list_from
  list_stuck end i body ts item x braced after total lt is e h apart so_far =
      let k : end - i ≡ suc (end - (i + 1)) = omega arith in
      let e' : ends (fill_at ts) ≡ false = cc in
      let h' : steps body (fill_at ts) ≡ Some ((x, braced), after) = ap (steps body) (sym is) ∙ h in
      let one : list_from steps (end - i) body ts ≡ None = rw (k, e', h', apart) refl in
      sym so_far ∙ one

  pub list_refused : (error : ReadError) (end i : ℕ) (body : B) (ts item : Tokens) (total : Option (B × Tokens)) → i < end → item ≡ fill_at ts → false ≡ ends item → Fails error (steps body item)
      → list_from steps (end - i) body ts ≡ total → Fails error total
  unfolding list_from
  list_refused errors.Memory end i body ts item total lt is e h so_far = tt
  list_refused (errors.Syntax spot) end i body ts item total lt is e h so_far =
      let k : end - i ≡ suc (end - (i + 1)) = omega arith in
      let e' : ends (fill_at ts) ≡ false = cc in
      let h' : steps body (fill_at ts) ≡ None = ap (steps body) (sym is) ∙ h in
      let one : list_from steps (end - i) body ts ≡ None = rw (k, e', h') refl in
      sym so_far ∙ one

  pub list_no_turn : (end i : ℕ) (body : B) (ts : Tokens) (total : Option (B × Tokens)) → end ≤ i → list_from steps (end - i) body ts ≡ total → total ≡ None
  unfolding list_from
  list_no_turn end i body ts total le so_far =
      let k : end - i ≡ 0 = omega arith in
      let one : list_from steps (end - i) body ts ≡ None = rw k refl in
      sym so_far ∙ one

-- ---- entries

module _ {E : Type 0} (reads : Reader E) (braces : Bool) where
  pub entries_on : (front : List E) (end i : ℕ) (ts behind : Tokens) (x : E) (after : Tokens) (total : Option (List E × Tokens)) → i < end → reads ts ≡ Some (x, after) → comma_at braces after ≡ (true, behind)
      → with_front front (entries_from reads braces (end - i) ts) ≡ total → with_front (front ++ x ∷ []) (entries_from reads braces (end - (i + 1)) behind) ≡ total
  unfolding entries_from
  entries_on front end i ts behind x after total lt h c so_far =
      let k : end - i ≡ suc (end - (i + 1)) = omega arith in
      let one : with_front front (entries_from reads braces (end - i) ts) ≡ with_front (front ++ x ∷ []) (entries_from reads braces (end - (i + 1)) behind) = rw (k, h, c) (regroup front x (entries_from reads braces (end - (i + 1)) behind)) in
      sym one ∙ so_far

  pub entries_done : (front : List E) (end i : ℕ) (ts behind : Tokens) (x : E) (after : Tokens) (total : Option (List E × Tokens)) → i < end → reads ts ≡ Some (x, after) → comma_at braces after ≡ (false, behind)
      → with_front front (entries_from reads braces (end - i) ts) ≡ total → total ≡ Some (front ++ x ∷ [], behind)
  unfolding entries_from
  entries_done front end i ts behind x after total lt h c so_far =
      let k : end - i ≡ suc (end - (i + 1)) = omega arith in
      let one : with_front front (entries_from reads braces (end - i) ts) ≡ Some (front ++ x ∷ [], behind) = rw (k, h, c) refl in
      sym so_far ∙ one

  pub entries_refused : (error : ReadError) (front : List E) (end i : ℕ) (ts : Tokens) (total : Option (List E × Tokens)) → i < end → Fails error (reads ts)
      → with_front front (entries_from reads braces (end - i) ts) ≡ total → Fails error total
  unfolding entries_from
  entries_refused errors.Memory front end i ts total lt h so_far = tt
  entries_refused (errors.Syntax spot) front end i ts total lt h so_far =
      let k : end - i ≡ suc (end - (i + 1)) = omega arith in
      let one : with_front front (entries_from reads braces (end - i) ts) ≡ None = rw (k, h) refl in
      sym so_far ∙ one

  pub entries_no_turn : (front : List E) (end i : ℕ) (ts : Tokens) (total : Option (List E × Tokens)) → end ≤ i → with_front front (entries_from reads braces (end - i) ts) ≡ total → total ≡ None
  unfolding entries_from
  entries_no_turn front end i ts total le so_far =
      let k : end - i ≡ 0 = omega arith in
      let one : with_front front (entries_from reads braces (end - i) ts) ≡ None = rw k refl in
      sym so_far ∙ one

-- ---- parts of a rule

pub parts_on : (end i : ℕ) (ps : Parts) (ts : Tokens) (x : Part) (after : Tokens) (total : Option (Parts × Tokens)) → i < end → true ≡ begins_part ts → part_at ts ≡ Some (x, after)
    → parts_from (end - i) ps ts ≡ total → parts_from (end - (i + 1)) (with_part ps x) after ≡ total
unfolding parts_from
parts_on end i ps ts x after total lt b h so_far =
    let k : end - i ≡ suc (end - (i + 1)) = omega arith in
    let one : parts_from (end - i) ps ts ≡ parts_from (end - (i + 1)) (with_part ps x) after = rw (k, ← b, h) refl in
    sym one ∙ so_far

pub parts_no_turn : (end i : ℕ) (ps : Parts) (ts : Tokens) (total : Option (Parts × Tokens)) → end ≤ i → parts_from (end - i) ps ts ≡ total → total ≡ None
unfolding parts_from
parts_no_turn end i ps ts total le so_far =
    let k : end - i ≡ 0 = omega arith in
    let one : parts_from (end - i) ps ts ≡ None = rw k refl in
    sym so_far ∙ one
