-- Runs one after another.
use Rattle.std.proofs.Common.{◌≡◌, ◌≢◌, ℕ, zero, suc, ◌+◌, ◌-◌, ◌*◌, ◌<◌, ◌≤◌, List, [], ◌∷◌, ◌++◌, map, length, get_or, take, drop, Some, None, sym, ap, ◌∙◌, subst, inl, inr, arith}
use Rattle.std.specs.Prelude.{⊤}
use Rattle.std.specs.List.{AllWithin}
use Rattle.std.proofs.lemmas.Bool.{cases_eq}
use Rattle.std.proofs.lemmas.List.{append_assoc, map-append, take-append-drop, length-append}
use Rattle.std.proofs.lemmas.List.Concat.{flat_map-append}
use Rattle.std.proofs.Math.Seq.{drop-cons}
use Rattle.std.specs.List.Sorted.{IsNonDecreasingBy}
use Rattle.rows.specs.declared.Entry.{Entry}
use Rattle.rows.specs.declared.runs.Run.{Run}
use Rattle.rows.specs.Held.{value_at, Puts}
use Rattle.rows.specs.Order.{Above, Below, Rising, odd, even, numbers, numbers_in, held_in, AreOrdered, AreKeysRising, IsRunFor}
use Rattle.rows.proofs.Numbers.{above-append, above-left, above-right, above-weaker, below-append, below-left, below-right, below-weaker, rising-left, rising-right, rising-below, rising-replace, rising-insert_middle, rising-remove_middle, rising-at}
use Rattle.rows.proofs.Lookups.{value_at-below, value_at-above, value_at-left, value_at-right, puts-insert, puts-remove}

-- ---- the entries of all runs

pub keys-below : (x : ℕ) (rs : List Run) → Below (numbers_in rs) x → Below (map odd (held_in rs)) x
keys-below x [] h = tt
keys-below x (r ∷ rs) h = subst (λ k. Below k x) (sym (map-append odd r.entries.items (held_in rs))) (below-append x (map odd r.entries.items) (map odd (held_in rs)) (below-left x (map odd r.entries.items) (numbers_in rs) h.1) (keys-below x rs (below-right x (map odd r.entries.items) (numbers_in rs) h.1)))

pub keys-above : (x : ℕ) (rs : List Run) → Above x (numbers_in rs) → Above x (map odd (held_in rs))
keys-above x [] h = tt
keys-above x (r ∷ rs) h = subst (Above x) (sym (map-append odd r.entries.items (held_in rs))) (above-append x (map odd r.entries.items) (map odd (held_in rs)) (above-left x (map odd r.entries.items) (numbers_in rs) h.1) (keys-above x rs (above-right x (map odd r.entries.items) (numbers_in rs) h.1)))

pub keys-rising : (rs : List Run) → AreOrdered rs → AreKeysRising (held_in rs)
keys-rising [] h = tt
keys-rising (r ∷ rs) h = subst Rising (sym (map-append odd r.entries.items (held_in rs))) (rising-replace (map odd r.entries.items) (numbers_in rs) (map odd (held_in rs)) (λ x. keys-above x rs) (keys-rising rs (rising-right (map odd r.entries.items) (numbers_in rs) h.1)) h.1)

-- ---- the bounds of the runs

lows-above : (x : ℕ) (rs : List Run) → Above x (numbers_in rs) → Above x (map even rs)
lows-above x [] h = tt
lows-above x (r ∷ rs) h = (h.0, lows-above x rs (above-right x (map odd r.entries.items) (numbers_in rs) h.1))

lows-rising : (rs : List Run) → AreOrdered rs → Rising (map even rs)
lows-rising [] h = tt
lows-rising (r ∷ rs) h = (lows-above (even r) rs (above-right (even r) (map odd r.entries.items) (numbers_in rs) h.0), lows-rising rs (rising-right (map odd r.entries.items) (numbers_in rs) h.1))

pub lows_rise : (rs : List Run) → AreOrdered rs → IsNonDecreasingBy (λ (r : Run). r.low) rs
lows_rise rs ordered i j d le inside = elim (cases_eq i j) [
  | inl same ↦ subst (λ k. (get_or rs i d).low ≤ (get_or rs k d).low) same (omega arith)
  | inr differ ↦ let is = rising-at even rs (lows-rising rs ordered) i j d (omega arith) inside in omega (arith, is)
]

-- ---- a run among the others

-- where a number is below the length there is a run
pub some_run : (rs : List Run) (number : ℕ) → number < length rs → Run
some_run [] number lt = absurd (omega arith)
some_run (r ∷ rs) number lt = r

-- the next run begins above the key
abbrev pub NextAbove : List Run → ℕ → Type 0
NextAbove [] key = ⊤
NextAbove (r ∷ rs) key = key < r.low

pub split_at : (rs : List Run) (number : ℕ) (d : Run) → number < length rs → rs ≡ take number rs ++ get_or rs number d ∷ drop (suc number) rs
split_at rs number d inside = sym (take-append-drop number rs) ∙ ap (λ k. take number rs ++ k) (drop-cons rs number d inside)

pub next_above : (rs : List Run) (number key : ℕ) → ((d : Run) → number < length rs → key < (get_or rs number d).low) → NextAbove (drop number rs) key
next_above [] zero key h = tt
next_above [] (suc number) key h = tt
next_above (r ∷ rs) zero key h = h r (omega arith)
next_above (r ∷ rs) (suc number) key h = next_above rs number key (λ d lt. h d (omega arith))

pub above_next : (key : ℕ) (rs : List Run) → AreOrdered rs → NextAbove rs key → Above (2 * key + 1) (numbers_in rs)
above_next key [] ordered next = tt
above_next key (r ∷ rs) ordered next = (omega (arith, next), above-weaker (2 * key + 1) (even r) _ (omega (arith, next)) ordered.0)

pub held_in-middle : (front : List Run) (run : Run) (back : List Run) → held_in (front ++ run ∷ back) ≡ held_in front ++ (run.entries.items ++ held_in back)
held_in-middle front run back = flat_map-append (λ (r : Run). r.entries.items) front (run ∷ back)

numbers_in-middle : (front : List Run) (run : Run) (back : List Run) → numbers_in (front ++ run ∷ back) ≡ numbers_in front ++ even run ∷ (map odd run.entries.items ++ numbers_in back)
numbers_in-middle front run back = flat_map-append numbers front (run ∷ back)

module _ (front : List Run) (run : Run) (back : List Run) (ordered : AreOrdered (front ++ run ∷ back)) where
  rising : Rising (numbers_in front ++ even run ∷ (map odd run.entries.items ++ numbers_in back))
  rising = subst Rising (numbers_in-middle front run back) ordered

  after_low : Rising (map odd run.entries.items ++ numbers_in back)
  after_low = (rising-right (numbers_in front) (even run ∷ (map odd run.entries.items ++ numbers_in back)) rising).1

  pub run_rises : AreKeysRising run.entries.items
  run_rises = rising-left (map odd run.entries.items) (numbers_in back) after_low

  pub front_below : Below (numbers_in front) (even run)
  front_below = rising-below (numbers_in front) (even run) _ rising

  pub back_rises : AreOrdered back
  back_rises = rising-right (map odd run.entries.items) (numbers_in back) after_low

  -- the key is in this run, if it is in any
  pub value_in_run : (key : ℕ) → run.low ≤ key → NextAbove back key → value_at (held_in (front ++ run ∷ back)) key ≡ value_at run.entries.items key
  value_in_run key low next =
      ap (λ k. value_at k key) (held_in-middle front run back)
      ∙ value_at-right (held_in front) _ key (value_at-below (held_in front) key (keys-below _ front (below-weaker (even run) (2 * key + 1) (numbers_in front) (omega (arith, low)) front_below)))
      ∙ value_at-left run.entries.items (held_in back) key (value_at-above (held_in back) key (keys-above _ back (above_next key back back_rises next)))

  module _ (changed : Run) (a : List Entry) (e : Entry) (b : List Entry) (low_same : changed.low ≡ run.low) where
    back_to : (items : List Entry) → changed.entries.items ≡ items → Rising (numbers_in front ++ even run ∷ (map odd items ++ numbers_in back)) → AreOrdered (front ++ changed ∷ back)
    back_to items is h =
        subst Rising (sym (numbers_in-middle front changed back)) (subst (λ k. Rising (numbers_in front ++ (2 * k) ∷ (map odd changed.entries.items ++ numbers_in back))) (sym low_same) (subst (λ k. Rising (numbers_in front ++ even run ∷ (map odd k ++ numbers_in back))) (sym is) h))

    -- an entry more in the run
    pub ordered-put : run.entries.items ≡ a ++ b → changed.entries.items ≡ a ++ e ∷ b → run.low ≤ e.key → Below (map odd a) (odd e) → Above (odd e) (map odd b) → NextAbove back e.key → AreOrdered (front ++ changed ∷ back)
    ordered-put was is low below above next =
        let old = subst (λ k. Rising (numbers_in front ++ even run ∷ (k ++ numbers_in back))) (ap (map odd) was ∙ map-append odd a b) rising in
        let fits : even run < odd e = omega (arith, low) in
        let new = rising-insert_middle (numbers_in front) (even run) (map odd a) (odd e) (map odd b) (numbers_in back) old (below-weaker (even run) (odd e) (numbers_in front) (omega arith) front_below) fits below above (above_next e.key back back_rises next) in
        back_to (a ++ e ∷ b) is (subst (λ k. Rising (numbers_in front ++ even run ∷ (k ++ numbers_in back))) (sym (map-append odd a (e ∷ b))) new)

    pub ordered-take : run.entries.items ≡ a ++ e ∷ b → changed.entries.items ≡ a ++ b → AreOrdered (front ++ changed ∷ back)
    ordered-take was is =
        let old = subst (λ k. Rising (numbers_in front ++ even run ∷ (k ++ numbers_in back))) (ap (map odd) was ∙ map-append odd a (e ∷ b)) rising in
        let new = rising-remove_middle (numbers_in front) (even run) (map odd a) (odd e) (map odd b) (numbers_in back) old in
        back_to (a ++ b) is (subst (λ k. Rising (numbers_in front ++ even run ∷ (k ++ numbers_in back))) (sym (map-append odd a b)) new)

    -- the entries of all runs, around the one
    regrouped : (m n : List Entry) → held_in front ++ ((m ++ n) ++ held_in back) ≡ (held_in front ++ m) ++ (n ++ held_in back)
    regrouped m n = simp append_assoc

    parted : (r : Run) (m n : List Entry) → r.entries.items ≡ m ++ n → held_in (front ++ r ∷ back) ≡ (held_in front ++ m) ++ (n ++ held_in back)
    parted r m n is = held_in-middle front r back ∙ ap (λ k. held_in front ++ (k ++ held_in back)) is ∙ regrouped m n

    pub puts-put : run.entries.items ≡ a ++ b → changed.entries.items ≡ a ++ e ∷ b → value_at (held_in (front ++ run ∷ back)) e.key ≡ None → Puts (held_in (front ++ run ∷ back)) (held_in (front ++ changed ∷ back)) e.key (Some e.value)
    puts-put was is none =
        rw (parted run a b was, parted changed a (e ∷ b) is) (puts-insert (held_in front ++ a) e (b ++ held_in back) (subst (λ k. value_at k e.key ≡ None) (parted run a b was) none))

    pub length-put : run.entries.items ≡ a ++ b → changed.entries.items ≡ a ++ e ∷ b → length (held_in (front ++ changed ∷ back)) ≡ length (held_in (front ++ run ∷ back)) + 1
    length-put was is =
        let old = ap length (parted run a b was) ∙ length-append (held_in front ++ a) (b ++ held_in back) in
        let new = ap length (parted changed a (e ∷ b) is) ∙ length-append (held_in front ++ a) (e ∷ b ++ held_in back) in
        omega (arith, old, new)

    pub length-taken : run.entries.items ≡ a ++ e ∷ b → changed.entries.items ≡ a ++ b → length (held_in (front ++ changed ∷ back)) + 1 ≡ length (held_in (front ++ run ∷ back))
    length-taken was is =
        let old = ap length (parted run a (e ∷ b) was) ∙ length-append (held_in front ++ a) (e ∷ b ++ held_in back) in
        let new = ap length (parted changed a b is) ∙ length-append (held_in front ++ a) (b ++ held_in back) in
        omega (arith, old, new)

    pub puts-take : run.entries.items ≡ a ++ e ∷ b → changed.entries.items ≡ a ++ b → Puts (held_in (front ++ run ∷ back)) (held_in (front ++ changed ∷ back)) e.key None
    puts-take was is =
        rw (parted run a (e ∷ b) was, parted changed a b is) (puts-remove (held_in front ++ a) e (b ++ held_in back) (subst AreKeysRising (parted run a (e ∷ b) was) (keys-rising (front ++ run ∷ back) ordered)))

-- ---- the run of a number

pub is_run_for : (runs : List Run) (key count : ℕ) → count ≢ 0 → count ≤ length runs → AllWithin (λ (r : Run). r.low ≤ key) runs 0 count → AllWithin (λ (r : Run). key < r.low) runs count (length runs) → IsRunFor runs key (count - 1)
is_run_for runs key count some inside before after =
    let e : count ≡ count - 1 + 1 = omega arith in
    record {
      in_range = omega arith;
      low = λ d. before (count - 1) d (omega arith) (omega arith);
      next = λ d lt. subst (λ k. key < (get_or runs k d).low) e (after count d (omega arith) (omega arith));
    }

module _ (runs : List Run) (number : ℕ) (ordered : AreOrdered runs) where
  pub rises_at : (d : Run) → number < length runs → AreKeysRising (get_or runs number d).entries.items
  rises_at d inside = run_rises (take number runs) (get_or runs number d) (drop (suc number) runs) (subst AreOrdered (split_at runs number d inside) ordered)

  pub next_of : (key : ℕ) → IsRunFor runs key number → NextAbove (drop (suc number) runs) key
  next_of key is_run =
      let e : number + 1 ≡ suc number = omega arith in
      next_above runs (suc number) key (λ d lt. subst (λ k. key < (get_or runs k d).low) e (is_run.next d (omega arith)))

  pub value_of_run : (key : ℕ) (d : Run) → IsRunFor runs key number → value_at (held_in runs) key ≡ value_at (get_or runs number d).entries.items key
  value_of_run key d is_run =
      ap (λ k. value_at (held_in k) key) (split_at runs number d is_run.in_range)
      ∙ value_in_run (take number runs) (get_or runs number d) (drop (suc number) runs) (subst AreOrdered (split_at runs number d is_run.in_range) ordered) key (is_run.low d) (next_of key is_run)
