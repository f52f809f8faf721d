-- A run that begins where no entry stands.
use Rattle.std.proofs.Common.{◌≡◌, ℕ, suc, ◌+◌, ◌*◌, ◌<◌, ◌≤◌, List, [], ◌∷◌, ◌++◌, map, length, get_or, set, take, drop, sym, ap, ◌∙◌, subst, arith}
use Rattle.std.specs.List.{AllWithin, insert}
use Rattle.std.proofs.lemmas.List.{take-append-drop, set_split, length-set, get_or-set_same, get_or-set_other, take_more}
use Rattle.std.proofs.lemmas.List.Edits.{length-insert, get_or-insert_at, get_or-insert_above}
use Rattle.std.proofs.lemmas.List.Concat.{flat_map-append}
use Rattle.rows.specs.declared.Entry.{Entry}
use Rattle.rows.specs.declared.runs.Run.{Run}
use Rattle.rows.specs.Order.{Above, Below, Rising, odd, even, numbers, numbers_in, held_in, AreOrdered, IsRunFor, IsGap}
use Rattle.rows.proofs.Numbers.{above-weaker, above-left, below-append, below-weaker, below-from, rising-right, rising-below, rising-above, rising-insert, rising-remove, above-at}
use Rattle.rows.proofs.Pieces.{above_next, next_above, split_at}

module _ (runs : List Run) (number low : ℕ) (gap : IsGap runs low number) where
  abbrev front : List Run
  front = take number runs

  abbrev back : List Run
  back = drop number runs

  whole : runs ≡ front ++ back
  whole = sym (take-append-drop number runs)

  numbers_parted : AreOrdered runs → Rising (numbers_in front ++ numbers_in back)
  numbers_parted ordered = subst Rising (ap numbers_in whole ∙ flat_map-append numbers front back) ordered

  back_above : AreOrdered runs → Above (2 * low) (numbers_in back)
  back_above ordered = above-weaker (2 * low) (2 * low + 1) (numbers_in back) (omega arith) (above_next low back (rising-right (numbers_in front) (numbers_in back) (numbers_parted ordered)) (next_above runs number low (λ d lt. gap.above number d (omega arith) lt)))

  -- ---- a new run

  module _ (run : Run) (low_is : run.low ≡ low) (empty : run.entries.items ≡ []) where
    pub opened_ordered : AreOrdered runs → AreOrdered (insert runs number run)
    opened_ordered ordered =
        let rising = rising-insert (numbers_in front) (2 * low) (numbers_in back) (numbers_parted ordered) gap.below (back_above ordered) in
        let here = subst (λ k. Rising (numbers_in front ++ (2 * k) ∷ numbers_in back)) (sym low_is) rising in
        let some = subst (λ k. Rising (numbers_in front ++ even run ∷ (map odd k ++ numbers_in back))) (sym empty) here in
        subst Rising (sym (flat_map-append numbers front (run ∷ back))) some

    pub opened_held : held_in (insert runs number run) ≡ held_in runs
    opened_held =
        flat_map-append (λ (r : Run). r.entries.items) front (run ∷ back)
        ∙ ap (λ k. held_in front ++ (k ++ held_in back)) empty
        ∙ sym (ap held_in whole ∙ flat_map-append (λ (r : Run). r.entries.items) front back)

    pub opened_run : IsRunFor (insert runs number run) low number
    opened_run =
        let long = length-insert runs number run gap.in_range in
        record {
          in_range = let le = gap.in_range in omega (arith, long, le);
          low = λ d. rw (get_or-insert_at runs number run d gap.in_range) (omega (arith, low_is));
          next = λ d lt. rw (get_or-insert_above runs number run d number (omega arith) gap.in_range) (gap.above number d (omega arith) (omega (arith, lt, long)));
        }

  -- ---- a lower bound

  module _ (inside : number < length runs) (run : Run) (read : run ≡ get_or runs number run) where
    abbrev pub lowered : Run
    lowered = record run { low = low }

    abbrev later : List Run
    later = drop (suc number) runs

    split : runs ≡ front ++ run ∷ later
    split = split_at runs number run inside ∙ ap (λ k. front ++ k ∷ later) (sym read)

    lowered_is : set runs number lowered ≡ front ++ lowered ∷ later
    lowered_is = set_split runs number lowered inside

    pub lowered_ordered : AreOrdered runs → AreOrdered (set runs number lowered)
    lowered_ordered ordered =
        let rest = map odd run.entries.items ++ numbers_in later in
        let rising : Rising (numbers_in front ++ even run ∷ rest) = subst Rising (ap numbers_in split ∙ flat_map-append numbers front (run ∷ later)) ordered in
        let lt : low < run.low = subst (λ (r : Run). low < r.low) (sym read) (gap.above number run (omega arith) inside) in
        let above = above-weaker (2 * low) (even run) rest (omega (arith, lt)) (rising-above (numbers_in front) (even run) rest rising) in
        let new = rising-insert (numbers_in front) (2 * low) rest (rising-remove (numbers_in front) (even run) rest rising) gap.below above in
        subst Rising (sym (ap numbers_in lowered_is ∙ flat_map-append numbers front (lowered ∷ later))) new

    pub lowered_held : held_in (set runs number lowered) ≡ held_in runs
    lowered_held =
        ap held_in lowered_is ∙ flat_map-append (λ (r : Run). r.entries.items) front (lowered ∷ later)
        ∙ sym (ap held_in split ∙ flat_map-append (λ (r : Run). r.entries.items) front (run ∷ later))

    pub lowered_run : IsRunFor (set runs number lowered) low number
    lowered_run = record {
      in_range = rw (length-set runs number lowered) inside;
      low = λ d. rw (get_or-set_same runs number lowered d inside) (omega arith);
      next = λ d lt.
          let at : number + 1 < length runs = subst (λ k. number + 1 < k) (length-set runs number lowered) lt in
          rw (get_or-set_other runs number (number + 1) lowered d (omega arith)) (gap.above (number + 1) d (omega arith) at);
    }

-- behind a run of smaller keys there is a gap, where the next one begins above it
module _ (runs : List Run) (key number : ℕ) (run : Run) (ordered : AreOrdered runs) (inside : number < length runs) (read : run ≡ get_or runs number run) where
  abbrev before : List Run
  before = take number runs

  abbrev behind : List Run
  behind = drop (suc number) runs

  parted : runs ≡ before ++ run ∷ behind
  parted = split_at runs number run inside ∙ ap (λ k. before ++ k ∷ behind) (sym read)

  pub gap_behind : run.low ≤ key → 0 < length run.entries.items → AllWithin (λ (e : Entry). e.key < key) run.entries.items 0 (length run.entries.items) → AllWithin (λ (r : Run). key < r.low) runs (number + 1) (length runs) → IsGap runs key (number + 1)
  gap_behind low some smaller after =
      let items = run.entries.items in
      let d : Entry = record { key = 0; value = 0 } in
      let is : take (number + 1) runs ≡ before ++ run ∷ [] = take_more runs number run inside ∙ ap (λ k. before ++ k ∷ []) (sym read) in
      let rising : Rising (numbers_in before ++ even run ∷ (map odd items ++ numbers_in behind)) = subst Rising (ap numbers_in parted ∙ flat_map-append numbers before (run ∷ behind)) ordered in
      let first = above-at odd (even run) items (above-left (even run) (map odd items) (numbers_in behind) (rising-above (numbers_in before) (even run) _ rising)) 0 d some in
      let less = smaller 0 d (omega arith) some in
      let lt : even run < 2 * key = omega (arith, first, less) in
      let keys : Below (map odd items) (2 * key) = below-from odd (2 * key) items (λ j e within. let l = smaller j e (omega arith) within in omega (arith, l)) in
      let earlier : Below (numbers_in before) (2 * key) = below-weaker (even run) (2 * key) (numbers_in before) (omega (arith, lt)) (rising-below (numbers_in before) (even run) _ rising) in
      let below = below-append (2 * key) (numbers_in before) (even run ∷ (map odd items ++ [])) earlier (lt, below-append (2 * key) (map odd items) [] keys tt) in
      record {
        in_range = omega (arith, inside);
        below = subst (λ k. Below (numbers_in k) (2 * key)) (sym is) (subst (λ k. Below k (2 * key)) (sym (flat_map-append numbers before (run ∷ []))) below);
        above = after;
      }
