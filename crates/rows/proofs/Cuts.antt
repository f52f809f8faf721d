-- A run that is cut in two, and one that goes.
use Rattle.std.proofs.Common.{◌≡◌, ℕ, suc, ◌+◌, ◌-◌, ◌*◌, ◌<◌, ◌≤◌, List, [], ◌∷◌, ◌++◌, map, length, get_or, set, take, drop, sym, ap, ◌∙◌, subst, arith}
use Rattle.std.proofs.lemmas.List.{set_split, map-append, append_assoc, take_at, drop_at, length-append, length-take-le, get_or-append-add, set_at}
use Rattle.std.proofs.lemmas.List.Edits.{get_or-remove_below, remove-append_right}
use Rattle.std.proofs.Math.Seq.{drop-cons}
use Rattle.std.proofs.lemmas.List.Concat.{flat_map-append}
use Rattle.std.specs.List.{insert, remove, All, AllWithin}
use Rattle.std.proofs.lemmas.List.Elements.{All-append, All-cons, All-take, All-drop}
use Rattle.rows.specs.declared.Entry.{Entry}
use Rattle.rows.specs.declared.runs.Run.{Run}
use Rattle.rows.specs.Order.{Below, Rising, odd, even, numbers, numbers_in, held_in, AreOrdered, IsCut, IsRunFor, most}
use Rattle.rows.proofs.Numbers.{above-weaker, below-right, below-weaker, rising-right, rising-below, rising-above, rising-cut, rising-uncut, rising-end, rising-remove}
use Rattle.rows.proofs.Pieces.{split_at}

-- ---- the numbers of a run that is cut

below-odd : (k : ℕ) (lo : List Entry) → Below (map odd lo) (2 * k + 1) → Below (map odd lo) (2 * k)
below-odd k [] h = tt
below-odd k (e ∷ lo) h = (let lt = h.0 in omega (arith, lt), below-odd k lo h.1)

cut-rising : (f : List ℕ) (x : ℕ) (lo hi : List Entry) (g : List ℕ) (low : ℕ) → Rising (f ++ 2 * x ∷ (map odd (lo ++ hi) ++ g)) → 0 < length lo → 0 < length hi → ((d : Entry) → low ≡ (get_or hi 0 d).key) → Rising (f ++ 2 * x ∷ (map odd lo ++ 2 * low ∷ (map odd hi ++ g)))
cut-rising f x [] hi g low h some_low some_high low_is = absurd (omega arith)
cut-rising f x (l ∷ lo) [] g low h some_low some_high low_is = absurd (omega arith)
cut-rising f x (l ∷ lo) (e ∷ hi) g low h some_low some_high low_is =
    let old = subst (λ k. Rising (f ++ 2 * x ∷ (k ++ g))) (map-append odd (l ∷ lo) (e ∷ hi)) h in
    let parted = rising-end f (2 * x) (map odd (l ∷ lo)) (map odd (e ∷ hi)) g old in
    let below = below-right (odd e) f (2 * x ∷ map odd (l ∷ lo)) (rising-below (f ++ 2 * x ∷ map odd (l ∷ lo)) (odd e) (map odd hi ++ g) parted) in
    let above = (rising-right (f ++ 2 * x ∷ map odd (l ∷ lo)) (map odd (e ∷ hi) ++ g) parted).0 in
    let first : 2 * x < odd l = (rising-above f (2 * x) _ old).0 in
    let second : odd l < odd e = below.1.0 in
    let is : low ≡ e.key = low_is e in
    let lt : 2 * x < 2 * low = omega (arith, first, second, is) in
    let all_below : Below (map odd (l ∷ lo)) (2 * low) = below-odd low (l ∷ lo) (subst (λ k. Below (map odd (l ∷ lo)) (2 * k + 1)) (sym is) below.1) in
    rising-cut f (2 * x) (map odd (l ∷ lo)) (2 * low) (map odd (e ∷ hi)) g old (below-weaker (2 * x) (2 * low) f (omega (arith, lt)) (rising-below f (2 * x) _ old)) lt all_below (omega (arith, is), above-weaker (2 * low) (odd e) _ (omega (arith, is)) above)

-- ---- the runs

module _ (old new : List Run) (number : ℕ) (cut : IsCut old new number) where
  middle : (r : Run) (rs : List Run) → numbers_in (cut.front ++ r ∷ rs) ≡ numbers_in cut.front ++ even r ∷ (map odd r.entries.items ++ numbers_in rs)
  middle r rs = flat_map-append numbers cut.front (r ∷ rs)

  pub cut_ordered : AreOrdered old → 0 < length cut.lower.entries.items → 0 < length cut.higher.entries.items → ((d : Entry) → cut.higher.low ≡ (get_or cut.higher.entries.items 0 d).key) → AreOrdered new
  cut_ordered ordered some_low some_high low_is =
      let rising : Rising (numbers_in cut.front ++ even cut.run ∷ (map odd cut.run.entries.items ++ numbers_in cut.back)) = subst Rising (ap numbers_in cut.old_is ∙ middle cut.run cut.back) ordered in
      let parted = subst (λ k. Rising (numbers_in cut.front ++ even cut.run ∷ (map odd k ++ numbers_in cut.back))) cut.same rising in
      let done = cut-rising (numbers_in cut.front) cut.run.low cut.lower.entries.items cut.higher.entries.items (numbers_in cut.back) cut.higher.low parted some_low some_high low_is in
      let low = subst (λ k. Rising (numbers_in cut.front ++ 2 * k ∷ (map odd cut.lower.entries.items ++ even cut.higher ∷ (map odd cut.higher.entries.items ++ numbers_in cut.back)))) (sym cut.low) done in
      subst Rising (sym (ap numbers_in cut.new_is ∙ middle cut.lower (cut.higher ∷ cut.back))) low

  -- the two become one again
  pub uncut_ordered : AreOrdered new → AreOrdered old
  uncut_ordered ordered =
      let rising : Rising (numbers_in cut.front ++ even cut.lower ∷ (map odd cut.lower.entries.items ++ even cut.higher ∷ (map odd cut.higher.entries.items ++ numbers_in cut.back))) = subst Rising (ap numbers_in cut.new_is ∙ middle cut.lower (cut.higher ∷ cut.back)) ordered in
      let joined = rising-uncut (numbers_in cut.front) (even cut.lower) (map odd cut.lower.entries.items) (even cut.higher) (map odd cut.higher.entries.items) (numbers_in cut.back) rising in
      let same : map odd cut.run.entries.items ≡ map odd cut.lower.entries.items ++ map odd cut.higher.entries.items = ap (map odd) cut.same ∙ map-append odd cut.lower.entries.items cut.higher.entries.items in
      let low = subst (λ k. Rising (numbers_in cut.front ++ 2 * k ∷ ((map odd cut.lower.entries.items ++ map odd cut.higher.entries.items) ++ numbers_in cut.back))) cut.low joined in
      let whole = subst (λ k. Rising (numbers_in cut.front ++ even cut.run ∷ (k ++ numbers_in cut.back))) (sym same) low in
      subst Rising (sym (ap numbers_in cut.old_is ∙ middle cut.run cut.back)) whole

  held_middle : (rs : List Run) → held_in (cut.front ++ rs) ≡ held_in cut.front ++ held_in rs
  held_middle rs = flat_map-append (λ (r : Run). r.entries.items) cut.front rs

  pub cut_held : held_in new ≡ held_in old
  cut_held =
      let joined : cut.lower.entries.items ++ (cut.higher.entries.items ++ held_in cut.back) ≡ cut.run.entries.items ++ held_in cut.back = sym (append_assoc cut.lower.entries.items cut.higher.entries.items (held_in cut.back)) ∙ ap (λ k. k ++ held_in cut.back) (sym cut.same) in
      ap held_in cut.new_is ∙ held_middle (cut.lower ∷ cut.higher ∷ cut.back) ∙ ap (λ k. held_in cut.front ++ k) joined ∙ sym (ap held_in cut.old_is ∙ held_middle (cut.run ∷ cut.back))

  at_place : (r : List Run) (n : ℕ) (d : Run) → get_or (cut.front ++ r) (number + n) d ≡ get_or r n d
  at_place r n d = subst (λ k. get_or (cut.front ++ r) (k + n) d ≡ get_or r n d) cut.at (get_or-append-add cut.front r n d)

  pub cut_lower : (d : Run) → get_or new number d ≡ cut.lower
  cut_lower d =
      let e : number ≡ number + 0 = omega arith in
      ap (λ k. get_or k number d) cut.new_is ∙ ap (λ k. get_or (cut.front ++ cut.lower ∷ cut.higher ∷ cut.back) k d) e ∙ at_place (cut.lower ∷ cut.higher ∷ cut.back) 0 d

  pub cut_run : (d : Run) → get_or old number d ≡ cut.run
  cut_run d =
      let e : number ≡ number + 0 = omega arith in
      ap (λ k. get_or k number d) cut.old_is ∙ ap (λ k. get_or (cut.front ++ cut.run ∷ cut.back) k d) e ∙ at_place (cut.run ∷ cut.back) 0 d

  pub cut_higher : (d : Run) → get_or new (number + 1) d ≡ cut.higher
  cut_higher d = ap (λ k. get_or k (number + 1) d) cut.new_is ∙ at_place (cut.lower ∷ cut.higher ∷ cut.back) 1 d

  pub cut_next : (d : Run) → get_or new (number + 2) d ≡ get_or old (number + 1) d
  cut_next d =
      ap (λ k. get_or k (number + 2) d) cut.new_is ∙ at_place (cut.lower ∷ cut.higher ∷ cut.back) 2 d
      ∙ sym (ap (λ k. get_or k (number + 1) d) cut.old_is ∙ at_place (cut.run ∷ cut.back) 1 d)

  pub cut_length : length new ≡ length old + 1
  cut_length =
      let n = ap length cut.new_is ∙ length-append cut.front (cut.lower ∷ cut.higher ∷ cut.back) in
      let o = ap length cut.old_is ∙ length-append cut.front (cut.run ∷ cut.back) in
      omega (arith, n, o)

-- what a write of the lower half and an insertion of the higher one behind it leave
pub cut_is : (runs : List Run) (number : ℕ) (lower higher : Run) → number < length runs → insert (set runs number lower) (number + 1) higher ≡ take number runs ++ lower ∷ higher ∷ drop (suc number) runs
cut_is runs number lower higher inside =
    let front = take number runs in
    let back = drop (suc number) runs in
    let long : length front ≡ number = length-take-le number runs (omega (arith, inside)) in
    let is : set runs number lower ≡ (front ++ lower ∷ []) ++ back = set_split runs number lower inside ∙ sym (append_assoc front (lower ∷ []) back) in
    let at : length (front ++ lower ∷ []) ≡ number + 1 = length-append front (lower ∷ []) ∙ (omega (arith, long)) in
    ap (λ k. insert k (number + 1) higher) is
    ∙ ap (λ k. k ++ higher ∷ drop (number + 1) ((front ++ lower ∷ []) ++ back)) (take_at (front ++ lower ∷ []) back (number + 1) at)
    ∙ ap (λ k. (front ++ lower ∷ []) ++ higher ∷ k) (drop_at (front ++ lower ∷ []) back (number + 1) at)
    ∙ append_assoc front (lower ∷ []) (higher ∷ back)

pub All-insert : (P : Run → Type 0) (runs : List Run) (number : ℕ) (run : Run) → P run → All P runs → All P (insert runs number run)
All-insert P runs number run here all = All-append P (take number runs) (run ∷ drop number runs) (All-take P number runs all) (All-cons P run (drop number runs) here (All-drop P number runs all))

-- an empty run goes
module _ (runs : List Run) (number : ℕ) (inside : number < length runs) (run : Run) (read : run ≡ get_or runs number run) (empty : run.entries.items ≡ []) where
  split : runs ≡ take number runs ++ run ∷ drop (suc number) runs
  split = split_at runs number run inside ∙ ap (λ k. take number runs ++ k ∷ drop (suc number) runs) (sym read)

  pub freed_ordered : AreOrdered runs → AreOrdered (remove runs number)
  freed_ordered ordered =
      let front = take number runs in
      let back = drop (suc number) runs in
      let rising : Rising (numbers_in front ++ even run ∷ (map odd run.entries.items ++ numbers_in back)) = subst Rising (ap numbers_in split ∙ flat_map-append numbers front (run ∷ back)) ordered in
      let bare = subst (λ k. Rising (numbers_in front ++ even run ∷ (map odd k ++ numbers_in back))) empty rising in
      subst Rising (sym (flat_map-append numbers front back)) (rising-remove (numbers_in front) (even run) (numbers_in back) bare)

  pub freed_held : held_in (remove runs number) ≡ held_in runs
  freed_held =
      let front = take number runs in
      let back = drop (suc number) runs in
      let old : held_in runs ≡ held_in front ++ (run.entries.items ++ held_in back) = ap held_in split ∙ flat_map-append (λ (r : Run). r.entries.items) front (run ∷ back) in
      flat_map-append (λ (r : Run). r.entries.items) front back ∙ sym (old ∙ ap (λ k. held_in front ++ (k ++ held_in back)) empty)

pub All-remove : (P : Run → Type 0) (runs : List Run) (number : ℕ) → All P runs → All P (remove runs number)
All-remove P runs number all = All-append P (take number runs) (drop (suc number) runs) (All-take P number runs all) (All-drop P (suc number) runs all)

-- a run takes in the entries of the next one, which goes
module _ (runs : List Run) (number : ℕ) (inside : number + 1 < length runs) (run higher joined : Run) (read : run ≡ get_or (remove runs (number + 1)) number run) (read_higher : higher ≡ get_or runs (number + 1) higher) where
  rest : drop (suc number) runs ≡ higher ∷ drop (suc (suc number)) runs
  rest =
      let e : number + 1 ≡ suc number = omega arith in
      drop-cons runs (suc number) higher (omega (arith, inside)) ∙ ap (λ k. k ∷ drop (suc (suc number)) runs) (ap (λ k. get_or runs k higher) (sym e) ∙ sym read_higher)

  pub read_lower : run ≡ get_or runs number run
  read_lower = read ∙ get_or-remove_below runs (number + 1) run number (omega arith) inside

  both : runs ≡ take number runs ++ run ∷ higher ∷ drop (suc (suc number)) runs
  both =
      split_at runs number run (omega (arith, inside))
      ∙ ap (λ k. take number runs ++ k ∷ drop (suc number) runs) (sym read_lower)
      ∙ ap (λ k. take number runs ++ run ∷ k) rest

  joined_is : set (remove runs (number + 1)) number joined ≡ take number runs ++ joined ∷ drop (suc (suc number)) runs
  joined_is =
      let front = take number runs in
      let back = drop (suc (suc number)) runs in
      let long : length front ≡ number = length-take-le number runs (omega (arith, inside)) in
      let e : number + 1 - number ≡ 1 = omega arith in
      let removed : remove runs (number + 1) ≡ front ++ run ∷ back =
      ap (λ k. remove k (number + 1)) both ∙ remove-append_right front (run ∷ higher ∷ back) number (number + 1) long (omega arith) ∙ ap (λ k. front ++ remove (run ∷ higher ∷ back) k) e in
      ap (λ k. set k number joined) removed ∙ set_at front run back joined number long

  pub join_is : joined.entries.items ≡ run.entries.items ++ higher.entries.items → joined.low ≡ run.low → length run.entries.items + length higher.entries.items < most → IsCut (set (remove runs (number + 1)) number joined) runs number
  join_is same low few = record {
    front = take number runs;
    back = drop (suc (suc number)) runs;
    run = joined;
    lower = run;
    higher = higher;
    at = length-take-le number runs (omega (arith, inside));
    old_is = joined_is;
    new_is = both;
    same = same;
    low = sym low;
    lower_few = omega (arith, few);
    higher_few = omega (arith, few);
  }

-- of runs in order, the last whose bound is no higher than the key is the run for it
pub run_up_to : (runs : List Run) (key count : ℕ) → count ≤ length runs → AllWithin (λ (r : Run). r.low ≤ key) runs 0 count → AllWithin (λ (r : Run). key < r.low) runs count (length runs) → 0 < count → IsRunFor runs key (count - 1)
run_up_to runs key count inside before after some = record {
  in_range = omega (arith, inside, some);
  low = λ d. before (count - 1) d (omega arith) (omega (arith, some));
  next = λ d lt.
      let e : count ≡ count - 1 + 1 = omega (arith, some) in
      subst (λ k. key < (get_or runs k d).low) e (after count d (omega arith) (subst (λ k. k < length runs) (sym e) lt));
}
