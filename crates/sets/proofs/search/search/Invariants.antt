use Rattle.std.proofs.Common.{◌≡◌, ◌<◌, ◌≤◌, ◌+◌, ◌-◌, ◌^◌, ℕ, length, slice_index_or}
use Rattle.sets.specs.Members.{IsIn, fact_of}
use Rattle.sets.proofs.search.search.Given as goal

-- the value lies in none in front of the part that is left, and in none behind it; with so many digits the part has
-- no more than those that no probe has used up
abbrev pub invariant-loop-from : goal.invariant-loop-from
invariant-loop-from g l = record {
  within : l.to ≤ length l.row;
  before : (k : ℕ) (d : _) → k < l.from → k < length l.row → ¬ IsIn (fact_of l.value) (g.K.Keyed.key_of (slice_index_or l.row k d));
  behind : (k : ℕ) (d : _) → l.to ≤ k → k < length l.row → ¬ IsIn (fact_of l.value) (g.K.Keyed.key_of (slice_index_or l.row k d));
  halved : (digits : ℕ) → length l.row < 2 ^ digits → (rest : ℕ) × (l.steps + rest ≡ digits) × (l.to - l.from < 2 ^ rest);
}

abbrev pub decreases-loop-from : goal.decreases-loop-from
decreases-loop-from g l = l.to - l.from
