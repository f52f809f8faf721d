use Rattle.std.proofs.Common.{◌-◌, ◌≢◌, ◌<◌, ◌≤◌, ℕ, None, get_or}
use Rattle.buckets.proofs.places.free_between.Given as goal

-- none of the places so far is free
abbrev pub invariant-loop-place : goal.invariant-loop-place
invariant-loop-place l = record {
  from : l.start ≤ l.place;
  none : (k : ℕ) → l.start ≤ k → k < l.place → get_or l.places k None ≢ None;
}

abbrev pub decreases-loop-place : goal.decreases-loop-place
decreases-loop-place l = l.end - l.place
