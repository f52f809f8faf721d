use Rattle.std.proofs.Common.{◌-◌, ◌≢◌, ◌<◌, ◌≤◌, ℕ, None, slice_index_or}
use Rattle.rows.specs.declared.Entry.{Entry}
use Rattle.buckets.specs.Places.{HasAt}
use Rattle.buckets.proofs.places.search_between.Given as goal

-- each of the places so far has an entry, of another key
abbrev pub invariant-loop-place : goal.invariant-loop-place
invariant-loop-place l = record {
  from : l.start ≤ l.place;
  none : (k : ℕ) (e : Entry) → l.start ≤ k → k < l.place → HasAt l.places k e → e.key ≢ l.key;
  filled : (k : ℕ) → l.start ≤ k → k < l.place → slice_index_or l.places k None ≢ None;
}

abbrev pub decreases-loop-place : goal.decreases-loop-place
decreases-loop-place l = l.end - l.place
