use Rattle.std.proofs.Common.{◌≡◌, ◌<◌, ℕ, false, true, length, slice_index_or}
use Rattle.verdict.specs.Tests.{IsSomeRepeat}
use Rattle.verdict.proofs.repeats.firsts_of.Given as goal

abbrev pub invariant-loop-place : goal.invariant-loop-place
invariant-loop-place l = record {
  count : length l.firsts.items ≡ l.place;
  repeated : (place : ℕ) → place < l.place → slice_index_or l.firsts.items place true ≡ false → IsSomeRepeat l.matches place;
}
