use Rattle.std.proofs.Common.{◌≡◌, ◌+◌, ◌<◌, ℕ, get_or}
use Rattle.std.specs.List.{Contains}
use Rattle.digraph.proofs.nesting.height_over.Given as goal

abbrev pub invariant-loop-b : goal.invariant-loop-b
invariant-loop-b l = record {
  upper : (k : ℕ) → k < l.b-index → get_or l.heights (get_or l.row k 0) 0 < l.height;
  reached : 0 < l.height → (b : ℕ) × Contains l.row b × (l.height ≡ get_or l.heights b 0 + 1);
}
