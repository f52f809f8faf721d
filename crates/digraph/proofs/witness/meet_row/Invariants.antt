use Rattle.std.proofs.Common.{◌≡◌, ◌⊎◌, ℕ, length}
use Rattle.std.specs.List.{Contains}
use Rattle.digraph.proofs.witness.meet_row.Given as goal

abbrev pub invariant-loop-b : goal.invariant-loop-b
invariant-loop-b l = record {
  same : length l.marks ≡ length l.initial.marks;
  waiting : (b : ℕ) → Contains l.waiting.items b → Contains l.initial.waiting.items b ⊎ Contains l.row b;
}
