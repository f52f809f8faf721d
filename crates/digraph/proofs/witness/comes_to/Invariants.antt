use Rattle.std.proofs.Common.{◌≡◌, ◌<◌, ℕ, length}
use Rattle.std.specs.List.{Contains}
use Rattle.digraph.specs.Edges.{HasEdge}
use Rattle.digraph.specs.Paths.{IsReachedFrom}
use Rattle.digraph.proofs.witness.comes_to.Given as goal

-- each place that waits is reached from those that waited at first
abbrev pub invariant-loop : goal.invariant-loop
invariant-loop l = record {
  same : length l.marks ≡ length l.rows;
  waiting : (b : ℕ) → Contains l.waiting.items b → (b < length l.rows) × IsReachedFrom (HasEdge l.rows) (Contains l.fn.waiting.items) b;
}
