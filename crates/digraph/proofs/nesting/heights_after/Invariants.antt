use Rattle.std.proofs.Common.{◌≡◌, length, slice_index}
use Rattle.digraph.specs.Heights.{AreHeights}
use Rattle.digraph.specs.Edges.{HasEdge}
use Rattle.digraph.proofs.nesting.heights_after.Given as goal

abbrev pub invariant-loop : goal.invariant-loop
invariant-loop l = record {
  same : length l.heights.items ≡ length l.rows;
  are : AreHeights (HasEdge l.rows) l.counter (slice_index l.heights.items);
}
