use Rattle.std.proofs.Common.{◌≤◌, ℕ}
use Rattle.digraph.specs.Paths.{Path, IsReachedFrom}
use Rattle.digraph.specs.Edges.{IsMarked, HasEdge}
use Rattle.digraph.proofs.reach.mark_reached.Given as goal

abbrev pub invariant-loop-round : goal.invariant-loop-round
invariant-loop-round l = record {
  sound : (b : ℕ) → IsMarked l.marks b → IsReachedFrom (HasEdge l.rows) (IsMarked l.initial.marks) b;
  complete : (a b n : ℕ) → n ≤ l.round → IsMarked l.initial.marks a → Path (HasEdge l.rows) n a b → IsMarked l.marks b;
}
