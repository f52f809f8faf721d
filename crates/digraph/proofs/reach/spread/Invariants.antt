use Rattle.std.proofs.Common.{◌<◌, ℕ}
use Rattle.digraph.specs.Edges.{IsMarked, HasEdge}
use Rattle.digraph.specs.Paths.{IsReachedFrom}
use Rattle.digraph.proofs.reach.spread.Given as goal

abbrev pub invariant-loop-place : goal.invariant-loop-place
invariant-loop-place l = record {
  kept : (b : ℕ) → IsMarked l.initial.marks b → IsMarked l.marks b;
  sound : (b : ℕ) → IsMarked l.marks b → IsReachedFrom (HasEdge l.rows) (IsMarked l.initial.marks) b;
  stepped : (a b : ℕ) → a < l.place → IsMarked l.initial.marks a → HasEdge l.rows a b → IsMarked l.marks b;
}
