use Rattle.std.proofs.Common.{◌≡◌, ◌+◌, ◌<◌, ℕ, length, get_or}
use Rattle.digraph.specs.Edges.{HasEdge}
use Rattle.digraph.proofs.nesting.raised.Given as goal

abbrev pub invariant-loop-row : goal.invariant-loop-row
invariant-loop-row l = record {
  same : length l.new.items ≡ l.row-index;
  upper : (a b : ℕ) → a < l.row-index → HasEdge l.rows a b → get_or l.heights b 0 < get_or l.new.items a 0;
  reached : (a : ℕ) → 0 < get_or l.new.items a 0 → (b : ℕ) × HasEdge l.rows a b × (get_or l.new.items a 0 ≡ get_or l.heights b 0 + 1);
}
