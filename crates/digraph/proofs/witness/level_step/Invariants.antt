use Rattle.std.proofs.Common.{◌<◌, ℕ, get_or}
use Rattle.digraph.specs.Edges.{HasEdge}
use Rattle.digraph.proofs.witness.level_step.Given as goal

abbrev pub invariant-loop-place : goal.invariant-loop-place
invariant-loop-place l = (a b : ℕ) → a < l.place → HasEdge l.rows a b → get_or l.ranks b 0 < get_or l.ranks a 0
