use Rattle.std.proofs.Common.{◌<◌, ℕ, get_or}
use Rattle.digraph.proofs.witness.level_place.Given as goal

abbrev pub invariant-loop-b : goal.invariant-loop-b
invariant-loop-b l = (k : ℕ) → k < l.b-index → get_or l.ranks (get_or l.row k 0) 0 < l.rank
