use Rattle.std.proofs.Common.{◌<◌, ℕ, get_or}
use Rattle.digraph.proofs.nesting.is_reached.Given as goal

abbrev pub invariant-loop-h : goal.invariant-loop-h
invariant-loop-h l = (a : ℕ) → a < l.h-index → get_or l.heights a 0 < l.height
