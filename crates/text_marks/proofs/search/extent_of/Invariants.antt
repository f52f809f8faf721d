use Rattle.std.proofs.Common.{◌≤◌}
use Rattle.text_marks.proofs.search.extent_of.Given as goal

abbrev pub invariant-loop-at : goal.invariant-loop-at
invariant-loop-at l = l.start ≤ l.at
