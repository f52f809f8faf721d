use Rattle.std.proofs.Common.{◌-◌, ◌≤◌, length}
use Rattle.text_marks.proofs.search.token_from.Given as goal

abbrev pub invariant-loop-found : goal.invariant-loop-found
invariant-loop-found l = (l.found.behind ≤ l.found.at) × (l.found.at ≤ length l.text) × (l.extent.end ≤ length l.text)

abbrev pub decreases-loop-found : goal.decreases-loop-found
decreases-loop-found l = length l.text - l.found.at
