use Rattle.std.proofs.Common.{◌-◌, ◌≤◌, length}
use Rattle.text_marks.proofs.search.token_at_fault.Given as goal

abbrev pub invariant-loop-low : goal.invariant-loop-low
invariant-loop-low l = (l.low.behind ≤ l.low.at) × (l.low.at ≤ length l.text)

abbrev pub decreases-loop-low : goal.decreases-loop-low
decreases-loop-low l = l.high - l.low.at
