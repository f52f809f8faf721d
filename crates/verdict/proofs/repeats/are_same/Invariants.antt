use Rattle.std.proofs.Common.{◌≡◌, length}
use Rattle.verdict.proofs.repeats.are_same.Given as goal

-- where the elements left are the same, all are
abbrev pub invariant-loop-left : goal.invariant-loop-left
invariant-loop-left l = l.left ≡ l.right → l.one ≡ l.other

abbrev pub decreases-loop-left : goal.decreases-loop-left
decreases-loop-left l = length l.left
