use Rattle.std.proofs.Common.{◌-◌, length}
use Rattle.text_marks.specs.Pieces.{goes_on}
use Rattle.text_marks.proofs.Ends.{AllBefore}
use Rattle.text_marks.proofs.piece.run_length.Given as goal

-- each byte so far goes on
abbrev pub invariant-loop-end : goal.invariant-loop-end
invariant-loop-end l = AllBefore (goes_on l.run) l.bytes l.end

abbrev pub decreases-loop-end : goal.decreases-loop-end
decreases-loop-end l = length l.bytes - l.end
