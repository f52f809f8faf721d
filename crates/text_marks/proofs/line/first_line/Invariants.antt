use Rattle.std.proofs.Common.{◌-◌, length}
use Rattle.text_marks.specs.Lines.{is_newline}
use Rattle.text_marks.proofs.Ends.{NoneBefore}
use Rattle.text_marks.proofs.line.first_line.Given as goal

abbrev pub invariant-loop-end : goal.invariant-loop-end
invariant-loop-end l = NoneBefore is_newline l.bytes l.end

abbrev pub decreases-loop-end : goal.decreases-loop-end
decreases-loop-end l = length l.bytes - l.end
