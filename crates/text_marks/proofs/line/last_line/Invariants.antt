use Rattle.text_marks.specs.Lines.{is_newline}
use Rattle.text_marks.proofs.Ends.{NoneBehind}
use Rattle.text_marks.proofs.line.last_line.Given as goal

abbrev pub invariant-loop-start : goal.invariant-loop-start
invariant-loop-start l = NoneBehind is_newline l.bytes l.start

abbrev pub decreases-loop-start : goal.decreases-loop-start
decreases-loop-start l = l.start
