use Rattle.std.proofs.Common.{◌≡◌, ◌<◌, ◌-◌, get_or, true, arith, rules}
use Rattle.text_marks.specs.Lines.{is_newline}
use Rattle.text_marks.proofs.Ends.{last_start}
use Rattle.text_marks.proofs.line.last_line.Goals as goal
use Rattle.text_marks.proofs.line.last_line.Goals.{then-loop-start-test+else-bytes-start-ne10, else-loop-start-test}

pub returns : goal.returns
returns c =
    let stops : 0 < c.loop-start.start → is_newline (get_or c.args.bytes.now (c.loop-start.start - 1) 0) ≡ true =
    elim c.loop-start-test.branch [ then-loop-start-test+else-bytes-start-ne10 w ↦ λ h. search rules | else-loop-start-test w ↦ λ h. absurd (omega arith) ] in
    let line = last_start is_newline c.args.bytes.now c.loop-start.start c.loop-start.invariant stops in
    cc
