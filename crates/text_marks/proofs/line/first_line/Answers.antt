use Rattle.std.proofs.Common.{◌≡◌, ◌<◌, length, get_or, true, arith, rules}
use Rattle.text_marks.specs.Lines.{is_newline}
use Rattle.text_marks.proofs.Ends.{first_end}
use Rattle.text_marks.proofs.line.first_line.Goals as goal
use Rattle.text_marks.proofs.line.first_line.Goals.{then-loop-end-test+else-bytes-end-ne10, else-loop-end-test}

pub returns : goal.returns
returns c =
    let stops : c.loop-end.end < length c.args.bytes.now → is_newline (get_or c.args.bytes.now c.loop-end.end 0) ≡ true =
    elim c.loop-end-test.branch [ then-loop-end-test+else-bytes-end-ne10 w ↦ λ h. search rules | else-loop-end-test w ↦ λ h. absurd (omega arith) ] in
    let line = first_end is_newline c.args.bytes.now c.loop-end.end c.loop-end.invariant stops in
    cc
