use Rattle.std.proofs.Common.{◌≡◌, ◌<◌, length, get_or, false, arith, rules}
use Rattle.text_marks.specs.Pieces.{goes_on}
use Rattle.text_marks.proofs.Ends.{run_end}
use Rattle.text_marks.proofs.piece.run_length.Goals as goal

pub returns-else-goes_on-clause-value : goal.returns-else-goes_on-clause-value
returns-else-goes_on-clause-value c =
    let stops : c.loop-end.end < length c.args.bytes.now → goes_on c.args.run (get_or c.args.bytes.now c.loop-end.end 0) ≡ false = λ h. search rules in
    run_end (goes_on c.args.run) c.args.bytes.now c.loop-end.end c.loop-end.invariant stops

pub returns-after-loop-end-clause-value : goal.returns-after-loop-end-clause-value
returns-after-loop-end-clause-value c =
    let stops : c.loop-end.end < length c.args.bytes.now → goes_on c.args.run (get_or c.args.bytes.now c.loop-end.end 0) ≡ false = λ h. absurd (omega arith) in
    run_end (goes_on c.args.run) c.args.bytes.now c.loop-end.end c.loop-end.invariant stops
