use Rattle.std.proofs.Common.{arith}
use Rattle.text_marks.specs.Lines.{visible}
use Rattle.text_marks.proofs.Shown.{one_more}
use Rattle.text_marks.proofs.mark.put_visible.Goals as goal

pub loop-b-preserved : goal.loop-b-preserved
loop-b-preserved c = one_more visible c.args.bytes.now c.loop-b.b-index _ _ _ _ (omega arith) c.loop-b.invariant c.visible.ensures c.in_ok-push.ensures.items
