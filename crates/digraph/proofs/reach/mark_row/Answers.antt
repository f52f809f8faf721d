use Rattle.digraph.proofs.LoopLemmas.{marked_more}
use Rattle.digraph.proofs.reach.mark_row.Goals as goal

pub loop-b-preserved : goal.loop-b-preserved
loop-b-preserved c = marked_more c.args.row.now c.args.marks.now c.loop-b.marks c.loop-b.b-index c.loop-b-test.true (rw c.loop-b.auto.marks (c.requires c.loop-b.b-index 0 c.loop-b-test.true)) c.loop-b.invariant
