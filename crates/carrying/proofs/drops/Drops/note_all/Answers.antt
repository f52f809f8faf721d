use Rattle.carrying.proofs.Noted.{more-then}
use Rattle.carrying.proofs.drops.Drops.note_all.Goals as goal

pub loop-request-preserved : goal.loop-request-preserved
loop-request-preserved c = (more-then c.args.self.now c.loop-request.self c.note_one.new.self c.loop-request.invariant.0 c.note_one.ensures.more, c.note_one.ensures.bounded)
