use Rattle.std.proofs.Common.{arith}
use Rattle.diagnosis.proofs.Fronts.{last_range}
use Rattle.diagnosis.proofs.front.front_end.Goals as goal

pub returns : goal.returns
returns c = last_range c.args.file.now c.loop-high.low c.loop-high.high c.loop-high.invariant (omega (arith, c.loop-high-test.false, c.loop-high.invariant.order))
