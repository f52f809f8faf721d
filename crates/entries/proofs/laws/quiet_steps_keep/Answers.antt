use Rattle.std.proofs.Common.{[]}
use Rattle.entries.proofs.Whole.{step-entered}
use Rattle.entries.proofs.laws.quiet_steps_keep.Goals as goal

pub returns : goal.returns
returns c = λ config s event judged is_one sound is none. step-entered config is_one s judged [] sound is.right none
