use Rattle.std.proofs.Common.{length}
use Rattle.descriptors.proofs.Lines.{Ahead, Behind}
use Rattle.descriptors.proofs.telling.value_of.Given as goal

abbrev pub invariant-loop-end : goal.invariant-loop-end
invariant-loop-end l = Behind l.text l.rest × Ahead l.text l.rest l.key

abbrev pub decreases-loop-end : goal.decreases-loop-end
decreases-loop-end l = length l.rest
