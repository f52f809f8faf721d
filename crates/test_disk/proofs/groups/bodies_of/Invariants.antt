use Rattle.std.proofs.Common.{length}
use Rattle.test_disk.proofs.groups.bodies_of.Given as goal

abbrev pub decreases-loop-file : goal.decreases-loop-file
decreases-loop-file l = length l.file
