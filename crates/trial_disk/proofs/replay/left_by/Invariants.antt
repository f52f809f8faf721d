use Rattle.std.proofs.Common.{◌≡◌, [], length, map}
use Rattle.trial_disk.specs.Recorded.{Since, heard_all}
use Rattle.trial_disk.specs.Following.{Follows}
use Rattle.trial_disk.specs.DoneCalls.{done_of}
use Rattle.trial_disk.proofs.replay.left_by.Given as goal

abbrev pub invariant-loop-rest : goal.invariant-loop-rest
invariant-loop-rest l = (since : Since) × (heard_all l.file (map done_of l.rest) since ≡ heard_all l.file (map done_of l.calls) (record { base = l.first; writes = [] })) × Follows l.choice since l.replay.read.items l.replay.left.items l.replay.number

abbrev pub decreases-loop-rest : goal.decreases-loop-rest
decreases-loop-rest l = length l.rest
