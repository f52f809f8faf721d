use Rattle.trial_disk.proofs.Metering as metering
use Rattle.trial_disk.proofs.laws.fuse_blows.Goals as goal

pub returns : goal.returns
returns c = metering.fuse_blows
