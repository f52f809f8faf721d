use Rattle.trial_disk.proofs.Metering as metering
use Rattle.trial_disk.proofs.laws.fails_once.Goals as goal

pub returns : goal.returns
returns c = metering.fails_once
