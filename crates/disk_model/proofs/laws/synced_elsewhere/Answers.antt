use Rattle.disk_model.proofs.Moments as moments
use Rattle.disk_model.proofs.laws.synced_elsewhere.Goals as goal

pub returns : goal.returns
returns g c = λ old new file written honest apart leaves elsewhere synced.
    moments.synced_elsewhere g.D.Disk.moment g.D.Disk.left g.D.Disk.seen old new file written (g.met.D.Disk.earlier new) apart leaves elsewhere synced
