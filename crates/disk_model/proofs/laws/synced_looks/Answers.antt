use Rattle.disk_model.proofs.Moments as moments
use Rattle.disk_model.proofs.laws.synced_looks.Goals as goal

pub returns : goal.returns
returns g c = λ old new file honest looked synced.
    moments.synced_looks g.D.Disk.moment g.D.Disk.left g.D.Disk.seen old new file (g.met.D.Disk.earlier new) looked synced
