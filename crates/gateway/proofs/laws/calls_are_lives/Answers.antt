use Rattle.gateway.proofs.Living.{calls-are}
use Rattle.gateway.proofs.laws.calls_are_lives.Goals as goal

pub returns : goal.returns
returns g c = calls-are g.D.Disk.honest g.D.Disk.moment g.D.Disk.left g.D.Disk.seen g.D.Disk.failed g.met.D.Disk.reads g.met.D.Disk.earlier
