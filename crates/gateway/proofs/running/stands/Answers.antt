use Rattle.std.proofs.Common.{◌∙◌}
use Rattle.gateway.proofs.Runs.{begun}
use Rattle.gateway.proofs.running.stands.Goals as goal

pub returns : goal.returns
returns g c =
    let f = c.has_fallen.ensures in
    let up = f.value ∙ c.requires in
    begun g.D.Disk.honest g.D.Disk.moment g.D.Disk.left g.D.Disk.seen g.D.Disk.failed g.met.D.Disk.reads g.met.D.Disk.earlier c.args.gateway.now c.requires (f.stands up) (f.present up) (f.configured up)
