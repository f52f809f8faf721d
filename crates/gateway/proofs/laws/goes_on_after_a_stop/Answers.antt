use Rattle.gateway.proofs.Lives.{goes-on}
use Rattle.gateway.proofs.laws.goes_on_after_a_stop.Goals as goal

pub returns : goal.returns
returns g c = λ config. goes-on g.D.Disk.honest g.D.Disk.moment g.D.Disk.left g.D.Disk.seen g.met.D.Disk.reads c.restarts_keep_the_state.ensures config
