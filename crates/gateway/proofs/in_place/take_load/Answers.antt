use Rattle.std.proofs.Common.{refl}
use Rattle.gateway.proofs.Proceeding.{fails-unasked}
use Rattle.gateway.proofs.Runs.{still}
use Rattle.gateway.proofs.in_place.take_load.Goals as goal

pub returns-in_default-clause-err : goal.returns-in_default-clause-err
returns-in_default-clause-err g c = fails-unasked g.D.Disk.honest g.D.Disk.moment g.D.Disk.left g.D.Disk.failed c.args.gateway.now _

pub returns-in_default-clause-any_moment : goal.returns-in_default-clause-any_moment
returns-in_default-clause-any_moment g c = still _ _ _ _ g.met.D.Disk.earlier _ c.args.gateway.now refl
