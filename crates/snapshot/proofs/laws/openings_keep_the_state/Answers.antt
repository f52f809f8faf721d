use Rattle.snapshot.proofs.Reopened.{left_behind}
use Rattle.snapshot.proofs.laws.openings_keep_the_state.Goals as goal

pub returns : goal.returns
returns g c = λ config. left_behind g.D.Disk.moment g.D.Disk.left config
