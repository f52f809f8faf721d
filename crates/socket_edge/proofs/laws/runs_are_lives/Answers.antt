use Rattle.socket_edge.proofs.Lives.{runs-are, stops-are}
use Rattle.socket_edge.proofs.laws.runs_are_lives.Goals as goal

pub returns-clause-runs : goal.returns-clause-runs
returns-clause-runs g c = runs-are g.D.Disk.honest g.D.Disk.moment g.D.Disk.left g.D.Disk.seen g.met.D.Disk.earlier

pub returns-clause-stops : goal.returns-clause-stops
returns-clause-stops g c = stops-are g.D.Disk.honest g.D.Disk.moment g.D.Disk.left g.D.Disk.seen g.met.D.Disk.earlier
