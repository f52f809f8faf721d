use Rattle.carrying.proofs.Lives.{carried-are, settled-are, stops-are}
use Rattle.carrying.proofs.laws.stops_are_lives.Goals as goal

pub returns-clause-stops : goal.returns-clause-stops
returns-clause-stops g c = stops-are g.D.Disk.honest g.D.Disk.moment g.D.Disk.left g.D.Disk.seen g.met.D.Disk.earlier c.events_are_judged_once.ensures

pub returns-clause-settled : goal.returns-clause-settled
returns-clause-settled g c = settled-are g.D.Disk.honest g.D.Disk.moment g.D.Disk.left g.D.Disk.seen g.met.D.Disk.earlier c.events_are_judged_once.ensures

pub returns-clause-runs : goal.returns-clause-runs
returns-clause-runs g c = carried-are g.D.Disk.honest g.D.Disk.moment g.D.Disk.left g.D.Disk.seen g.met.D.Disk.earlier c.events_are_judged_once.ensures
