use Rattle.gateway.proofs.Living.{compacted-in-life, compact-ends, compact-stops}
use Rattle.gateway.proofs.laws.compact_in_lives.Goals as goal

pub returns-clause-stopped : goal.returns-clause-stopped
returns-clause-stopped g c =
    let e = c.compact.ensures in
    compact-stops g.D.Disk.honest g.D.Disk.moment g.D.Disk.left g.D.Disk.seen g.D.Disk.failed g.met.D.Disk.reads g.met.D.Disk.earlier c.args.gateway.now c.compact.new.self e.honest e.stays_honest e.configured e.any_moment e.told

pub returns-clause-ok : goal.returns-clause-ok
returns-clause-ok g c =
    let e = c.compact.ensures in
    compacted-in-life g.D.Disk.honest g.D.Disk.moment g.D.Disk.left g.D.Disk.seen g.D.Disk.failed g.met.D.Disk.reads g.met.D.Disk.earlier c.args.gateway.now c.compact.new.self
    e.honest e.stays_honest e.configured e.any_moment e.told c.compact.result c.requires e.fell e.cause

pub returns-clause-err : goal.returns-clause-err
returns-clause-err g c =
    let e = c.compact.ensures in
    compact-ends g.D.Disk.honest g.D.Disk.moment g.D.Disk.left g.D.Disk.seen g.D.Disk.failed g.met.D.Disk.reads g.met.D.Disk.earlier c.args.gateway.now c.compact.new.self e.honest e.stays_honest e.configured e.any_moment e.told c.compact.result
