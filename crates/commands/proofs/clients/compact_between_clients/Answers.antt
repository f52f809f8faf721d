use Rattle.std.proofs.Common.{◌≢◌, ◌<◌, Err, refl, sym, ap, ◌∙◌, arith, rules}
use Rattle.std.proofs.lemmas.List.{nil_from_length}
use Rattle.gateway.specs.declared.fault.GatewayFault.TheVariants as fault
use Rattle.gateway.proofs.Runs.{fault-is}
use Rattle.commands.proofs.Visited.{compacted-idles, compacted-meets-none, fallen-meets-none, still-idles}
use Rattle.commands.proofs.clients.compact_between_clients.Goals as goal

pub returns-then-has_fallen-clause-causes : goal.returns-then-has_fallen-clause-causes
returns-then-has_fallen-clause-causes g c = (fault.Reopen, refl, fallen-meets-none g.D.Disk.honest g.D.Disk.moment g.D.Disk.left g.D.Disk.seen g.D.Disk.failed g.met.D.Disk.reads g.met.D.Disk.earlier c.args.gateway.now (sym c.has_fallen.ensures.value ∙ c.if-has_fallen.true))

pub returns-then-held-gt0-clause-idles : goal.returns-then-held-gt0-clause-idles
returns-then-held-gt0-clause-idles g c = still-idles g.D.Disk.honest g.D.Disk.moment g.D.Disk.left g.D.Disk.seen g.D.Disk.failed g.met.D.Disk.reads g.met.D.Disk.earlier c.args.gateway.now c.stands.ensures

pub returns-in-Ok-clause-idles : goal.returns-in-Ok-clause-idles
returns-in-Ok-clause-idles g c =
    let e = c.compact.ensures in
    compacted-idles g.D.Disk.honest g.D.Disk.moment g.D.Disk.left g.D.Disk.seen g.D.Disk.failed g.met.D.Disk.reads g.met.D.Disk.earlier c.args.gateway.now c.stands.ensures c.compact.new.self
    e.honest e.stays_honest e.configured e.any_moment e.told (nil_from_length c.args.gateway.now.told.held (omega (arith, c.held.ensures.value, c.if-held-gt0.false)))

pub returns-in-Ok-2-clause-idles : goal.returns-in-Ok-2-clause-idles
returns-in-Ok-2-clause-idles g c =
    let e = c.compact.ensures in
    compacted-idles g.D.Disk.honest g.D.Disk.moment g.D.Disk.left g.D.Disk.seen g.D.Disk.failed g.met.D.Disk.reads g.met.D.Disk.earlier c.args.gateway.now c.stands.ensures c.compact.new.self
    e.honest e.stays_honest e.configured e.any_moment e.told (nil_from_length c.args.gateway.now.told.held (omega (arith, c.held.ensures.value, c.if-held-gt0.false)))

pub returns-in-Err-clause-idles : goal.returns-in-Err-clause-idles
returns-in-Err-clause-idles g c =
    let e = c.compact.ensures in
    compacted-idles g.D.Disk.honest g.D.Disk.moment g.D.Disk.left g.D.Disk.seen g.D.Disk.failed g.met.D.Disk.reads g.met.D.Disk.earlier c.args.gateway.now c.stands.ensures c.compact.new.self
    e.honest e.stays_honest e.configured e.any_moment e.told (nil_from_length c.args.gateway.now.told.held (omega (arith, c.held.ensures.value, c.if-held-gt0.false)))

pub returns-in-Err-clause-causes : goal.returns-in-Err-clause-causes
returns-in-Err-clause-causes g c =
    let e = c.in-Err.ensures in
    let why = c.in-Err.fault in
    let room : why ≢ fault.NoMemory = search rules in
    let grown : 1048576 < c.args.gateway.now.grown = search rules in (
      why,
      c.of_gateway.ensures,
      compacted-meets-none g.D.Disk.honest g.D.Disk.moment g.D.Disk.left g.D.Disk.seen g.D.Disk.failed g.met.D.Disk.reads g.met.D.Disk.earlier c.args.gateway.now c.stands.ensures c.compact.new.self
          why (fault-is why fault.Reopen e.reopen) (fault-is why fault.Device e.fell) e.causes (λ is. e.cause.failed (ap Err is)) e.cause.by_one (λ is. e.generations (ap Err is)) e.stays room grown,
    )
