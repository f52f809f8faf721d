use Rattle.disk_model.specs.Disk.{TornIn, Same}
use Rattle.disk_model.proofs.Moments.{called, follows, written_nothing, written_same}
use Rattle.std.proofs.Common.{refl}
use Rattle.disk_model.proofs.synced_write.write_synced.Goals as goal

pub returns-clause-any_moment : goal.returns-clause-any_moment
returns-clause-any_moment g c =
    λ honest.
    let moment = g.D.Disk.moment in
    let left = g.D.Disk.left in
    let d0 = c.args.disk.now in
    let d1 = c.write_at.new.self in
    let d2 = c.sync.new.self in
    let file = c.args.file in
    let W = TornIn file c.args.at c.args.bytes.now in
    let wrote = c.write_at.ensures.crash honest in
    let synced = c.sync.ensures.crash (c.in_ok-write_at.ensures.stays_honest honest) in
    follows moment left d0 d1 d2 W Same W
    (called moment left d0 d1 W (λ files was. written_nothing file c.args.at c.args.bytes.now files) wrote)
    (called moment left d1 d2 Same (λ files was other. refl) synced)
    (λ before files was w. w)
    (λ files from. let first = wrote.now from.0 from.1 in (first.0, first.1, written_same file c.args.at c.args.bytes.now first.0 from.0 files first.2 from.2))

pub returns-in_err-write_at-clause-torn : goal.returns-in_err-write_at-clause-torn
returns-in_err-write_at-clause-torn g c = λ honest. (g.D.Disk.seen c.args.disk.now, g.met.D.Disk.reads c.args.disk.now honest, c.write_at.ensures.torn honest)

pub returns-clause-torn : goal.returns-clause-torn
returns-clause-torn g c =
    λ honest.
    let wrote = c.write_at.ensures.crash honest in
    let mid = c.in_ok-write_at.ensures.stays_honest honest in
    wrote.now (g.D.Disk.seen c.sync.new.self) (c.sync.ensures.outcome mid)
