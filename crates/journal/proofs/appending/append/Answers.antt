use Rattle.journal.proofs.Stages.{body_written, body_reads, gate_written, gate_reads, reads_group, stands}
use Rattle.journal.proofs.appending.append.Goals as goal

pub returns-in_err-write_synced-clause-any_moment : goal.returns-in_err-write_synced-clause-any_moment
returns-in_err-write_synced-clause-any_moment g c = λ honest.
    body_written g.D.Disk.moment g.D.Disk.left g.D.Disk.seen c.args.file c.args.at c.args.group.now.body c.as_bytes-bytes.result.now _ _ (c.requires honest) (c.write_synced.ensures.any_moment honest)

pub returns-in_err-write_synced-2-clause-any_moment : goal.returns-in_err-write_synced-2-clause-any_moment
returns-in_err-write_synced-2-clause-any_moment g c = λ honest.
    let mid = c.in_ok-write_synced.ensures.stays_honest honest in
    gate_written g.D.Disk.moment g.D.Disk.left g.D.Disk.seen c.args.file c.args.at c.args.group.now.body c.as_bytes-bytes.result.now _ c.write_synced.new.disk _ c.as_bytes-bytes.ensures.bytes c.as_bytes-bytes.ensures.fits (c.requires honest)
    (g.met.D.Disk.earlier c.write_synced.new.disk)
    (c.write_synced.ensures.any_moment honest) (c.in_ok-write_synced.ensures.written honest) (c.in_ok-write_synced.ensures.synced honest) (c.write_synced-2.ensures.any_moment mid)

pub returns-clause-any_moment : goal.returns-clause-any_moment
returns-clause-any_moment g c = λ honest.
    let mid = c.in_ok-write_synced.ensures.stays_honest honest in
    gate_written g.D.Disk.moment g.D.Disk.left g.D.Disk.seen c.args.file c.args.at c.args.group.now.body c.as_bytes-bytes.result.now _ c.write_synced.new.disk _ c.as_bytes-bytes.ensures.bytes c.as_bytes-bytes.ensures.fits (c.requires honest)
    (g.met.D.Disk.earlier c.write_synced.new.disk)
    (c.write_synced.ensures.any_moment honest) (c.in_ok-write_synced.ensures.written honest) (c.in_ok-write_synced.ensures.synced honest) (c.write_synced-2.ensures.any_moment mid)

pub returns-clause-ok : goal.returns-clause-ok
returns-clause-ok g c = λ honest.
    let mid = c.in_ok-write_synced.ensures.stays_honest honest in
    stands g.D.Disk.moment g.D.Disk.left g.D.Disk.seen c.args.file c.args.at c.args.group.now.body c.as_bytes-bytes.result.now _ c.write_synced.new.disk _ c.as_bytes-bytes.ensures.bytes c.as_bytes-bytes.ensures.fits (c.requires honest)
    (c.in_ok-write_synced.ensures.written honest) (c.in_ok-write_synced-2.ensures.written mid) (c.in_ok-write_synced-2.ensures.synced mid)

pub returns-clause-written : goal.returns-clause-written
returns-clause-written g c = λ honest.
    reads_group g.D.Disk.moment g.D.Disk.left g.D.Disk.seen c.args.file c.args.at c.args.group.now.body c.as_bytes-bytes.result.now _ c.write_synced.new.disk _ c.as_bytes-bytes.ensures.bytes (c.requires honest)
    (c.in_ok-write_synced.ensures.written honest) (c.in_ok-write_synced-2.ensures.written (c.in_ok-write_synced.ensures.stays_honest honest))

pub returns-in_err-write_synced-clause-seen : goal.returns-in_err-write_synced-clause-seen
returns-in_err-write_synced-clause-seen g c = λ honest.
    body_reads g.D.Disk.moment g.D.Disk.left g.D.Disk.seen c.args.file c.args.at c.args.group.now.body c.as_bytes-bytes.result.now c.args.disk.now c.write_synced.new.disk (c.requires honest) (c.write_synced.ensures.torn honest)

pub returns-in_err-write_synced-2-clause-seen : goal.returns-in_err-write_synced-2-clause-seen
returns-in_err-write_synced-2-clause-seen g c = λ honest.
    let mid = c.in_ok-write_synced.ensures.stays_honest honest in
    gate_reads g.D.Disk.moment g.D.Disk.left g.D.Disk.seen c.args.file c.args.at c.args.group.now.body c.as_bytes-bytes.result.now c.args.disk.now c.write_synced.new.disk c.write_synced-2.new.disk c.as_bytes-bytes.ensures.bytes c.as_bytes-bytes.ensures.fits (c.requires honest)
    (g.met.D.Disk.earlier c.write_synced.new.disk)
    (c.write_synced.ensures.any_moment honest) (c.in_ok-write_synced.ensures.written honest) (c.in_ok-write_synced.ensures.synced honest) (c.write_synced-2.ensures.torn mid)

pub returns-clause-seen : goal.returns-clause-seen
returns-clause-seen g c = λ honest.
    let mid = c.in_ok-write_synced.ensures.stays_honest honest in
    gate_reads g.D.Disk.moment g.D.Disk.left g.D.Disk.seen c.args.file c.args.at c.args.group.now.body c.as_bytes-bytes.result.now c.args.disk.now c.write_synced.new.disk c.write_synced-2.new.disk c.as_bytes-bytes.ensures.bytes c.as_bytes-bytes.ensures.fits (c.requires honest)
    (g.met.D.Disk.earlier c.write_synced.new.disk)
    (c.write_synced.ensures.any_moment honest) (c.in_ok-write_synced.ensures.written honest) (c.in_ok-write_synced.ensures.synced honest) (c.write_synced-2.ensures.torn mid)
