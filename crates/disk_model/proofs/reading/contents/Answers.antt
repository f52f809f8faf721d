use Rattle.disk_model.proofs.Looking.{looks_once, looks_twice}
use Rattle.disk_model.proofs.reading.contents.Goals as goal

pub returns-in_err-read_at-clause-looks : goal.returns-in_err-read_at-clause-looks
returns-in_err-read_at-clause-looks g c =
    looks_twice g.D.Disk.honest g.D.Disk.seen g.D.Disk.moment g.D.Disk.left g.met.D.Disk.earlier _ _ _
    (record { stays = c.len.ensures.seen; goes = c.len.ensures.crash })
    c.in_ok-len.ensures.stays_honest
    (record { stays = c.read_at.ensures.seen; goes = c.read_at.ensures.crash })

pub returns-clause-looks : goal.returns-clause-looks
returns-clause-looks g c =
    looks_twice g.D.Disk.honest g.D.Disk.seen g.D.Disk.moment g.D.Disk.left g.met.D.Disk.earlier _ _ _
    (record { stays = c.len.ensures.seen; goes = c.len.ensures.crash })
    c.in_ok-len.ensures.stays_honest
    (record { stays = c.read_at.ensures.seen; goes = c.read_at.ensures.crash })

pub returns-in_err-len-clause-looks : goal.returns-in_err-len-clause-looks
returns-in_err-len-clause-looks g c =
    looks_once g.D.Disk.honest g.D.Disk.seen g.D.Disk.moment g.D.Disk.left g.met.D.Disk.earlier _ _
    (record { stays = c.len.ensures.seen; goes = c.len.ensures.crash })

pub returns-in_err-bytes-clause-looks : goal.returns-in_err-bytes-clause-looks
returns-in_err-bytes-clause-looks g c =
    looks_once g.D.Disk.honest g.D.Disk.seen g.D.Disk.moment g.D.Disk.left g.met.D.Disk.earlier _ _
    (record { stays = c.len.ensures.seen; goes = c.len.ensures.crash })
