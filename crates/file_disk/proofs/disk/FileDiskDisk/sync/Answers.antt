use Rattle.file_disk.proofs.Going.{goes_looks, outcome_left}
use Rattle.file_disk.proofs.disk.FileDiskDisk.sync.Goals as goal

pub returns-clause-crash : goal.returns-clause-crash
returns-clause-crash g c =
    let asked = c.settle.ensures.asked in
    λ honest. goes_looks g.F.DiskFile.honest g.F.DiskFile.holds g.F.DiskFile.leaves c.args.self.now c.settle.new.self c.args.file
    (record { here = asked.here.crash; elsewhere = asked.elsewhere; past = asked.past }) honest

pub returns-clause-outcome : goal.returns-clause-outcome
returns-clause-outcome g c =
    let asked = c.settle.ensures.asked in
    λ honest. outcome_left g.F.DiskFile.honest g.F.DiskFile.holds g.F.DiskFile.leaves g.met.F.DiskFile.reads c.args.self.now c.settle.new.self c.args.file
    (record { here = asked.here.outcome; elsewhere = asked.elsewhere; past = asked.past }) honest
