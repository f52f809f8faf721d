use Rattle.std.proofs.Common.{◌≤◌, length, sym, subst}
use Rattle.disk_model.specs.Disk.{Goes, TornIn}
use Rattle.disk_model.proofs.Moments.{written_nothing}
use Rattle.file_disk.specs.Filed.{Filed, OfBoth, both_hold, moment_of, LeftSince}
use Rattle.file_disk.proofs.Going.{goes_writes, goes_nowhere, torn_nowhere}
use Rattle.file_disk.proofs.disk.FileDiskDisk.write_at.Goals as goal

pub returns-clause-crash : goal.returns-clause-crash
returns-clause-crash g c = λ honest.
    let F = g.F.DiskFile.honest in
    let asked = c.put.ensures.asked in
    let same = c.in_ok-look.ensures.ok in
    let there = subst (λ (d : Filed _). OfBoth F d) (sym same) honest in
    let within = subst (λ (d : Filed _). OfBoth F d → c.args.at ≤ length (both_hold g.F.DiskFile.holds d c.args.file)) (sym same) c.requires in
    subst (λ (d : Filed _). Goes moment_of (LeftSince g.F.DiskFile.leaves) d c.put.new.self (TornIn c.args.file c.args.at c.args.bytes.now)) same
    (goes_writes F g.F.DiskFile.holds g.F.DiskFile.leaves c.look.new.self c.put.new.self c.args.file c.args.at c.args.bytes.now
    (record { here = asked.here.crash; elsewhere = asked.elsewhere; past = asked.past }) within there)

pub returns-in_err-look-clause-crash : goal.returns-in_err-look-clause-crash
returns-in_err-look-clause-crash g c = λ honest.
    goes_nowhere g.F.DiskFile.honest g.F.DiskFile.holds g.F.DiskFile.leaves c.args.self.now c.look.new.self (TornIn c.args.file c.args.at c.args.bytes.now) c.look.ensures.files
    (λ files. written_nothing c.args.file c.args.at c.args.bytes.now files)

pub returns-in_err-look-clause-torn : goal.returns-in_err-look-clause-torn
returns-in_err-look-clause-torn g c = λ honest.
    torn_nowhere g.F.DiskFile.honest g.F.DiskFile.holds g.F.DiskFile.leaves c.args.self.now c.look.new.self c.args.file c.args.at c.args.bytes.now c.look.ensures.files
