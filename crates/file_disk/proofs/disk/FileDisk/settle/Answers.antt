use Rattle.file_disk.specs.OneFile.{Syncs}
use Rattle.file_disk.proofs.Causes.{asks_on, syncs}
use Rattle.file_disk.proofs.disk.FileDisk.settle.Goals as goal

pub returns-clause-asked : goal.returns-clause-asked
returns-clause-asked g c =
    rw (← c.self.view_is) (asks_on (λ old new. Syncs g.F.DiskFile.honest g.F.DiskFile.holds g.F.DiskFile.leaves c.sync-answer.result old new) (λ old new. Syncs g.F.DiskFile.honest g.F.DiskFile.holds g.F.DiskFile.leaves c.count.result old new) c.args.file c.self.inside.files c.sync-answer.new.self c.count.new.self.files c.count.ensures.files
    (λ old new asked. syncs g.F.DiskFile.honest g.F.DiskFile.holds g.F.DiskFile.leaves c.sync-answer.result c.count.result old new c.count.ensures.answer asked) c.sync-answer.ensures)
