use Rattle.file_disk.specs.OneFile.{Measures}
use Rattle.file_disk.proofs.Causes.{asks_on, measures}
use Rattle.file_disk.proofs.disk.FileDisk.measure.Goals as goal

pub returns-clause-asked : goal.returns-clause-asked
returns-clause-asked g c =
    rw (← c.self.view_is) (asks_on (λ old new. Measures g.F.DiskFile.honest g.F.DiskFile.holds g.F.DiskFile.leaves c.len-answer.result old new) (λ old new. Measures g.F.DiskFile.honest g.F.DiskFile.holds g.F.DiskFile.leaves c.count.result old new) c.args.file c.self.inside.files c.len-answer.new.self c.count.new.self.files c.count.ensures.files
    (λ old new asked. measures g.F.DiskFile.honest g.F.DiskFile.holds g.F.DiskFile.leaves c.len-answer.result c.count.result old new c.count.ensures.answer asked) c.len-answer.ensures)
