use Rattle.file_disk.specs.OneFile.{Puts}
use Rattle.file_disk.proofs.Causes.{asks_on, puts}
use Rattle.file_disk.proofs.disk.FileDisk.put.Goals as goal

pub returns-clause-asked : goal.returns-clause-asked
returns-clause-asked g c =
    rw (← c.self.view_is) (asks_on (λ old new. Puts g.F.DiskFile.honest g.F.DiskFile.holds g.F.DiskFile.leaves c.args.at c.args.bytes.now c.write_at-answer.result old new) (λ old new. Puts g.F.DiskFile.honest g.F.DiskFile.holds g.F.DiskFile.leaves c.args.at c.args.bytes.now c.count.result old new) c.args.file c.self.inside.files c.write_at-answer.new.self c.count.new.self.files c.count.ensures.files
    (λ old new asked. puts g.F.DiskFile.honest g.F.DiskFile.holds g.F.DiskFile.leaves c.args.at c.args.bytes.now c.write_at-answer.result c.count.result old new c.count.ensures.answer asked) c.write_at-answer.ensures)
