use Rattle.file_disk.specs.OneFile.{Fills}
use Rattle.file_disk.proofs.Causes.{asks_on, fills}
use Rattle.file_disk.proofs.disk.FileDisk.fill.Goals as goal

pub returns-clause-asked : goal.returns-clause-asked
returns-clause-asked g c =
    rw (← c.self.view_is) (asks_on (λ old new. Fills g.F.DiskFile.honest g.F.DiskFile.holds g.F.DiskFile.leaves c.args.at c.args.bytes.now c.read_at-answer.new.bytes c.read_at-answer.result old new) (λ old new. Fills g.F.DiskFile.honest g.F.DiskFile.holds g.F.DiskFile.leaves c.args.at c.args.bytes.now c.read_at-answer.new.bytes c.count.result old new) c.args.file c.self.inside.files c.read_at-answer.new.self c.count.new.self.files c.count.ensures.files
    (λ old new asked. fills g.F.DiskFile.honest g.F.DiskFile.holds g.F.DiskFile.leaves c.args.at c.args.bytes.now c.read_at-answer.new.bytes c.read_at-answer.result c.count.result old new c.count.ensures.answer asked) c.read_at-answer.ensures)
