use Rattle.commands.proofs.Found.{found-again}
use Rattle.commands.proofs.laws.openings_find.Goals as goal

pub returns : goal.returns
returns g c = λ config. found-again g.F.DiskFile.honest g.F.DiskFile.holds g.F.DiskFile.leaves config g.F.DiskFile.lacks_space c.openings_keep_files.ensures
