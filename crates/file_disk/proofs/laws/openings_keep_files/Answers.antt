use Rattle.file_disk.proofs.Becomes.{keep}
use Rattle.file_disk.proofs.laws.openings_keep_files.Goals as goal

pub returns : goal.returns
returns g c = keep g.F.DiskFile.honest g.F.DiskFile.holds g.F.DiskFile.leaves g.F.DiskFile.lacks_space g.met.F.DiskFile.reads
