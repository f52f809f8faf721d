use Rattle.file_disk.proofs.Becomes.{written_shut}
use Rattle.file_disk.proofs.preparing.close.Goals as goal

pub returns-in-Err-clause-closed : goal.returns-in-Err-clause-closed
returns-in-Err-clause-closed g c =
    written_shut g.F.DiskFile.honest g.F.DiskFile.holds g.F.DiskFile.leaves c.write_fully.result c.args.file.now c.write_fully.new.self c.write_fully.ensures.puts

pub returns-in-Err-2-clause-closed : goal.returns-in-Err-2-clause-closed
returns-in-Err-2-clause-closed g c =
    written_shut g.F.DiskFile.honest g.F.DiskFile.holds g.F.DiskFile.leaves c.write_fully.result c.args.file.now c.write_fully.new.self c.write_fully.ensures.puts

pub returns-in_err-sync_file-clause-closed : goal.returns-in_err-sync_file-clause-closed
returns-in_err-sync_file-clause-closed g c = λ is bytes now one.
    let mid = c.in-Ok.ensures.puts.keeps.stays is in
    written_shut g.F.DiskFile.honest g.F.DiskFile.holds g.F.DiskFile.leaves c.write_fully.result c.args.file.now c.write_fully.new.self c.write_fully.ensures.puts is bytes (c.sync_file.ensures.syncs.crash mid bytes now) one
