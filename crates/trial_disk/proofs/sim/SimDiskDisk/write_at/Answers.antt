use Rattle.trial_disk.proofs.Simulations.{goes_write, put_now, written_now}
use Rattle.trial_disk.proofs.sim.SimDiskDisk.write_at.Goals as goal

pub returns-clause-written : goal.returns-clause-written
returns-clause-written c = put_now c.args.self.now c.write.new.self c.args.file c.args.at c.args.bytes.now c.write.result c.write.ensures.ok

pub returns-clause-torn : goal.returns-clause-torn
returns-clause-torn c = written_now c.args.self.now c.write.new.self c.args.file c.args.at c.args.bytes.now c.write.result c.write.ensures.ok c.write.ensures.err

pub returns-clause-crash : goal.returns-clause-crash
returns-clause-crash c = goes_write c.args.self.now c.write.new.self c.args.file c.args.at c.args.bytes.now c.write.result c.write.ensures.ok c.write.ensures.err
