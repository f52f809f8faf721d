use Rattle.trial_disk.proofs.Simulations.{goes_sync, seen_sync, outcome_sync, durable_sync}
use Rattle.trial_disk.proofs.sim.SimDiskDisk.sync.Goals as goal

pub returns-clause-synced : goal.returns-clause-synced
returns-clause-synced c = durable_sync c.args.self.now c.settle.new.self c.args.file c.settle.result c.settle.ensures.ok

pub returns-clause-seen : goal.returns-clause-seen
returns-clause-seen c = seen_sync c.args.self.now c.settle.new.self c.args.file c.settle.result c.settle.ensures.ok c.settle.ensures.err

pub returns-clause-outcome : goal.returns-clause-outcome
returns-clause-outcome c = outcome_sync c.args.self.now c.settle.new.self (seen_sync c.args.self.now c.settle.new.self c.args.file c.settle.result c.settle.ensures.ok c.settle.ensures.err)

pub returns-clause-crash : goal.returns-clause-crash
returns-clause-crash c = goes_sync c.args.self.now c.settle.new.self c.args.file c.settle.result c.settle.ensures.ok c.settle.ensures.err
