use Rattle.std.proofs.Common.{ap}
use Rattle.trial_disk.proofs.Simulations.{history_of, goes_look}
use Rattle.trial_disk.proofs.sim.SimDiskDisk.len.Goals as goal

pub returns-in_err-look-clause-crash : goal.returns-in_err-look-clause-crash
returns-in_err-look-clause-crash c = goes_look c.args.self.now c.look.new.self (ap history_of c.in_err-look.ensures.err)

pub returns-clause-crash : goal.returns-clause-crash
returns-clause-crash c = goes_look c.args.self.now c.look.new.self (ap history_of c.in_ok-look.ensures.ok)
