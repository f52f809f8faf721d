use Rattle.std.proofs.Common.{◌∙◌, ap}
use Rattle.trial_disk.specs.Choices.{restarted}
use Rattle.trial_disk.specs.Simulated.{Simulated}
use Rattle.trial_disk.proofs.Simulations.{crash_allowed}
use Rattle.trial_disk.proofs.sim.SimDisk.crash.Goals as goal

pub returns-clause-allowed : goal.returns-clause-allowed
returns-clause-allowed c =
    crash_allowed c.args.choice c.args.self.now.history c.crash.new.self (c.in_ok-crash.ensures.ok ∙ ap (λ (d : Simulated). restarted c.args.choice d.history) c.self.view_is)
