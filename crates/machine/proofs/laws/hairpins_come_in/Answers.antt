use Rattle.machine.proofs.Hairpinning.{hairpins-come-in}
use Rattle.machine.proofs.laws.hairpins_come_in.Goals as goal

pub returns : goal.returns
returns c = hairpins-come-in
