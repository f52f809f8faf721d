use Rattle.packet.proofs.Fitting.{packets_fit}
use Rattle.packet.proofs.laws.packets_fit.Goals as goal

pub returns : goal.returns
returns c = packets_fit
