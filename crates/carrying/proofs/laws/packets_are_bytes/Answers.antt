use Rattle.carrying.proofs.Bytes.{packets-are}
use Rattle.carrying.proofs.laws.packets_are_bytes.Goals as goal

pub returns : goal.returns
returns c = packets-are
