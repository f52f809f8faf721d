use Rattle.machine.proofs.Beginnings.{begin-by-packets}
use Rattle.machine.proofs.laws.sessions_begin_by_packets.Goals as goal

pub returns : goal.returns
returns c = begin-by-packets
