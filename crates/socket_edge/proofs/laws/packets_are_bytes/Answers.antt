use Rattle.socket_edge.proofs.Fitting.{packets-fit}
use Rattle.socket_edge.proofs.laws.packets_are_bytes.Goals as goal

pub returns : goal.returns
returns c = packets-fit c.streams_read_exactly.ensures.law
