use Rattle.gateway.proofs.in_place.take_packet.Goals as goal

pub returns-in-Err-clause-any_moment : goal.returns-in-Err-clause-any_moment
returns-in-Err-clause-any_moment g c = rw c.in-Err.ensures.err.0 at c.retake_packet.ensures.any_moment
