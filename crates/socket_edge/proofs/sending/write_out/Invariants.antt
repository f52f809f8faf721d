use Rattle.std.proofs.Common.{length, ◌-◌, ◌≤◌, take}
use Rattle.socket_edge.specs.Serving.{HandsAll}
use Rattle.socket_edge.proofs.sending.write_out.Given as goal

abbrev pub invariant-loop-at : goal.invariant-loop-at
invariant-loop-at g l = (l.at ≤ length l.bytes) × HandsAll g.P.Peer.went l.fn.peer l.peer (take l.at l.bytes)

abbrev pub decreases-loop-at : goal.decreases-loop-at
decreases-loop-at g l = length l.bytes - l.at
