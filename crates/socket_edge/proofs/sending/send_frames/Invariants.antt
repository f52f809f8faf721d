use Rattle.std.proofs.Common.{take, flat_map}
use Rattle.socket_edge.specs.Serving.{HandsAll}
use Rattle.frames.specs.Answers.{frame}
use Rattle.socket_edge.proofs.sending.send_frames.Given as goal

abbrev pub invariant-loop-pair : goal.invariant-loop-pair
invariant-loop-pair g l = HandsAll g.P.Peer.went l.fn.peer l.peer (flat_map frame (take l.pair-index l.answers))
