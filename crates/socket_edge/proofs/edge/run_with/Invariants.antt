use Rattle.std.proofs.Common.{List, ℕ}
use Rattle.packet.specs.Laws.{AreBytes}
use Rattle.socket_edge.proofs.Runs.{Going}
use Rattle.socket_edge.proofs.Stopping.{Walked}
use Rattle.socket_edge.proofs.Talks.{Counted}
use Rattle.socket_edge.proofs.edge.run_with.Given as goal

abbrev pub invariant-loop : goal.invariant-loop
invariant-loop g l = (given : List ℕ) × (written : List ℕ) × Walked g.D.Disk.honest g.D.Disk.moment g.D.Disk.left g.met.D.Disk.earlier g.P.Peer.went (Counted l.counter) l.fn.gateway l.gateway l.fn.peer l.peer given written
    × Going g.D.Disk.honest g.D.Disk.moment g.D.Disk.left g.D.Disk.failed g.met.D.Disk.earlier l.fn.gateway l.gateway given l.waiting.unanswered written l.count
    × AreBytes given
