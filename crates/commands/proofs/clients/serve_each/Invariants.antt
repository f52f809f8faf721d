use Rattle.std.proofs.Common.{◌≡◌, false}
use Rattle.commands.specs.Visits.{Visits}
use Rattle.commands.proofs.clients.serve_each.Given as goal

-- where there is no connection, nothing was done; a gateway that stood stands; and so many were served
abbrev pub invariant-loop : goal.invariant-loop
invariant-loop g l =
    (l.fn.connections ≡ 0 → (l.errors ≡ l.fn.errors) × (l.gateway ≡ l.fn.gateway))
    × (l.fn.gateway.fallen ≡ false → l.gateway.fallen ≡ false)
    × Visits g.D.Disk.honest g.D.Disk.moment g.D.Disk.left g.D.Disk.failed g.C.Clients.came g.C.Peer.went g.C.Peer.ended g.C.Clients.left l.counter l.fn.clients l.clients l.fn.gateway l.gateway
