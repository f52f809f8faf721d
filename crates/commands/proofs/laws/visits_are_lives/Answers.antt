use Rattle.std.specs.Prelude.{⊤}
use Rattle.commands.proofs.Lived.{visits-are}
use Rattle.commands.proofs.laws.visits_are_lives.Goals as goal

pub returns-clause-visits : goal.returns-clause-visits
returns-clause-visits g c = visits-are g.D.Disk.honest g.D.Disk.moment g.D.Disk.left g.D.Disk.seen g.D.Disk.failed g.met.D.Disk.earlier g.C.Clients.came g.C.Peer.went g.C.Peer.ended g.C.Clients.left g.C.Clients.missed

pub returns-clause-unseen : goal.returns-clause-unseen
returns-clause-unseen g c = visits-are {C = Unit {0}} g.D.Disk.honest g.D.Disk.moment g.D.Disk.left g.D.Disk.seen g.D.Disk.failed g.met.D.Disk.earlier (λ a b. ⊤) (λ a b turns. ⊤) (λ a. ⊤) (λ a b. ⊤) (λ a b. ⊤)
