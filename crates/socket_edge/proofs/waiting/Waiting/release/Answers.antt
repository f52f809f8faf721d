use Rattle.std.proofs.Common.{◌≡◌, ◌≤◌, ◌++◌, [], length, take, drop, ap, arith, length-take-le}
use Rattle.std.proofs.lemmas.List.{drop_all}
use Rattle.socket_edge.specs.Exchange.{Exchange}
use Rattle.socket_edge.proofs.Placing.{whole-at}
use Rattle.socket_edge.proofs.waiting.Waiting.release.Goals as goal

pub returns : goal.returns
returns c =
    let self = c.self.inside in
    let i = c.self.invariant in
    let xs = self.bytes.items in
    let fits : self.held ≤ length xs = omega (arith, i.1, i.2, i.3) in
    let none : drop self.held (take self.held xs) ≡ [] = drop_all self.held (take self.held xs) (omega (arith, length-take-le self.held xs fits)) in
    rw (none, whole-at self.answered self.held xs i.0) (ap (λ (x : Exchange). record { answered = x.answered ++ x.held; held = []; unanswered = x.unanswered }) c.self.view_is)
