use Rattle.gateway.proofs.Bodies.{body_is, are_coded}
use Rattle.gateway.proofs.pending.Pending.group.Goals as goal

pub returns-clause-body : goal.returns-clause-body
returns-clause-body c = rw (← c.self.view_is) (body_is c.self.inside.group.body c.self.invariant.0.entries c.self.invariant.0.coded c.self.invariant.0.are)

pub returns-clause-coded : goal.returns-clause-coded
returns-clause-coded c = rw (← c.self.view_is) (are_coded c.self.inside.group.body c.self.invariant.0.entries c.self.invariant.0.coded c.self.invariant.0.are)
