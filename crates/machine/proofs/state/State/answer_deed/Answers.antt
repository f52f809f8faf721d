use Rattle.machine.proofs.Rising.{core-takes}
use Rattle.machine.proofs.state.State.answer_deed.Goals as goal

pub invariant_of-self : goal.invariant_of-self
invariant_of-self g c =
    let own = c.self.inside in
    let right = rw c.in-Take.is at (rw (← c.self.view_is) at c.requires.right) in
    rw (c.put_in_force.ensures.text, c.put_in_force.ensures.rules) (core-takes own.bounds own.in_force.text c.in-Take.text own.in_force.rules c.in-Take.rules own.flows own.clock right c.self.invariant)
