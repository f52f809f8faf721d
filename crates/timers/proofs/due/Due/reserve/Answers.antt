use Rattle.timers.proofs.Shown.{IsRow-same, idles-same}
use Rattle.timers.proofs.due.Due.reserve.Goals as goal

pub invariant_of-self : goal.invariant_of-self
invariant_of-self c = IsRow-same _ _ c.grow.ensures.same c.grow.ensures.few c.self.invariant

pub returns-clause-same : goal.returns-clause-same
returns-clause-same c = rw (← c.self.view_is) (idles-same _ _ c.grow.ensures.same)
