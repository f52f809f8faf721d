use Rattle.machine.proofs.Judging.{judged-once}
use Rattle.machine.proofs.laws.events_are_judged_once.Goals as goal

pub returns : goal.returns
returns c = judged-once (λ config text a b loads too. c.one_ruleset.ensures.text text a b loads.1 too.1)
