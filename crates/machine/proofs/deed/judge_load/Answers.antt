use Rattle.std.proofs.Common.{List, ℕ, subst, None}
use Rattle.machine.specs.Judged.{AreRulesOf}
use Rattle.machine.proofs.deed.judge_load.Goals as goal

pub returns-in-Ok-None-clause-right : goal.returns-in-Ok-None-clause-right
returns-in-Ok-None-clause-right c = subst (λ (text : List ℕ). AreRulesOf c.args.bounds.now text None) c.as_slice.ensures.value (rw c.in-Ok-None.field-0-is at c.in-Ok-None.ensures)
