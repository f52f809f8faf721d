use Rattle.machine.proofs.Lasting.{step-unchanged}
use Rattle.machine.proofs.laws.only_loads_change_rules.Goals as goal

pub returns : goal.returns
returns c = λ config s event judged is_one sound is none. step-unchanged config is_one s event judged sound is none
