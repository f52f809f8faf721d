use Rattle.std.proofs.Common.{sym, subst, ◌≤◌}
use Rattle.machine.proofs.Lasting.{step-clock}
use Rattle.machine.proofs.Soundness.{later-above}
use Rattle.machine.proofs.laws.clock_never_falls.Goals as goal

pub returns : goal.returns
returns c = λ config s judged is_one sound. subst (λ n. s.clock ≤ n) (sym (step-clock config is_one s judged sound)) (later-above s.clock judged.moment)
