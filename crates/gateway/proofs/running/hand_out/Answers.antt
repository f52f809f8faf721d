use Rattle.std.proofs.Common.{◌++◌, List, ℕ, ap, ◌∙◌}
use Rattle.std.proofs.lemmas.Result.{err_from_is_err_and}
use Rattle.machine.specs.declared.event.Answer.{Answer}
use Rattle.gateway.proofs.Putting.{fails-here}
use Rattle.gateway.proofs.Runs.{flush-breaks, flush-carries, flush-keeps}
use Rattle.gateway.proofs.running.hand_out.Goals as goal

pub returns-in_err-held-clause-err : goal.returns-in_err-held-clause-err
returns-in_err-held-clause-err g c =
    let p = err_from_is_err_and c.from_residual.result c.from_residual.ensures.1 in
    rw (p.1, p.2) (fails-here c.args.answers.now.items (flush-breaks g.met.D.Disk.reads g.met.D.Disk.earlier c.in_err-held.field-0.0 c.in_err-held.ensures.synced))

pub returns-clause-ok : goal.returns-clause-ok
returns-clause-ok g c = record {
  out = c.args.gateway.now.told.held;
  behind = c.put_all.ensures.items ∙ ap (λ (l : List (ℕ × Answer)). c.args.answers.now.items ++ l) c.in_ok-held.ensures.answers;
  carries = flush-carries g.met.D.Disk.reads g.met.D.Disk.earlier c.in_ok-held.ensures.synced;
}

pub returns-in_err-held-clause-any_moment : goal.returns-in_err-held-clause-any_moment
returns-in_err-held-clause-any_moment g c = flush-keeps g.met.D.Disk.reads g.met.D.Disk.earlier c.in_err-held.ensures.synced

pub returns-clause-any_moment : goal.returns-clause-any_moment
returns-clause-any_moment g c = flush-keeps g.met.D.Disk.reads g.met.D.Disk.earlier c.in_ok-held.ensures.synced
