use Rattle.std.proofs.lemmas.Result.{err_from_is_err_and}
use Rattle.gateway.proofs.Runs.{flush-breaks, flush-carries, flush-keeps}
use Rattle.gateway.proofs.running.settle.Goals as goal

pub returns-in_err-settle-clause-err : goal.returns-in_err-settle-clause-err
returns-in_err-settle-clause-err g c =
    let p = err_from_is_err_and c.from_residual.result c.from_residual.ensures.1 in
    rw (p.1, p.2) (flush-breaks g.met.D.Disk.reads g.met.D.Disk.earlier c.in_err-settle.field-0.0 c.in_err-settle.ensures.synced)

pub returns-clause-ok : goal.returns-clause-ok
returns-clause-ok g c = flush-carries g.met.D.Disk.reads g.met.D.Disk.earlier c.in_ok-settle.ensures.synced

pub returns-in_err-settle-clause-any_moment : goal.returns-in_err-settle-clause-any_moment
returns-in_err-settle-clause-any_moment g c = flush-keeps g.met.D.Disk.reads g.met.D.Disk.earlier c.in_err-settle.ensures.synced

pub returns-clause-any_moment : goal.returns-clause-any_moment
returns-clause-any_moment g c = flush-keeps g.met.D.Disk.reads g.met.D.Disk.earlier c.in_ok-settle.ensures.synced
