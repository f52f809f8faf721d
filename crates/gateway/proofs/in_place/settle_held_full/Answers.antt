use Rattle.std.proofs.Common.{[], refl}
use Rattle.std.proofs.lemmas.Result.{err_from_is_err_and}
use Rattle.gateway.proofs.Proceeding.{fails-held, proceeds-none, proceeds-settled}
use Rattle.gateway.proofs.Runs.{still}
use Rattle.gateway.proofs.in_place.settle_held_full.Goals as goal

pub returns-then-held-lt-MOST_HELD-clause-ok : goal.returns-then-held-lt-MOST_HELD-clause-ok
returns-then-held-lt-MOST_HELD-clause-ok g c = proceeds-none g.D.Disk.honest g.D.Disk.moment g.D.Disk.left g.D.Disk.failed c.args.gateway.now

pub returns-then-held-lt-MOST_HELD-clause-any_moment : goal.returns-then-held-lt-MOST_HELD-clause-any_moment
returns-then-held-lt-MOST_HELD-clause-any_moment g c = still _ _ _ _ g.met.D.Disk.earlier _ c.args.gateway.now refl

pub returns-in_err-settle-clause-err : goal.returns-in_err-settle-clause-err
returns-in_err-settle-clause-err g c =
    let p = err_from_is_err_and c.from_residual.result c.from_residual.ensures.1 in
    let e = c.in_err-settle.ensures in
    rw (p.1, p.2) (fails-held g.D.Disk.honest g.D.Disk.moment g.D.Disk.left g.D.Disk.failed c.args.gateway.now c.settle.new.gateway [] c.in_err-settle.field-0.0 e.err e.stays e.state e.last)

pub returns-clause-ok : goal.returns-clause-ok
returns-clause-ok g c = proceeds-settled g.D.Disk.honest g.D.Disk.moment g.D.Disk.left g.D.Disk.failed c.args.gateway.now c.settle.new.gateway c.in_ok-settle.ensures.ok c.in_ok-settle.ensures.none
