use Rattle.std.proofs.Common.{◌∷◌, []}
use Rattle.std.proofs.lemmas.Result.{err_from_is_err_and}
use Rattle.gateway.proofs.Putting.{fails-before, fails-then, puts-then, safe-then}
use Rattle.gateway.proofs.running.take_behind_compaction.Goals as goal

pub returns-in_err-compact-clause-err : goal.returns-in_err-compact-clause-err
returns-in_err-compact-clause-err g c =
    let p = err_from_is_err_and c.from_residual.result c.from_residual.ensures.1 in
    rw (p.1, p.2) (fails-before (c.args.event ∷ []) c.in_err-compact.ensures.err)

pub returns-in-Err-clause-err : goal.returns-in-Err-clause-err
returns-in-Err-clause-err g c = fails-then c.in_ok-compact.ensures.ok (c.in-Err.ensures.why (c.in-Err.ensures.full c.in_ok-compact.ensures.roomy))

pub returns-clause-ok : goal.returns-clause-ok
returns-clause-ok g c = puts-then c.in_ok-compact.ensures.ok c.in_default.ensures.ok

pub returns-in-Err-clause-any_moment : goal.returns-in-Err-clause-any_moment
returns-in-Err-clause-any_moment g c =
    let k = c.in_ok-compact.ensures in
    safe-then g.met.D.Disk.earlier c.offer.new.gateway k.any_moment k.ok c.in-Err.ensures.any_moment

pub returns-clause-any_moment : goal.returns-clause-any_moment
returns-clause-any_moment g c =
    let k = c.in_ok-compact.ensures in
    safe-then g.met.D.Disk.earlier c.offer.new.gateway k.any_moment k.ok c.in_default.ensures.any_moment
