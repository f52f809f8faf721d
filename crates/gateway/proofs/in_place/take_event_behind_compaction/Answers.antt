use Rattle.std.proofs.Common.{[], ◌∷◌}
use Rattle.std.proofs.lemmas.Result.{err_from_is_err_and}
use Rattle.gateway.proofs.Proceeding.{fails-before, fails-then, proceeds-then, safe-then}
use Rattle.gateway.proofs.in_place.take_event_behind_compaction.Goals as goal

pub returns-in_err-make_room-clause-err : goal.returns-in_err-make_room-clause-err
returns-in_err-make_room-clause-err g c =
    let p = err_from_is_err_and c.from_residual.result c.from_residual.ensures.1 in
    rw (p.1, p.2) (fails-before (c.args.event ∷ []) c.in_err-make_room.ensures.err)

pub returns-in-Ok-clause-ok : goal.returns-in-Ok-clause-ok
returns-in-Ok-clause-ok g c = proceeds-then c.in_ok-make_room.ensures.ok c.in-Ok.ensures.ok

pub returns-in-Err-clause-err : goal.returns-in-Err-clause-err
returns-in-Err-clause-err g c =
    let r = c.in_ok-make_room.ensures in
    let refused = c.in-Err.ensures.err in
    fails-then r.ok r.state r.last (refused.2 (refused.3 r.roomy))

pub returns-in-Ok-clause-any_moment : goal.returns-in-Ok-clause-any_moment
returns-in-Ok-clause-any_moment g c =
    let r = c.in_ok-make_room.ensures in
    safe-then r.ok c.offer_event.new.gateway g.met.D.Disk.earlier r.any_moment c.offer_event.ensures.any_moment

pub returns-in-Err-clause-any_moment : goal.returns-in-Err-clause-any_moment
returns-in-Err-clause-any_moment g c =
    let r = c.in_ok-make_room.ensures in
    safe-then r.ok c.offer_event.new.gateway g.met.D.Disk.earlier r.any_moment c.offer_event.ensures.any_moment
