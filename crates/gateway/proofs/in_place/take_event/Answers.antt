use Rattle.std.proofs.Common.{[], ◌∷◌, ◌∙◌, sym}
use Rattle.std.proofs.lemmas.Bool.{false≢true}
use Rattle.std.proofs.lemmas.Result.{IfErr-weaker, IfOk-weaker, err_from_is_err_and}
use Rattle.gateway.proofs.Proceeding.{fails-before, fails-then, proceeds-then, safe-then}
use Rattle.gateway.proofs.in_place.take_event.Goals as goal

pub returns-in_err-settle_held_full-clause-err : goal.returns-in_err-settle_held_full-clause-err
returns-in_err-settle_held_full-clause-err g c =
    let p = err_from_is_err_and c.from_residual.result c.from_residual.ensures.1 in
    rw (p.1, p.2) (fails-before (c.args.event ∷ []) c.in_err-settle_held_full.ensures.err)

pub returns-in-Ok-clause-ok : goal.returns-in-Ok-clause-ok
returns-in-Ok-clause-ok g c = proceeds-then c.in_ok-settle_held_full.ensures.ok c.in-Ok.ensures.ok

pub returns-in-Ok-clause-any_moment : goal.returns-in-Ok-clause-any_moment
returns-in-Ok-clause-any_moment g c =
    let s = c.in_ok-settle_held_full.ensures in
    safe-then s.ok c.offer_event.new.gateway g.met.D.Disk.earlier s.any_moment c.offer_event.ensures.any_moment

-- the file was full

pub returns-then-is_full-clause-ok : goal.returns-then-is_full-clause-ok
returns-then-is_full-clause-ok g c =
    let refused = c.in-Err.ensures.err in
    IfOk-weaker c.take_event_behind_compaction.result _ _ (λ taken t. proceeds-then c.in_ok-settle_held_full.ensures.ok (rw (refused.0, refused.1) at t)) c.take_event_behind_compaction.ensures.ok

pub returns-then-is_full-clause-err : goal.returns-then-is_full-clause-err
returns-then-is_full-clause-err g c =
    let refused = c.in-Err.ensures.err in
    let s = c.in_ok-settle_held_full.ensures in
    IfErr-weaker c.take_event_behind_compaction.result _ _ (λ why t. fails-then s.ok s.state s.last (rw (refused.0, refused.1) at t)) c.take_event_behind_compaction.ensures.err

pub returns-then-is_full-clause-any_moment : goal.returns-then-is_full-clause-any_moment
returns-then-is_full-clause-any_moment g c =
    let s = c.in_ok-settle_held_full.ensures in
    let then = c.take_event_behind_compaction.ensures.any_moment in
    safe-then s.ok c.take_event_behind_compaction.new.gateway g.met.D.Disk.earlier s.any_moment (rw c.in-Err.ensures.err.1 at then)

-- it is refused

pub returns-else-is_full-clause-err : goal.returns-else-is_full-clause-err
returns-else-is_full-clause-err g c =
    let s = c.in_ok-settle_held_full.ensures in
    fails-then s.ok s.state s.last (c.in-Err.ensures.err.2 (λ full. absurd (false≢true (sym c.if-is_full.false ∙ c.is_full.ensures.1 full))))

pub returns-else-is_full-clause-any_moment : goal.returns-else-is_full-clause-any_moment
returns-else-is_full-clause-any_moment g c =
    let s = c.in_ok-settle_held_full.ensures in
    safe-then s.ok c.offer_event.new.gateway g.met.D.Disk.earlier s.any_moment c.offer_event.ensures.any_moment
