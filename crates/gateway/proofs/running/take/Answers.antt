use Rattle.std.proofs.Common.{◌∷◌, [], sym, ◌∙◌}
use Rattle.std.proofs.lemmas.Bool.{false≢true}
use Rattle.std.proofs.lemmas.Result.{err_from_is_err_and, IfErr-weaker, on_ok_weaker}
use Rattle.gateway.proofs.Putting.{fails-before, fails-then, puts-then, safe-then}
use Rattle.gateway.proofs.running.take.Goals as goal

pub returns-in_err-flush_held_full-clause-err : goal.returns-in_err-flush_held_full-clause-err
returns-in_err-flush_held_full-clause-err g c =
    let p = err_from_is_err_and c.from_residual.result c.from_residual.ensures.1 in
    rw (p.1, p.2) (fails-before (c.args.event ∷ []) c.in_err-flush_held_full.ensures.err)

pub returns-in_default-clause-ok : goal.returns-in_default-clause-ok
returns-in_default-clause-ok g c = puts-then c.in_ok-flush_held_full.ensures.ok c.in_default.ensures.ok

pub returns-then-is_full-clause-ok : goal.returns-then-is_full-clause-ok
returns-then-is_full-clause-ok g c =
    let same = c.in-Err.ensures.err in
    on_ok_weaker c.take_behind_compaction.result (λ ok. puts-then c.in_ok-flush_held_full.ensures.ok (rw (← same.0, ← same.1, ← same.2) ok)) c.take_behind_compaction.ensures.ok

pub returns-then-is_full-clause-err : goal.returns-then-is_full-clause-err
returns-then-is_full-clause-err g c =
    let same = c.in-Err.ensures.err in
    IfErr-weaker c.take_behind_compaction.result _ _ (λ why off. fails-then c.in_ok-flush_held_full.ensures.ok (rw (← same.0, ← same.1, ← same.2) off)) c.take_behind_compaction.ensures.err

pub returns-clause-err : goal.returns-clause-err
returns-clause-err g c = fails-then c.in_ok-flush_held_full.ensures.ok (c.in-Err.ensures.why (λ full. false≢true (sym c.if-is_full.false ∙ c.is_full.ensures.1 full)))

pub returns-in_default-clause-any_moment : goal.returns-in_default-clause-any_moment
returns-in_default-clause-any_moment g c =
    let f = c.in_ok-flush_held_full.ensures in
    safe-then g.met.D.Disk.earlier c.offer.new.gateway f.any_moment f.ok c.in_default.ensures.any_moment

pub returns-then-is_full-clause-any_moment : goal.returns-then-is_full-clause-any_moment
returns-then-is_full-clause-any_moment g c =
    let same = c.in-Err.ensures.err in
    let f = c.in_ok-flush_held_full.ensures in
    safe-then g.met.D.Disk.earlier c.take_behind_compaction.new.gateway f.any_moment f.ok (λ before. rw (← same.1) (c.take_behind_compaction.ensures.any_moment before))

pub returns-clause-any_moment : goal.returns-clause-any_moment
returns-clause-any_moment g c =
    let f = c.in_ok-flush_held_full.ensures in
    safe-then g.met.D.Disk.earlier c.offer.new.gateway f.any_moment f.ok c.in-Err.ensures.any_moment
