use Rattle.std.proofs.lemmas.Result.{IfErr-weaker, on_ok_weaker}
use Rattle.gateway.proofs.Putting.{fails-here, fails-then, puts-here, puts-then, safe-then}
use Rattle.gateway.proofs.running.compact.Goals as goal

pub returns-clause-ok : goal.returns-clause-ok
returns-clause-ok g c = on_ok_weaker c.compact_settled.result (λ ok. puts-then c.in_ok-hand_out.ensures.ok (puts-here c.hand_out.new.answers.items ok)) c.compact_settled.ensures.ok

pub returns-clause-err : goal.returns-clause-err
returns-clause-err g c = IfErr-weaker c.compact_settled.result _ _ (λ why breaks. fails-then c.in_ok-hand_out.ensures.ok (fails-here c.hand_out.new.answers.items breaks)) c.compact_settled.ensures.err

pub returns-clause-any_moment : goal.returns-clause-any_moment
returns-clause-any_moment g c =
    let h = c.in_ok-hand_out.ensures in
    safe-then g.met.D.Disk.earlier c.compact_settled.new.gateway h.any_moment h.ok c.compact_settled.ensures.any_moment
