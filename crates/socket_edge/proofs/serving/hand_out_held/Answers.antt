use Rattle.std.proofs.Common.{[], refl, ◌∙◌}
use Rattle.gateway.proofs.Putting.{fails-at, puts-at}
use Rattle.socket_edge.proofs.Tending.{no-call, no-memory}
use Rattle.socket_edge.proofs.serving.hand_out_held.Goals as goal

pub returns-then-count-eq0-clause-ok : goal.returns-then-count-eq0-clause-ok
returns-then-count-eq0-clause-ok g c = rw c.new-answers.ensures.items (no-call g.D.Disk.honest g.D.Disk.moment g.D.Disk.left g.D.Disk.seen g.D.Disk.failed g.met.D.Disk.reads g.met.D.Disk.earlier c.args.gateway.now [])

pub returns-then-is_err-clause-err : goal.returns-then-is_err-clause-err
returns-then-is_err-clause-err g c = no-memory g.D.Disk.honest g.D.Disk.moment g.D.Disk.left g.D.Disk.seen g.D.Disk.failed g.met.D.Disk.reads g.met.D.Disk.earlier c.args.gateway.now [] [] [] refl

pub returns-in-Ok-clause-ok : goal.returns-in-Ok-clause-ok
returns-in-Ok-clause-ok g c = rw (c.reserve_exact.ensures.items ∙ c.new-answers.ensures.items) at (puts-at c.in-Ok.ensures.ok [])

pub returns-in-Err-clause-err : goal.returns-in-Err-clause-err
returns-in-Err-clause-err g c =
    let none = c.reserve_exact.ensures.items ∙ c.new-answers.ensures.items in
    rw (c.in-Err.ensures.no_items ∙ none, none) at (fails-at c.in-Err.ensures.err [])
