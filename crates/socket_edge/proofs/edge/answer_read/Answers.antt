use Rattle.std.proofs.lemmas.Result.{err_from_is_err_and}
use Rattle.socket_edge.specs.Running.{events_in}
use Rattle.socket_edge.proofs.Closing.{compacted, not_compacted}
use Rattle.socket_edge.proofs.Stopping.{by-one-end}
use Rattle.socket_edge.proofs.edge.answer_read.Goals as goal

pub returns-in_err-count-clause-served : goal.returns-in_err-count-clause-served
returns-in_err-count-clause-served g c =
    let p = err_from_is_err_and c.from_residual.result c.from_residual.ensures.1 in
    let a = c.in_err-count.ensures.came in
    let one = by-one-end g.D.Disk.honest g.D.Disk.moment g.D.Disk.left g.met.D.Disk.earlier c.args.gateway.now c.answer_front.new.gateway (events_in c.args.waiting.now.unanswered) a.1 a.3.1 in
    rw (p.1, p.2) (a.1, a.2, a.3.0, a.3.1, one, a.4)

pub returns-in-Ok-clause-served : goal.returns-in-Ok-clause-served
returns-in-Ok-clause-served g c =
    let a = c.in_ok-count.ensures.came in
    let is = compacted g.D.Disk.honest g.D.Disk.moment g.D.Disk.left g.D.Disk.seen g.D.Disk.failed g.met.D.Disk.reads g.met.D.Disk.earlier c.args.gateway.now c.events_are_judged_once.ensures c.answer_front.new.gateway c.compact_grown.new.gateway
    c.args.waiting.now.unanswered c.answer_front.new.waiting.unanswered c.in_ok-count.count a.0 a.1 a.3 c.stands.ensures c.in-Ok.ensures.none c.in-Ok.ensures.ok in
    (a.1, a.2, is.0, is.1, is.2, a.4)

pub returns-in-Ok-clause-no_failure : goal.returns-in-Ok-clause-no_failure
returns-in-Ok-clause-no_failure g c =
    let a = c.in_ok-count.ensures.came in
    let is = compacted g.D.Disk.honest g.D.Disk.moment g.D.Disk.left g.D.Disk.seen g.D.Disk.failed g.met.D.Disk.reads g.met.D.Disk.earlier c.args.gateway.now c.events_are_judged_once.ensures c.answer_front.new.gateway c.compact_grown.new.gateway
    c.args.waiting.now.unanswered c.answer_front.new.waiting.unanswered c.in_ok-count.count a.0 a.1 a.3 c.stands.ensures c.in-Ok.ensures.none c.in-Ok.ensures.ok in
    is.3

pub returns-in-Err-clause-served : goal.returns-in-Err-clause-served
returns-in-Err-clause-served g c =
    let a = c.in_ok-count.ensures.came in
    let is = not_compacted g.D.Disk.honest g.D.Disk.moment g.D.Disk.left g.D.Disk.seen g.D.Disk.failed g.met.D.Disk.reads g.met.D.Disk.earlier c.args.gateway.now c.events_are_judged_once.ensures c.answer_front.new.gateway c.compact_grown.new.gateway
    c.args.waiting.now.unanswered c.answer_front.new.waiting.unanswered c.in_ok-count.count a.0 a.1 a.3 c.stands.ensures c.in-Err.ensures.none c.in-Err.fault c.in-Err.ensures.err in
    (a.1, a.2, is.0, is.1, is.2, a.4)

pub returns-in-Err-clause-why : goal.returns-in-Err-clause-why
returns-in-Err-clause-why g c =
    let a = c.in_ok-count.ensures.came in
    let is = not_compacted g.D.Disk.honest g.D.Disk.moment g.D.Disk.left g.D.Disk.seen g.D.Disk.failed g.met.D.Disk.reads g.met.D.Disk.earlier c.args.gateway.now c.events_are_judged_once.ensures c.answer_front.new.gateway c.compact_grown.new.gateway
    c.args.waiting.now.unanswered c.answer_front.new.waiting.unanswered c.in_ok-count.count a.0 a.1 a.3 c.stands.ensures c.in-Err.ensures.none c.in-Err.fault c.in-Err.ensures.err in
    is.3
