use Rattle.std.proofs.Common.{[], ◌++◌, List, ℕ, ap, sym, ◌∙◌, append-nil}
use Rattle.frames.specs.Answers.{frames}
use Rattle.frames.proofs.Fronts.{next_shorter}
use Rattle.socket_edge.proofs.Answers.{frames-append}
use Rattle.socket_edge.proofs.Loops.{SoFar-first, SoFar-next, SoFar-refused}
use Rattle.socket_edge.proofs.serving.offer_all.Goals as goal

pub loop-fault-init : goal.loop-fault-init
loop-fault-init g c = (
  [],
  sym (append-nil c.args.waiting.now.answered),
  SoFar-first g.D.Disk.honest g.D.Disk.moment g.D.Disk.left g.D.Disk.failed c.args.gateway.now c.args.waiting.now.unanswered,
  c.requires.stands,
  c.requires.in_place,
  c.requires.held,
)

pub loop-fault-preserved : goal.loop-fault-preserved
loop-fault-preserved g c =
    let l = c.loop-fault in
    let i = l.invariant in
    let t = c.in-Ok.ensures.ok in (
      i.0 ++ t.1,
      t.3 ∙ ap (λ (x : List ℕ). x ++ frames t.1) i.1 ∙ frames-append c.args.waiting.now.answered i.0 t.1,
      SoFar-next g.D.Disk.honest g.D.Disk.moment g.D.Disk.left g.D.Disk.failed c.args.gateway.now l.gateway c.take_next.new.gateway c.args.waiting.now.unanswered l.waiting.unanswered c.take_next.new.self.unanswered i.0 t.1 t.0 i.2 t.2 t.4,
      c.in-Ok.ensures.stands,
      c.in-Ok.ensures.in_place,
      c.in-Ok.ensures.held,
    )

pub loop-fault-smaller : goal.loop-fault-smaller
loop-fault-smaller g c =
    let t = c.in-Ok.ensures.ok in
    next_shorter c.loop-fault.waiting.unanswered t.0 c.take_next.new.self.unanswered t.2

pub returns-in-Cut-clause-offered : goal.returns-in-Cut-clause-offered
returns-in-Cut-clause-offered g c =
    let l = c.loop-fault in
    let i = l.invariant in
    (i.0, i.1, λ before. (i.2.events, i.2.reads, (rw (c.in-Cut.is, c.unanswered-in-loop-fault.ensures) at c.read_front.ensures), i.2.carries before))

pub returns-in-Bad-clause-offered : goal.returns-in-Bad-clause-offered
returns-in-Bad-clause-offered g c =
    let l = c.loop-fault in
    let i = l.invariant in
    (i.0, i.1, λ before. (i.2.events, i.2.reads, (rw (c.in-Bad.is, c.unanswered-in-loop-fault.ensures) at c.read_front.ensures), i.2.carries before))

pub returns-in-Err-clause-offered : goal.returns-in-Err-clause-offered
returns-in-Err-clause-offered g c =
    let l = c.loop-fault in
    let i = l.invariant in
    let t = c.in-Err.ensures.err in (
      i.0 ++ t.2,
      t.4 ∙ ap (λ (x : List ℕ). x ++ frames t.2) i.1 ∙ frames-append c.args.waiting.now.answered i.0 t.2,
      SoFar-refused g.D.Disk.honest g.D.Disk.moment g.D.Disk.left g.D.Disk.failed c.args.gateway.now l.gateway c.args.waiting.now.unanswered l.waiting.unanswered i.0 i.2 c.take_next.new.gateway t.0 t.1 c.take_next.new.self.unanswered t.2 c.in-Err.fault t.3 t.5,
    )
