use Rattle.std.proofs.Common.{[], ◌++◌, List, ℕ, ap, sym, subst, Result, ◌∙◌, append-nil}
use Rattle.machine.specs.declared.event.Answer.{Answer}
use Rattle.socket_edge.specs.declared.fault.EdgeFault.{EdgeFault}
use Rattle.socket_edge.specs.Exchange.{Exchange}
use Rattle.socket_edge.specs.Serving.{Closed}
use Rattle.socket_edge.proofs.Closing.{closes, fails, fallen}
use Rattle.socket_edge.proofs.serving.close.Goals as goal

pub returns-then-has_fallen-clause-closed : goal.returns-then-has_fallen-clause-closed
returns-then-has_fallen-clause-closed g c = (
  [],
  sym (append-nil c.args.waiting.now.answered),
  λ start bytes rest before begun o.
      subst (λ (out : List (ℕ × Answer)). Closed g.D.Disk.honest g.D.Disk.moment g.D.Disk.left g.D.Disk.failed c.end_at.result bytes rest start c.args.gateway.now out) (sym (append-nil before))
      (subst (λ (r : Result (Unit {0}) EdgeFault). Closed g.D.Disk.honest g.D.Disk.moment g.D.Disk.left g.D.Disk.failed r bytes rest start c.args.gateway.now before) (sym c.end_at.ensures)
      (fallen g.D.Disk.honest g.D.Disk.moment g.D.Disk.left g.D.Disk.seen g.D.Disk.failed g.met.D.Disk.reads g.met.D.Disk.earlier start c.args.halt c.args.gateway.now bytes rest before begun o (sym c.has_fallen.ensures.value ∙ c.if-has_fallen.true))),
)

pub returns-in-Err-clause-closed : goal.returns-in-Err-clause-closed
returns-in-Err-clause-closed g c =
    let e = c.in-Err.ensures in (
      [],
      sym (append-nil c.args.waiting.now.answered),
      λ start bytes rest before begun o.
          fails g.D.Disk.honest g.D.Disk.moment g.D.Disk.left g.D.Disk.seen g.D.Disk.failed g.met.D.Disk.reads g.met.D.Disk.earlier start c.args.halt c.args.gateway.now c.settle.new.gateway bytes rest
          before (before ++ []) c.in-Err.fault begun o (rw (append-nil before) (e.err before)) (sym c.has_fallen.ensures.value ∙ c.if-has_fallen.false) e.device,
    )

pub returns-in-Ok-clause-closed : goal.returns-in-Ok-clause-closed
returns-in-Ok-clause-closed g c =
    let e = c.in-Ok.ensures in
    let held = c.args.gateway.now.told.held in (
      held,
      ap (λ (x : Exchange). x.answered) c.release.ensures ∙ ap (λ (zs : List ℕ). c.args.waiting.now.answered ++ zs) c.requires.held,
      λ start bytes rest before begun o.
          subst (λ (r : Result (Unit {0}) EdgeFault). Closed g.D.Disk.honest g.D.Disk.moment g.D.Disk.left g.D.Disk.failed r bytes rest start c.settle.new.gateway (before ++ held)) (sym c.end_at-in-Ok.ensures)
          (closes g.D.Disk.honest g.D.Disk.moment g.D.Disk.left g.D.Disk.seen g.D.Disk.failed g.met.D.Disk.reads g.met.D.Disk.earlier start c.args.halt c.args.gateway.now c.settle.new.gateway bytes rest
          before (before ++ held) begun o (e.ok before) (sym c.has_fallen.ensures.value ∙ c.if-has_fallen.false) e.none e.generation),
    )
