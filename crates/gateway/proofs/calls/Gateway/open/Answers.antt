use Rattle.std.proofs.Common.{◌∙◌, List, refl, sym, subst, ap}
use Rattle.sessions.specs.declared.session.Session.{Session}
use Rattle.disk_model.specs.Disk.{Leaves, Same}
use Rattle.durable.specs.Entering.{IsDurable, durable}
use Rattle.machine.specs.Noted.{IsResumed}
use Rattle.gateway.specs.HeldAnswers.{HeldAnswers}
use Rattle.gateway.proofs.Resting.{begun}
use Rattle.gateway.proofs.calls.Gateway.open.Goals as goal

pub resume_core-requires : goal.resume_core-requires
resume_core-requires g c = subst (λ (ss : List Session). IsDurable c.args.bounds (durable c.in-Ok.field-0.text.items ss)) (sym c.as_slice.ensures.value) c.in-Ok.ensures.sound

pub invariant_of-result : goal.invariant_of-result
invariant_of-result g c =
    let text = c.in-Ok.field-0.text.items in
    let resumed = subst (λ (ss : List Session). IsResumed c.args.bounds (durable text ss) c.args.moment c.in-Ok-resume_core.core.state) c.as_slice.ensures.value c.in-Ok-resume_core.ensures.state in
    let none = ap (λ (h : HeldAnswers). h.entries) c.in-Ok-resume_core.ensures.pending in (
      c.in-Ok.ensures.config ∙ sym c.in-Ok-resume_core.ensures.config,
      λ held. none,
      λ stands. ap (λ (h : HeldAnswers). h.place) c.in-Ok-resume_core.ensures.pending ∙ c.end.ensures,
      λ stands honest. begun c.args.bounds c.in-Ok-resume_core.core.config (g.D.Disk.seen c.in-Ok.field-0.store.disk) c.in-Ok-resume_core.pending.entries
          (durable text c.in-Ok.field-0.sessions.items) c.args.moment c.in-Ok-resume_core.core.state none c.in-Ok-resume_core.ensures.config c.in-Ok.ensures.sound resumed
          (c.in-Ok.ensures.ok (c.in-Ok.ensures.honest.1 honest)).1.reads,
      λ held. refl,
    )

pub returns-in-Ok-resume_core-clause-resumed : goal.returns-in-Ok-resume_core-clause-resumed
returns-in-Ok-resume_core-clause-resumed g c =
    let text = c.in-Ok.field-0.text.items in
    let resumed = subst (λ (ss : List Session). IsResumed c.args.bounds (durable text ss) c.args.moment c.in-Ok-resume_core.core.state) c.as_slice.ensures.value c.in-Ok-resume_core.ensures.state in
    (durable text c.in-Ok.field-0.sessions.items, c.in-Ok.ensures.sound, resumed)

pub returns-in-Ok-resume_core-clause-ok : goal.returns-in-Ok-resume_core-clause-ok
unfolding returns-in-Ok-resume_core-clause-resumed
returns-in-Ok-resume_core-clause-ok g c = λ honest.
    let ok = c.in-Ok.ensures.ok honest in
    (durable c.in-Ok.field-0.text.items c.in-Ok.field-0.sessions.items, ok.0, (returns-in-Ok-resume_core-clause-resumed g c).2, ok.1.leaves)

pub returns-in-Ok-clause-unwritten : goal.returns-in-Ok-clause-unwritten
returns-in-Ok-clause-unwritten g c = λ honest other.
    subst (λ (d : g.row.D.Denot). Leaves g.D.Disk.moment g.D.Disk.left c.args.disk d Same) (sym c.into_disk.ensures) (c.in-Ok.ensures.unwritten honest other)
