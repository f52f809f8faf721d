use Rattle.std.proofs.Common.{◌++◌, ◌∷◌, [], List, ℕ, refl, sym, ◌∙◌, ap, subst, append_assoc, arith, length, rules}
use Rattle.std.proofs.lemmas.List.{append-nil, nil_from_length}
use Rattle.std.proofs.lemmas.Result.{err_from_is_err_and, IfErr-weaker, on_ok_weaker}
use Rattle.machine.specs.declared.event.Answer.{Answer}
use Rattle.machine.specs.declared.event.Event.{Event}
use Rattle.gateway.specs.Running.{CarriesOn, Stands}
use Rattle.gateway.proofs.Putting.{fails-at, puts-at}
use Rattle.gateway.proofs.Runs.{behind-front, behind-through, breaks-last, carries-none, carries-then, ended, still, within-through}
use Rattle.gateway.proofs.running.take_all.Goals as goal

pub loop-event-init : goal.loop-event-init
loop-event-init g c =
    let now = c.args.gateway.now in
    let out = c.args.answers.now.items in
    record {
      can = tt;
      ends = tt;
      split = search rules;
      room = search rules;
      stands = search rules;
      carries = λ before. carries-none g.D.Disk.honest g.D.Disk.moment g.D.Disk.left g.D.Disk.failed now now before (before ++ out)
          (λ start events s. subst (λ (l : List (ℕ × Answer)). Stands g.D.Disk.honest g.D.Disk.moment g.D.Disk.left g.D.Disk.failed start now events l) (sym (ap (λ (l : List (ℕ × Answer)). before ++ l) c.requires.empty ∙ append-nil before)) s);
      through = λ before. within-through g.D.Disk.honest g.D.Disk.moment g.D.Disk.left g.D.Disk.failed now now [] before (still _ _ _ _ g.met.D.Disk.earlier now now refl before);
    }

pub loop-event-preserved : goal.loop-event-preserved
loop-event-preserved g c =
    let e = c.in_ok-take.ensures in
    let i = c.loop-event.invariant in
    let now = c.args.gateway.now in
    let one = c.loop-event.yielded in
    let more = c.in-Some.event ∷ [] in
    let out = c.loop-event.answers.items in
    record {
      can = tt;
      ends = tt;
      split = i.split ∙ ap (λ (es : List Event). one ++ es) c.in-Some.ensures.steps.0 ∙ sym (append_assoc one more c.next.new.self.rest.items);
      room = omega (arith, i.room, e.room, e.capacity, ap length c.in-Some.ensures.steps.0);
      stands = e.stands;
      carries = λ before. carries-then _ _ _ _ _ _ _ one more _ _ _ (i.carries before) (puts-at e.ok before);
      through = behind-through g.D.Disk.honest g.D.Disk.moment g.D.Disk.left g.D.Disk.failed g.met.D.Disk.earlier now c.loop-event.gateway c.take.new.gateway (one ++ more) one more out refl i.carries i.through (λ before. e.any_moment (before ++ out));
    }

-- an event is refused

pub returns-in_err-take-clause-breaks : goal.returns-in_err-take-clause-breaks
returns-in_err-take-clause-breaks g c =
    let p = err_from_is_err_and c.from_residual.result c.from_residual.ensures.1 in
    let i = c.loop-event.invariant in
    rw (p.1, p.2) (λ before. breaks-last g.D.Disk.honest g.D.Disk.moment g.D.Disk.left g.D.Disk.failed c.args.gateway.now c.loop-event.gateway c.take.new.gateway c.args.events.items c.loop-event.yielded
    (c.in-Some.event ∷ []) c.next.new.self.rest.items before (before ++ c.loop-event.answers.items) (before ++ c.take.new.answers.items) _
    (i.split ∙ ap (λ (es : List Event). c.loop-event.yielded ++ es) c.in-Some.ensures.steps.0) (i.carries before) (fails-at c.in_err-take.ensures.err before))

pub returns-in_err-take-clause-through : goal.returns-in_err-take-clause-through
returns-in_err-take-clause-through g c =
    let i = c.loop-event.invariant in
    behind-through g.D.Disk.honest g.D.Disk.moment g.D.Disk.left g.D.Disk.failed g.met.D.Disk.earlier c.args.gateway.now c.loop-event.gateway c.take.new.gateway
    c.args.events.items c.loop-event.yielded c.loop-event.event-iterator.rest.items c.loop-event.answers.items i.split i.carries i.through (λ before. c.take.ensures.any_moment (before ++ c.loop-event.answers.items))

pub returns-in_err-take-clause-through_front : goal.returns-in_err-take-clause-through_front
returns-in_err-take-clause-through_front g c =
    let p = err_from_is_err_and c.from_residual.result c.from_residual.ensures.1 in
    let i = c.loop-event.invariant in
    rw (p.1, p.2) (behind-front g.D.Disk.honest g.D.Disk.moment g.D.Disk.left g.D.Disk.failed g.met.D.Disk.earlier c.args.gateway.now c.loop-event.gateway c.take.new.gateway
    c.args.events.items c.loop-event.yielded c.loop-event.event-iterator.rest.items c.loop-event.answers.items i.split i.carries i.through (λ before. c.take.ensures.any_moment (before ++ c.loop-event.answers.items))
    (c.in-Some.event ∷ []) c.take.new.answers.items _ c.requires.begun (fails-at c.in_err-take.ensures.err []) c.in_err-take.ensures.not_taken.1)

pub returns-in_err-take-clause-err : goal.returns-in_err-take-clause-err
returns-in_err-take-clause-err g c =
    let p = err_from_is_err_and c.from_residual.result c.from_residual.ensures.1 in
    let front = returns-in_err-take-clause-through_front g c in
    rw (p.1, p.2) (rw (p.1, p.2) at front).0

-- all are taken

pub returns-clause-carries : goal.returns-clause-carries
returns-clause-carries g c =
    let i = c.loop-event.invariant in
    let rest = nil_from_length c.loop-event.event-iterator.rest.items (omega (arith, c.loop-event.event-iterator.rest.ok, c.in-None.ensures.steps.0)) in
    let out = c.hand_out.new.answers.items in
    on_ok_weaker c.hand_out.result (λ ok before.
    subst (λ (es : List Event). CarriesOn g.D.Disk.honest g.D.Disk.moment g.D.Disk.left g.D.Disk.failed c.args.gateway.now c.hand_out.new.gateway es before (before ++ out))
    (sym {A = List Event} (i.split ∙ ap (λ (es : List Event). c.loop-event.yielded ++ es) rest))
    (carries-then g.D.Disk.honest g.D.Disk.moment g.D.Disk.left g.D.Disk.failed c.args.gateway.now c.loop-event.gateway c.hand_out.new.gateway c.loop-event.yielded [] before (before ++ c.loop-event.answers.items) (before ++ out)
    (i.carries before) (puts-at ok before)))
    c.hand_out.ensures.ok

pub returns-clause-ok : goal.returns-clause-ok
returns-clause-ok g c =
    on_ok_weaker c.hand_out.result (λ carries.
    ended g.D.Disk.honest g.D.Disk.moment g.D.Disk.left g.D.Disk.seen g.D.Disk.failed g.met.D.Disk.reads g.met.D.Disk.earlier c.args.gateway.now c.hand_out.new.gateway c.args.events.items c.hand_out.new.answers.items (carries [] c.args.gateway.now [] c.requires.begun))
    (returns-clause-carries g c)

pub returns-clause-no_failure : goal.returns-clause-no_failure
returns-clause-no_failure g c = on_ok_weaker c.hand_out.result (λ carries. (carries [] c.args.gateway.now [] c.requires.begun).no_failure) (returns-clause-carries g c)

pub returns-clause-breaks : goal.returns-clause-breaks
returns-clause-breaks g c =
    let i = c.loop-event.invariant in
    IfErr-weaker c.hand_out.result _ _ (λ why breaks before.
    breaks-last g.D.Disk.honest g.D.Disk.moment g.D.Disk.left g.D.Disk.failed c.args.gateway.now c.loop-event.gateway c.hand_out.new.gateway c.args.events.items c.loop-event.yielded
    [] c.loop-event.event-iterator.rest.items before (before ++ c.loop-event.answers.items) (before ++ c.hand_out.new.answers.items) why
    i.split (i.carries before) (fails-at breaks before))
    c.hand_out.ensures.err

pub returns-clause-through : goal.returns-clause-through
returns-clause-through g c =
    let i = c.loop-event.invariant in
    behind-through g.D.Disk.honest g.D.Disk.moment g.D.Disk.left g.D.Disk.failed g.met.D.Disk.earlier c.args.gateway.now c.loop-event.gateway c.hand_out.new.gateway
    c.args.events.items c.loop-event.yielded c.loop-event.event-iterator.rest.items c.loop-event.answers.items i.split i.carries i.through (λ before. c.hand_out.ensures.any_moment (before ++ c.loop-event.answers.items))

pub returns-clause-through_front : goal.returns-clause-through_front
returns-clause-through_front g c =
    let i = c.loop-event.invariant in
    IfErr-weaker c.hand_out.result _ _ (λ why breaks. behind-front g.D.Disk.honest g.D.Disk.moment g.D.Disk.left g.D.Disk.failed g.met.D.Disk.earlier c.args.gateway.now c.loop-event.gateway c.hand_out.new.gateway
    c.args.events.items c.loop-event.yielded c.loop-event.event-iterator.rest.items c.loop-event.answers.items i.split i.carries i.through (λ before. c.hand_out.ensures.any_moment (before ++ c.loop-event.answers.items))
    [] c.hand_out.new.answers.items why c.requires.begun (fails-at breaks []) c.hand_out.ensures.last)
    c.hand_out.ensures.err

pub returns-clause-err : goal.returns-clause-err
returns-clause-err g c = IfErr-weaker c.hand_out.result _ _ (λ why front. front.0) (returns-clause-through_front g c)
