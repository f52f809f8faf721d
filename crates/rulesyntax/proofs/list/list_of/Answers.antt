use Rattle.std.proofs.Common.{refl, sym, ◌∙◌}
use Rattle.std.proofs.lemmas.Result.{err_from_is_err_and}
use Rattle.rulesyntax.proofs.Loop.{stopped, list_done, list_on, list_stuck, list_refused, list_no_turn}
use Rattle.rulesyntax.proofs.list.list_of.Goals as goal

pub returns-then-ends : goal.returns-then-ends
returns-then-ends g c = list_done g.B.Body.steps _ c.loop.counter c.loop.body c.loop.rest.now c.skip_fill-item.result.now _ c.loop-test.true c.skip_fill-item.ensures (cc c.if-ends.true) c.loop.invariant.told

pub returns-in_err-braced : goal.returns-in_err-braced
returns-in_err-braced g c =
    let p = err_from_is_err_and c.from_residual.result c.from_residual.ensures.1 in
    rw (p.1, p.2) (list_refused g.B.Body.steps c.in_err-braced.field-0.0 _ c.loop.counter c.loop.body c.loop.rest.now c.skip_fill-item.result.now _ c.loop-test.true c.skip_fill-item.ensures (cc c.if-ends.false) c.in_err-braced.ensures.err c.loop.invariant.told)

pub loop-preserved : goal.loop-preserved
loop-preserved g c = record {
  end = refl;
  told = list_on g.B.Body.steps _ c.loop.counter c.loop.body c.loop.rest.now c.skip_fill-item.result.now c.step.new.self c.in_ok-braced.braced c.in_ok-braced.after.now _ c.loop-test.true c.skip_fill-item.ensures (cc c.if-ends.false) c.in_ok-braced.ensures.ok (sym c.stands_apart.ensures ∙ c.if-not-stands_apart.false) c.loop.invariant.told;
}

pub returns-then-not-stands_apart : goal.returns-then-not-stands_apart
returns-then-not-stands_apart g c = stopped c.stop.result _ c.stop.ensures (list_stuck g.B.Body.steps _ c.loop.counter c.loop.body c.loop.rest.now c.skip_fill-item.result.now c.step.new.self c.in_ok-braced.braced c.in_ok-braced.after.now _ c.loop-test.true c.skip_fill-item.ensures (cc c.if-ends.false) c.in_ok-braced.ensures.ok (sym c.stands_apart.ensures ∙ c.if-not-stands_apart.true) c.loop.invariant.told)

pub returns : goal.returns
returns g c = stopped c.stop-2.result _ c.stop-2.ensures (list_no_turn g.B.Body.steps _ c.loop.counter c.loop.body c.loop.rest.now _ c.loop-test.false c.loop.invariant.told)
