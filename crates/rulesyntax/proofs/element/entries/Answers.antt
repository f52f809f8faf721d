use Rattle.std.proofs.Common.{refl, length, suc}
use Rattle.std.proofs.lemmas.Result.{err_from_is_err_and}
use Rattle.rulesyntax.specs.Reading.{seen, entries_from}
use Rattle.rulesyntax.proofs.Loop.{stopped, entries_on, entries_done, entries_refused, entries_no_turn}
use Rattle.rulesyntax.proofs.element.entries.Goals as goal

pub returns-in_err-entry : goal.returns-in_err-entry
returns-in_err-entry g c =
    let p = err_from_is_err_and c.from_residual.result c.from_residual.ensures.1 in
    rw (p.1, p.2) (entries_refused g.E.Entry.reads c.args.braces c.in_err-entry.field-0.0 c.loop.entries _ c.loop.counter (seen c.args.braces c.loop.rest.now) (entries_from g.E.Entry.reads c.args.braces (suc (length c.args.tokens.now)) (seen c.args.braces c.args.tokens.now)) c.loop-test.true c.in_err-entry.ensures c.loop.invariant.told)

pub returns-then-not-goes_on : goal.returns-then-not-goes_on
returns-then-not-goes_on g c =
    let b = c.args.braces in
    let behind = rw c.if-not-goes_on.true at c.comma-goes_on.ensures in
    rw c.in_ok-push.ensures.ok (entries_done g.E.Entry.reads b c.loop.entries _ c.loop.counter (seen b c.loop.rest.now) (seen b c.comma-goes_on.result.1.now) c.in_ok-entry.entry (seen b c.in_ok-entry.after.now) _ c.loop-test.true c.in_ok-entry.ensures behind c.loop.invariant.told)

pub loop-preserved : goal.loop-preserved
loop-preserved g c =
    let b = c.args.braces in
    let behind = rw c.if-not-goes_on.false at c.comma-goes_on.ensures in
    record {
      end = refl;
      told = rw c.in_ok-push.ensures.ok (entries_on g.E.Entry.reads b c.loop.entries _ c.loop.counter (seen b c.loop.rest.now) (seen b c.comma-goes_on.result.1.now) c.in_ok-entry.entry (seen b c.in_ok-entry.after.now) _ c.loop-test.true c.in_ok-entry.ensures behind c.loop.invariant.told);
    }

pub returns : goal.returns
returns g c = stopped c.stop.result _ c.stop.ensures (entries_no_turn g.E.Entry.reads c.args.braces c.loop.entries _ c.loop.counter (seen c.args.braces c.loop.rest.now) _ c.loop-test.false c.loop.invariant.told)
