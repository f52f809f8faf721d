use Rattle.session_lines.specs.Objects.{object}
use Rattle.session_lines.proofs.Grown.{kept_before, on_err, one_more}
use Rattle.session_lines.proofs.object.put_each.Goals as goal

pub loop-session-preserved : goal.loop-session-preserved
loop-session-preserved c = one_more object _ _ _ _ _ _ c.loop-session-test.true c.loop-session.invariant c.in_ok-put_object.ensures.ok

pub returns-in_err-put_object-clause-err : goal.returns-in_err-put_object-clause-err
returns-in_err-put_object-clause-err c = on_err _ (kept_before _ _ _ _ c.loop-session.invariant c.in_err-put_object.ensures.err)
