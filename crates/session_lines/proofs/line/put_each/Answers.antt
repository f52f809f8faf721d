use Rattle.session_lines.specs.Lines.{line}
use Rattle.session_lines.proofs.Grown.{kept_before, on_err, one_more}
use Rattle.session_lines.proofs.line.put_each.Goals as goal

pub loop-session-preserved : goal.loop-session-preserved
loop-session-preserved c = one_more line _ _ _ _ _ _ c.loop-session-test.true c.loop-session.invariant c.in_ok-put_line.ensures.ok

pub returns-in_err-put_line-clause-err : goal.returns-in_err-put_line-clause-err
returns-in_err-put_line-clause-err c = on_err _ (kept_before _ _ _ _ c.loop-session.invariant c.in_err-put_line.ensures.err)
