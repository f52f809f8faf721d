use Rattle.std.proofs.Common.{sym, ◌∙◌}
use Rattle.rulesyntax.proofs.Seen.{is_close_inside}
use Rattle.rulesyntax.proofs.next.is_close.Goals as goal

pub returns-then-braces : goal.returns-then-braces
returns-then-braces c = rw c.if-braces.true (c.is_close_here.ensures ∙ sym (is_close_inside c.args.tokens.now _ c.skip_lines.ensures))
