use Rattle.rulesyntax.proofs.Seen.{close_inside}
use Rattle.rulesyntax.proofs.next.close.Goals as goal

pub returns-then-braces : goal.returns-then-braces
returns-then-braces c = rw c.if-braces.true (close_inside c.close_here.result c.args.tokens.now _ c.skip_lines.ensures c.close_here.ensures)
