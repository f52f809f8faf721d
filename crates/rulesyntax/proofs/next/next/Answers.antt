use Rattle.rulesyntax.proofs.Seen.{next_inside}
use Rattle.rulesyntax.proofs.next.next.Goals as goal

pub returns-then-braces : goal.returns-then-braces
returns-then-braces c = rw c.if-braces.true (next_inside c.front.result c.args.tokens.now _ c.skip_lines.ensures c.front.ensures)
