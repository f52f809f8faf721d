use Rattle.std.proofs.Common.{◌≡◌, length}
use Rattle.rulesyntax.specs.Reading.{skip}
use Rattle.rulesyntax.proofs.next.skip_lines.Given as goal

abbrev pub invariant-loop-tokens : goal.invariant-loop-tokens
invariant-loop-tokens l = skip l.tokens ≡ skip l.fn.tokens

abbrev pub decreases-loop-tokens : goal.decreases-loop-tokens
decreases-loop-tokens l = length l.tokens
