use Rattle.std.proofs.Common.{◌≡◌, length}
use Rattle.rulesyntax.specs.Reading.{fill_at}
use Rattle.rulesyntax.proofs.list.skip_fill.Given as goal

abbrev pub invariant-loop-tokens : goal.invariant-loop-tokens
invariant-loop-tokens l = fill_at l.tokens ≡ fill_at l.fn.tokens

abbrev pub decreases-loop-tokens : goal.decreases-loop-tokens
decreases-loop-tokens l = length l.tokens
