use Rattle.std.proofs.Common.{length}
use Rattle.ruletokens.proofs.Cut.{Told}
use Rattle.ruletokens.proofs.lex.tokens.Given as goal

abbrev pub invariant-loop-rest : goal.invariant-loop-rest
invariant-loop-rest l = Told l.tokens l.rest l.text

abbrev pub decreases-loop-rest : goal.decreases-loop-rest
decreases-loop-rest l = length l.rest
