use Rattle.std.proofs.Common.{length, ◌≡◌}
use Rattle.ruletokens.specs.Tokens.{digits_from}
use Rattle.ruletokens.proofs.lex.digits.Given as goal

abbrev pub invariant-loop-rest : goal.invariant-loop-rest
invariant-loop-rest l = digits_from l.most l.number l.rest ≡ digits_from l.most 0 l.digits

abbrev pub decreases-loop-rest : goal.decreases-loop-rest
decreases-loop-rest l = length l.rest
