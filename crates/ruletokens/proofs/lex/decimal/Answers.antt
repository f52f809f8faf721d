use Rattle.std.proofs.Common.{◌≡◌, ◌≤◌, ℕ, Option, Some, None, sym, refl, ◌∙◌, arith}
use Rattle.std.specs.Prelude.{IfSome}
use Rattle.ruletokens.specs.Tokens.{Text, decimal}
use Rattle.ruletokens.proofs.Pieces.{digits_is, decimal_small}
use Rattle.ruletokens.proofs.lex.decimal.Goals as goal

small : (most : ℕ) (bs : Text) (r : Option ℕ) → r ≡ decimal most bs → IfSome r (λ n. n ≤ most)
small most bs (Some n) e = decimal_small most n bs (sym e)
small most bs None e = tt

pub returns-then-is_plain-clause-value : goal.returns-then-is_plain-clause-value
unfolding decimal
returns-then-is_plain-clause-value c = rw (sym c.is_plain.ensures ∙ c.if-is_plain.true) (c.digits.ensures ∙ digits_is c.args.most c.args.bytes.now 0 (omega arith))

pub returns-then-is_plain-clause-small : goal.returns-then-is_plain-clause-small
returns-then-is_plain-clause-small c = small c.args.most c.args.bytes.now c.digits.result (returns-then-is_plain-clause-value c)

pub returns-else-is_plain-clause-value : goal.returns-else-is_plain-clause-value
unfolding decimal
returns-else-is_plain-clause-value c = rw (sym c.is_plain.ensures ∙ c.if-is_plain.false) refl
