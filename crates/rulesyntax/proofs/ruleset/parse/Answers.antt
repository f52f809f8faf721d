use Rattle.std.proofs.Common.{List, subst, sym, ◌∙◌, arith}
use Rattle.rulesyntax.specs.Grammar.{Spells}
use Rattle.ruletokens.specs.declared.token.Token.{Token}
use Rattle.rulesyntax.proofs.Refused.{refused}
use Rattle.rulesyntax.proofs.ruleset.parse.Goals as goal

pub returns-clause-only : goal.returns-clause-only
returns-clause-only c = λ rules s _. c.read.ensures.only rules (subst (λ (ts : List Token). Spells rules ts) (c.in_ok-tokens.ensures.one s.0 s.1 ∙ sym c.as_slice.ensures) s.2)

pub returns-clause-refused : goal.returns-clause-refused
returns-clause-refused c =
    refused c.args.text.now (omega (arith, c.if-text-gt-GREATEST_LENGTH.false)) c.read.result (λ rules s. c.read.ensures.only rules (subst (λ (ts : List Token). Spells rules ts) (c.in_ok-tokens.ensures.one s.0 s.1 ∙ sym c.as_slice.ensures) s.2)) c.read.ensures.kinds
