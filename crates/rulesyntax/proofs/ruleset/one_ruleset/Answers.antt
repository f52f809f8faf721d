use Rattle.std.proofs.Common.{subst, List}
use Rattle.ruletokens.specs.declared.token.Token.{Token}
use Rattle.rulesyntax.specs.Grammar.{Spells}
use Rattle.rulesyntax.proofs.Tables.{one_ruleset}
use Rattle.rulesyntax.proofs.ruleset.one_ruleset.Goals as goal

pub returns-clause-tokens : goal.returns-clause-tokens
returns-clause-tokens c = one_ruleset

pub returns-clause-text : goal.returns-clause-text
returns-clause-text c = λ text a b g h. one_ruleset g.0 a b g.2 (subst (λ (ts : List Token). Spells b ts) (c.one_token_list.ensures.unique text h.0 g.0 h.1 g.1) h.2)
