use Rattle.ruletokens.proofs.Cut.{one_cut}
use Rattle.ruletokens.proofs.Lexed.{has_tokens}
use Rattle.ruletokens.proofs.lex.one_token_list.Goals as goal

pub returns-clause-exists : goal.returns-clause-exists
returns-clause-exists c = has_tokens

pub returns-clause-unique : goal.returns-clause-unique
returns-clause-unique c = one_cut
