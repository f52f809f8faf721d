use Rattle.std.proofs.lemmas.Str.{IsUtf8-from_ascii}
use Rattle.descriptors.proofs.Octal.{spelled_is_ascii}
use Rattle.descriptors.proofs.telling.octal.Goals as goal

pub returns-in-Err-clause-none : goal.returns-in-Err-clause-none
returns-in-Err-clause-none c n spelled = c.in-Err.ensures.cases.0 (IsUtf8-from_ascii c.args.digits.now (spelled_is_ascii c.args.digits.now spelled.0.0.1))
