use Rattle.std.proofs.Common.{sym, ◌∙◌}
use Rattle.hairpin.proofs.Choosing.{pool-at, pool-first}
use Rattle.hairpin.proofs.translations.Translations.choose_used.Goals as goal

pub returns-in-Some : goal.returns-in-Some
returns-in-Some c = λ uses taken says tests.
    c.choose_at.ensures taken (tests c.in-Some.addr c.in-Some.ensures.listed) ∙ sym (pool-at uses taken c.args.self.now.external c.args.inside.port c.in-Some.addr (sym (c.used.ensures.choice uses says) ∙ c.in-Some.is))

pub returns-in-None : goal.returns-in-None
returns-in-None c = λ uses taken says tests.
    c.choose_first.ensures taken tests ∙ sym (pool-first uses taken c.args.self.now.external c.args.inside.port (sym (c.used.ensures.choice uses says) ∙ c.in-None.is))
