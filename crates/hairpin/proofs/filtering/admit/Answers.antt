use Rattle.std.proofs.Common.{sym, ◌∙◌}
use Rattle.std.proofs.lemmas.Bool.{false≢true}
use Rattle.hairpin.proofs.Mapped.{given_known, given_unknown}
use Rattle.hairpin.proofs.filtering.admit.Goals as goal

pub returns-then-knows : goal.returns-then-knows
returns-then-knows c = λ m p i o.
    given_known c.args.bounds.now.filtering (sym c.filtering.ensures ∙ c.in-Address.is) c.args.table.now.held c.args.proto c.args.inside c.args.outside c.args.remote m p i o (c.knows.ensures.0 c.if-knows.true)

pub returns-else-knows : goal.returns-else-knows
returns-else-knows c = λ m p i o.
    given_unknown c.args.bounds.now.filtering (sym c.filtering.ensures ∙ c.in-Address.is) c.args.table.now.held c.args.proto c.args.inside c.args.outside c.args.remote m p i o
    (λ knows. false≢true (sym c.if-knows.false ∙ c.knows.ensures.1 knows))
