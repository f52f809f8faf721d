use Rattle.std.proofs.Common.{ℕ, ◌∷◌, Option, sym, ap, ◌∙◌}
use Rattle.ruletokens.specs.Tokens.{octets}
use Rattle.ruletokens.proofs.Pieces.{octets_dot, octets_end, stops_alone}
use Rattle.ruletokens.proofs.lex.octet.Goals as goal

pub returns-in-Some-decimal-clause-some : goal.returns-in-Some-decimal-clause-some
returns-in-Some-decimal-clause-some c =
    (octets_dot c.args.bytes.now c.run.result.0.now c.run.result.1.now c.in-Some.behind.now c.run.ensures.parts c.run.ensures.all c.in-Some.ensures.some ∙ ap (λ (o : Option ℕ). o ∷ octets c.in-Some.behind.now) (sym c.in-Some-decimal.ensures.value), c.in-Some-decimal.ensures.small)

pub returns-in-None-decimal-clause-none : goal.returns-in-None-decimal-clause-none
returns-in-None-decimal-clause-none c =
    rw (octets_dot c.args.bytes.now c.run.result.0.now c.run.result.1.now c.in-Some.behind.now c.run.ensures.parts c.run.ensures.all c.in-Some.ensures.some, ← c.in-None-decimal.ensures.value) tt

pub returns-in-None-clause-none : goal.returns-in-None-clause-none
returns-in-None-clause-none c =
    rw (octets_end c.args.bytes.now c.run.result.0.now c.run.result.1.now c.run.ensures.parts c.run.ensures.all c.run.ensures.stops c.in-None.ensures.none) (stops_alone _)
