use Rattle.std.proofs.Common.{◌≡◌, false, sym, ◌∙◌, arith}
use Rattle.std.proofs.lemmas.Bool.{not-true, not-false}
use Rattle.packet.specs.Same.{same_endpoint}
use Rattle.mappings.proofs.Times.{one_at-itself}
use Rattle.hairpin.specs.Tallies.{mapping_of}
use Rattle.hairpin.proofs.Tally.{weight-translated, weight-plain}
use Rattle.hairpin.proofs.translations.Translations.release.Goals as goal

pub release_mapping-requires : goal.release_mapping-requires
release_mapping-requires c =
    let away : same_endpoint c.args.session.now.inside c.args.session.now.outside ≡ false = not-true _ (sym c.is_translated.ensures ∙ c.if-is_translated.true) in
    let mapping = mapping_of c.args.session.now in
    rw c.mapping_of.ensures (omega (arith, c.requires mapping, weight-translated mapping c.args.session.now away, one_at-itself mapping))

pub returns-then-is_translated-clause-counts : goal.returns-then-is_translated-clause-counts
returns-then-is_translated-clause-counts c = λ p.
    let away : same_endpoint c.args.session.now.inside c.args.session.now.outside ≡ false = not-true _ (sym c.is_translated.ensures ∙ c.if-is_translated.true) in
    let gains = rw c.mapping_of.ensures at c.release_mapping.ensures.loses p in
    omega (arith, gains, weight-translated p c.args.session.now away)

pub returns-else-is_translated-clause-counts : goal.returns-else-is_translated-clause-counts
returns-else-is_translated-clause-counts c = λ p.
    omega (arith, weight-plain p c.args.session.now (not-false _ (sym c.is_translated.ensures ∙ c.if-is_translated.false)))
