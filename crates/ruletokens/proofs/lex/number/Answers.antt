use Rattle.std.proofs.Common.{◌∷◌, ap, ◌∙◌, refl}
use Rattle.ruletokens.specs.declared.lex.Shape.TheVariants as shape
use Rattle.ruletokens.specs.declared.lex.Class.TheVariants as class
use Rattle.ruletokens.specs.Tokens.{Text, token, numeral, kind_by, is_in}
use Rattle.ruletokens.proofs.Pieces.{run_begins}
use Rattle.ruletokens.proofs.lex.number.Goals as goal

pub returns : goal.returns
unfolding kind_by
returns c =
    let b = c.requires.0 in
    let more = c.run.result.0.now in
    let e = c.requires.1 ∙ ap (λ (u : Text). b ∷ u) c.run.ensures.parts in
    (b ∷ more, rw (c.numeral.ensures, c.before-2.ensures (b ∷ more) e) (run_begins shape.Numeral (is_in class.Numeral) (λ b bs. token (numeral (b ∷ bs))) (λ b bs. refl) c.args.text.now b more c.run.result.1.now e c.requires.2 c.run.ensures.all c.run.ensures.stops))
