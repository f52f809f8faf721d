use Rattle.std.proofs.Common.{◌∷◌, ap, ◌∙◌, refl}
use Rattle.ruletokens.specs.declared.lex.Shape.TheVariants as shape
use Rattle.ruletokens.specs.declared.lex.Class.TheVariants as class
use Rattle.ruletokens.specs.Tokens.{Text, blank, kind_by, is_in}
use Rattle.ruletokens.proofs.Pieces.{run_begins}
use Rattle.ruletokens.proofs.lex.comment.Goals as goal

pub returns : goal.returns
unfolding kind_by
returns c =
    let b = c.requires.0 in
    let more = c.run.result.0.now in
    (b ∷ more, run_begins shape.Comment (is_in class.Line) (λ b bs. blank) (λ b bs. refl) c.args.text.now b more c.run.result.1.now (c.requires.1 ∙ ap (λ (u : Text). b ∷ u) c.run.ensures.parts) c.requires.2 c.run.ensures.all c.run.ensures.stops)
