use Rattle.std.proofs.Common.{[], ◌∷◌, ap, ◌∙◌, refl}
use Rattle.ruletokens.specs.declared.token.Token.TheVariants.{Wrong}
use Rattle.ruletokens.specs.declared.lex.Shape.TheVariants as shape
use Rattle.ruletokens.specs.Tokens.{Text, token, blank, kind_by}
use Rattle.ruletokens.proofs.Pieces.{both_begin, one_begins}
use Rattle.ruletokens.proofs.lex.escape.Goals as goal

pub returns-in-Some : goal.returns-in-Some
unfolding kind_by
returns-in-Some c =
    let b = c.requires.0 in
    (b ∷ 10 ∷ [], both_begin shape.Escape (token Wrong) 10 blank (λ b bs. refl) c.args.text.now b c.in-Some.rest.now (c.requires.1 ∙ ap (λ (u : Text). b ∷ u) c.in-Some.ensures.some) c.requires.2 refl)

pub returns-in-None : goal.returns-in-None
unfolding kind_by
returns-in-None c = (c.requires.0 ∷ [], one_begins shape.Escape (token Wrong) 10 blank (λ b bs. refl) c.args.text.now c.requires.0 c.args.behind.now c.requires.1 c.requires.2 c.in-None.ensures.none)
