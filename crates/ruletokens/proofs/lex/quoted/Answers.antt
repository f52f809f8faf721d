use Rattle.std.proofs.Common.{[], ◌∷◌, ◌++◌, ap, ◌∙◌}
use Rattle.ruletokens.specs.Tokens.{Text}
use Rattle.ruletokens.proofs.Pieces.{quote_closes, quote_stays}
use Rattle.ruletokens.proofs.lex.quoted.Goals as goal

pub returns-in_ok-inner-in-Some : goal.returns-in_ok-inner-in-Some
returns-in_ok-inner-in-Some c =
    let b = c.requires.0 in
    let more = c.run.result.0.now in
    let e = c.requires.1 ∙ ap (λ (u : Text). b ∷ u) (c.run.ensures.parts ∙ ap (λ (u : Text). more ++ u) c.in-Some.ensures.some) in
    (b ∷ more ++ 34 ∷ [], rw c.in_ok-inner-in-Some.ensures (quote_closes c.args.text.now b more c.in-Some.rest.now e c.requires.2 c.run.ensures.all))

pub returns-in-None : goal.returns-in-None
returns-in-None c =
    let b = c.requires.0 in
    let more = c.run.result.0.now in
    (b ∷ more, quote_stays c.args.text.now b more c.run.result.1.now (c.requires.1 ∙ ap (λ (u : Text). b ∷ u) c.run.ensures.parts) c.requires.2 c.run.ensures.all c.run.ensures.stops c.in-None.ensures.none)
