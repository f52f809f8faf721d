use Rattle.std.proofs.Common.{[], ◌∷◌, sym, ◌∙◌}
use Rattle.ruletokens.specs.Tokens.{found_kind}
use Rattle.ruletokens.proofs.Pieces.{single_begins}
use Rattle.ruletokens.proofs.lex.piece.Goals as goal

pub returns-in-Single : goal.returns-in-Single
returns-in-Single c = (c.args.first ∷ [], single_begins c.args.text.now c.args.first (found_kind c.single.result) c.args.behind.now c.requires (sym c.shape_of.ensures ∙ c.in-Single.is) c.single.ensures)
