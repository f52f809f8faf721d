use Rattle.text_marks.specs.Pieces.{shortened}
use Rattle.text_marks.proofs.Shown.{shortened_text}
use Rattle.text_marks.proofs.piece.put_shortened.Goals as goal

pub returns : goal.returns
unfolding shortened
returns c = shortened_text 40 c.min-shown.result _ c.args.token.now _ _ _ c.min-shown.ensures c.in_ok-put_visible.ensures c.in_ok-put_dots.ensures
