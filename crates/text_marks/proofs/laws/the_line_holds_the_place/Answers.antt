use Rattle.text_marks.proofs.Held.{held}
use Rattle.text_marks.proofs.laws.the_line_holds_the_place.Goals as goal

pub returns : goal.returns
returns c = held
