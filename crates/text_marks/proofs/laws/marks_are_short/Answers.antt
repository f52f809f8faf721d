use Rattle.text_marks.proofs.Short.{short}
use Rattle.text_marks.proofs.laws.marks_are_short.Goals as goal

pub returns : goal.returns
returns c = short
