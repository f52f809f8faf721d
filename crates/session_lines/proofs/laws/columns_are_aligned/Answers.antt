use Rattle.session_lines.proofs.Widths.{aligned}
use Rattle.session_lines.proofs.laws.columns_are_aligned.Goals as goal

pub returns : goal.returns
returns c = aligned
