use Rattle.hairpin.proofs.Strangers.{strangers}
use Rattle.hairpin.proofs.laws.strangers_are_filtered.Goals as goal

pub returns : goal.returns
returns c = strangers
