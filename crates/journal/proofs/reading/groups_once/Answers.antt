use Rattle.journal.proofs.Leading as leading
use Rattle.journal.proofs.reading.groups_once.Goals as goal

pub returns : goal.returns
returns c = leading.groups_once
