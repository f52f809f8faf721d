use Rattle.machine.proofs.Admitting.{mappings-let-in}
use Rattle.machine.proofs.laws.mappings_let_in.Goals as goal

pub returns : goal.returns
returns c = mappings-let-in
