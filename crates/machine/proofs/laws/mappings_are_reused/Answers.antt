use Rattle.machine.proofs.Passing.{mapped-out}
use Rattle.machine.proofs.laws.mappings_are_reused.Goals as goal

pub returns : goal.returns
returns c = λ config s judged bytes view outside m sound lives came none begins lets few. mapped-out config s judged bytes view sound came none outside m lives begins lets few
