use Rattle.machine.proofs.Keeping.{new-mappings-keep}
use Rattle.machine.proofs.laws.new_mappings_keep_ports.Goals as goal

pub returns : goal.returns
returns c = λ config s judged bytes view r outside is_one makes. new-mappings-keep config s judged bytes view r outside is_one makes
