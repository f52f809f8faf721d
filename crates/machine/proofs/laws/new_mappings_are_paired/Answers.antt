use Rattle.machine.proofs.Pooling.{paired-hairpin, paired-out}
use Rattle.machine.proofs.laws.new_mappings_are_paired.Goals as goal

pub returns : goal.returns
returns c = record { out = paired-out; hairpin = paired-hairpin }
