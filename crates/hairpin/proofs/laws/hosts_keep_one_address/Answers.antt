use Rattle.hairpin.proofs.Pairs.{one_address}
use Rattle.hairpin.proofs.laws.hosts_keep_one_address.Goals as goal

pub returns : goal.returns
returns c = one_address
