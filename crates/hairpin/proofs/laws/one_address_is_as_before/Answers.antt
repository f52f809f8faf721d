use Rattle.hairpin.proofs.Same.{as_before}
use Rattle.hairpin.proofs.laws.one_address_is_as_before.Goals as goal

pub returns : goal.returns
returns c = as_before
