use Rattle.std.proofs.Common.{refl}
use Rattle.machine.proofs.Lasting.{mappings-agree}
use Rattle.machine.proofs.laws.inside_maps_once.Goals as goal

pub returns : goal.returns
returns c = λ config s proto inside outside outside' sound a b. (mappings-agree config s proto inside inside outside outside' sound a b).0 refl
