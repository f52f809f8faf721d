use Rattle.machine.proofs.Lasting.{step-maps}
use Rattle.machine.proofs.laws.living_mappings_stay.Goals as goal

pub returns : goal.returns
returns c = λ config s judged proto inside outside m is_one sound lives. step-maps config is_one s judged proto inside outside m sound lives
