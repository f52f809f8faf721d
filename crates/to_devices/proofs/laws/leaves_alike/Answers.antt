use Rattle.to_devices.proofs.Replying.{leaves_alike}
use Rattle.to_devices.proofs.laws.leaves_alike.Goals as goal

pub returns : goal.returns
returns c = leaves_alike
