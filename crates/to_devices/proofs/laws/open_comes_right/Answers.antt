use Rattle.to_devices.proofs.Opened.{open_comes_right}
use Rattle.to_devices.proofs.laws.open_comes_right.Goals as goal

pub returns : goal.returns
returns c = open_comes_right
