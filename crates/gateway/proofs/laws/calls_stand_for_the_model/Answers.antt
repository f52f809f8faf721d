use Rattle.std.proofs.Common.{[]}
use Rattle.gateway.specs.Standing.{settled_standing}
use Rattle.gateway.proofs.Standings.{begun-standing, went-on}
use Rattle.gateway.proofs.laws.calls_stand_for_the_model.Goals as goal

pub returns : goal.returns
returns c = λ config start calls now is_one sound went. went-on config is_one start sound calls [] [] (settled_standing start) now tt (begun-standing config start) went
