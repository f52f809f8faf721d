use Rattle.std.proofs.Common.{refl}
use Rattle.gateway.proofs.Runs.{still}
use Rattle.gateway.proofs.in_place.retake_packet.Goals as goal

pub returns-then-not-lacks_room-clause-any_moment : goal.returns-then-not-lacks_room-clause-any_moment
returns-then-not-lacks_room-clause-any_moment g c = still _ _ _ _ g.met.D.Disk.earlier _ c.args.gateway.now refl
