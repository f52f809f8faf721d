use Rattle.machine.proofs.Idling.{live-their-time}
use Rattle.machine.proofs.laws.sessions_live_their_time.Goals as goal

pub returns : goal.returns
returns c = live-their-time
