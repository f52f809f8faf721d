use Rattle.machine.proofs.Refreshing.{packets-leave}
use Rattle.machine.proofs.laws.packets_leave_by_sessions.Goals as goal

pub returns : goal.returns
returns c = λ config s judged iface bytes view r out packet came e. packets-leave config s judged iface bytes view r out packet came e
