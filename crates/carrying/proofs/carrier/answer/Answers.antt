use Rattle.std.proofs.Common.{Err, subst}
use Rattle.socket_edge.specs.declared.fault.EdgeFault.{EdgeFault}
use Rattle.socket_edge.specs.Running.{TurnsEnd}
use Rattle.carrying.proofs.Short.{no_input}
use Rattle.carrying.proofs.carrier.answer.Goals as goal

pub returns-in-Err-clause-reads : goal.returns-in-Err-clause-reads
returns-in-Err-clause-reads g c short is =
    let p = c.in-Err.ensures.ran in
    no_input p.0 c.args.requests.now c.run_with-ended.new.peer.requests.now p.1.1 short p.1.3 (subst (λ (e : EdgeFault). TurnsEnd (Err e) p.0) is p.6)
