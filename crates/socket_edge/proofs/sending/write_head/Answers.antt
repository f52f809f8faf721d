use Rattle.std.proofs.Common.{◌≡◌, ℕ, List, IfErr, subst}
use Rattle.socket_edge.specs.declared.fault.EdgeFault.TheVariants.{Output}
use Rattle.socket_edge.specs.Serving.{HandsFront}
use Rattle.socket_edge.proofs.sending.write_head.Goals as goal

pub returns-clause-err : goal.returns-clause-err
returns-clause-err g c =
    subst (λ (bytes : List ℕ). IfErr c.write_out.result (λ e. (e ≡ Output) × HandsFront g.P.Peer.went c.args.peer.now c.write_out.new.peer bytes))
    c.head_bytes-bytes.ensures c.write_out.ensures.err
