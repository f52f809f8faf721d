use Rattle.std.proofs.Common.{◌∙◌}
use Rattle.std.proofs.lemmas.Result.{err_from_is_err_and, on_ok_weaker}
use Rattle.frames.specs.Answers.{frames}
use Rattle.socket_edge.proofs.Talks.{Hands-then}
use Rattle.socket_edge.proofs.Written.{Front-of, Fails-behind}
use Rattle.socket_edge.proofs.sending.send_before.Goals as goal

pub returns-in_err-send_frames-clause-err : goal.returns-in_err-send_frames-clause-err
returns-in_err-send_frames-clause-err g c =
    let p = err_from_is_err_and c.from_residual.result c.from_residual.ensures.1 in
    let e = c.in_err-send_frames.ensures.err in
    rw p.1 (p.2 ∙ e.0, Front-of g.P.Peer.went c.args.peer.now c.send_frames.new.peer (frames c.args.answers.now) c.args.bytes.now e.1)

pub returns-clause-ok : goal.returns-clause-ok
returns-clause-ok g c =
    on_ok_weaker c.write_out.result
    (λ q. Hands-then g.P.Peer.went g.met.P.Peer.further c.args.peer.now c.send_frames.new.peer c.write_out.new.peer (frames c.args.answers.now) c.args.bytes.now c.in_ok-send_frames.ensures.ok q)
    c.write_out.ensures.ok

pub returns-clause-err : goal.returns-clause-err
returns-clause-err g c = Fails-behind g.P.Peer.went g.met.P.Peer.further c.args.peer.now c.send_frames.new.peer c.write_out.new.peer (frames c.args.answers.now) c.args.bytes.now c.write_out.result
    c.in_ok-send_frames.ensures.ok c.write_out.ensures.err
