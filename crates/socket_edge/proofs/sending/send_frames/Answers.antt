use Rattle.std.proofs.Common.{ℕ, List, ◌∙◌, subst, sym, take, flat_map}
use Rattle.frames.specs.Answers.{frame}
use Rattle.frames.proofs.Parts.{frames_step}
use Rattle.socket_edge.specs.Serving.{HandsAll}
use Rattle.socket_edge.proofs.Talks.{Hands-then}
use Rattle.socket_edge.proofs.Written.{Front-next}
use Rattle.std.proofs.lemmas.Result.{err_from_is_err_and}
use Rattle.socket_edge.proofs.sending.send_frames.Goals as goal

pub returns-in_err-write_frame-clause-err : goal.returns-in_err-write_frame-clause-err
returns-in_err-write_frame-clause-err g c =
    let p = err_from_is_err_and c.from_residual.result c.from_residual.ensures.1 in
    let e = c.in_err-write_frame.ensures.err in
    rw p.1 (
      p.2 ∙ e.0,
      Front-next g.P.Peer.went g.met.P.Peer.further c.args.peer.now c.loop-pair.peer c.write_frame.new.peer c.args.answers.now c.loop-pair.pair-index c.pair-item.result
          c.loop-pair-test.true c.pair-item.is c.loop-pair.invariant e.1,
    )

pub loop-pair-preserved : goal.loop-pair-preserved
loop-pair-preserved g c =
    let front : List ℕ = flat_map frame (take c.loop-pair.pair-index c.args.answers.now) in
    let both = Hands-then g.P.Peer.went g.met.P.Peer.further c.args.peer.now c.loop-pair.peer c.write_frame.new.peer front (frame c.pair-item.result) c.loop-pair.invariant c.in_ok-write_frame.ensures.ok in
    subst (HandsAll g.P.Peer.went c.args.peer.now c.write_frame.new.peer) (sym (frames_step c.args.answers.now c.loop-pair.pair-index c.pair-item.result c.loop-pair-test.true c.pair-item.is)) both
