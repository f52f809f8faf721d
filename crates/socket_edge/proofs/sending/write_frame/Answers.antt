use Rattle.std.proofs.Common.{ℕ, ◌∙◌}
use Rattle.std.proofs.lemmas.Result.{err_from_is_err_and, on_ok_weaker}
use Rattle.machine.specs.declared.event.Answer.{Answer}
use Rattle.frames.specs.Answers.{frame_head, answer_body}
use Rattle.socket_edge.proofs.Talks.{Hands-then}
use Rattle.frames.proofs.Parts.{frame_parts}
use Rattle.socket_edge.proofs.Written.{Front-of, Fails-behind}
use Rattle.socket_edge.proofs.sending.write_frame.Goals as goal

pub returns-in_err-write_head-clause-err : goal.returns-in_err-write_head-clause-err
returns-in_err-write_head-clause-err g c =
    let answer : ℕ × Answer = (c.args.number, c.args.answer.now) in
    let p = err_from_is_err_and c.from_residual.result c.from_residual.ensures.1 in
    let e = c.in_err-write_head.ensures.err in
    rw (p.1, ← frame_parts answer) (p.2 ∙ e.0, Front-of g.P.Peer.went c.args.peer.now c.write_head.new.peer (frame_head answer) (answer_body c.args.answer.now) e.1)

pub returns-clause-ok : goal.returns-clause-ok
returns-clause-ok g c =
    let answer : ℕ × Answer = (c.args.number, c.args.answer.now) in
    rw (← frame_parts answer) (on_ok_weaker c.write_body.result
    (λ q. Hands-then g.P.Peer.went g.met.P.Peer.further c.args.peer.now c.write_head.new.peer c.write_body.new.peer (frame_head answer) (answer_body c.args.answer.now) c.in_ok-write_head.ensures.ok q)
    c.write_body.ensures.ok)

pub returns-clause-err : goal.returns-clause-err
returns-clause-err g c =
    let answer : ℕ × Answer = (c.args.number, c.args.answer.now) in
    rw (← frame_parts answer) (Fails-behind g.P.Peer.went g.met.P.Peer.further c.args.peer.now c.write_head.new.peer c.write_body.new.peer (frame_head answer) (answer_body c.args.answer.now) c.write_body.result
    c.in_ok-write_head.ensures.ok c.write_body.ensures.err)
