use Rattle.std.proofs.Common.{◌≡◌, ◌++◌, [], List, ℕ, refl, ap, sym, subst, ◌∙◌, append_assoc, arith, flat_map}
use Rattle.std.proofs.lemmas.List.Concat.{flat_map-append}
use Rattle.std.proofs.lemmas.Result.{err_from_is_err_and}
use Rattle.machine.specs.declared.event.Answer.{Answer}
use Rattle.frames.specs.Answers.{frame, frames}
use Rattle.frames.specs.Requests.{next}
use Rattle.socket_edge.specs.declared.fault.EdgeFault.TheVariants.{Gateway}
use Rattle.socket_edge.specs.Serving.{Reads}
use Rattle.socket_edge.proofs.Closing.{closed-turns, fails-behind, sent-bad, sent-some}
use Rattle.socket_edge.proofs.Loops.{Offered-behind}
use Rattle.socket_edge.proofs.Talks.{handed-all, handed-none}
use Rattle.socket_edge.proofs.edge.answer_front.Goals as goal

-- the frames of answers that were held before, and those in front
all_frames : (a b c : List ℕ) (xs ys zs : List (ℕ × Answer)) → a ≡ [] → b ≡ a ++ frames ys → c ≡ b ++ frames zs → frames xs ++ c ≡ frames ((xs ++ ys) ++ zs)
all_frames a b c xs ys zs none first then =
    ap (λ (l : List ℕ). frames xs ++ l) (then ∙ ap (λ (l : List ℕ). l ++ frames zs) (first ∙ ap (λ (l : List ℕ). l ++ frames ys) none))
    ∙ sym (append_assoc (flat_map frame xs) (flat_map frame ys) (flat_map frame zs))
    ∙ ap (λ (l : List ℕ). l ++ frames zs) (sym (flat_map-append frame xs ys)) ∙ sym (flat_map-append frame (xs ++ ys) zs)

pub returns-in-Err : goal.returns-in-Err
returns-in-Err g c =
    let start = c.args.gateway.now in
    let bytes = c.args.waiting.now.unanswered in
    let e = c.in-Err.ensures in
    let h = handed-none g.P.Peer.went g.met.P.Peer.still c.args.peer.now in
    let refuses = fails-behind g.D.Disk.honest g.D.Disk.moment g.D.Disk.left g.D.Disk.seen g.D.Disk.failed g.met.D.Disk.reads g.met.D.Disk.earlier start start c.hand_out_held.new.gateway bytes bytes [] [] [] [] [] c.in-Err.fault refl refl c.stands.ensures e.err (λ none. absurd (e.some none)) in
    let sent = sent-bad g.D.Disk.honest g.D.Disk.moment g.D.Disk.left g.D.Disk.seen g.D.Disk.failed g.met.D.Disk.reads g.met.D.Disk.earlier start (Gateway c.in-Err.fault) c.hand_out_held.new.gateway bytes bytes [] refuses bytes [] in
    record { came = ([], [], h.0, sent, h.1) }

pub returns-in_err-send_before : goal.returns-in_err-send_before
returns-in_err-send_before g c =
    let p = err_from_is_err_and c.from_residual.result c.from_residual.ensures.1 in
    let e = c.in_err-send_before.ensures.err in
    let start = c.args.gateway.now in
    let bytes = c.args.waiting.now.unanswered in
    let rest = c.offer_all-halt.new.waiting.unanswered in
    let first = c.in-Ok.former.items in
    let o = c.offer_all-halt.ensures.offered in
    let k = c.close-closed.ensures.closed in
    let offered = Offered-behind g.D.Disk.honest g.D.Disk.moment g.D.Disk.left g.D.Disk.failed start c.hand_out_held.new.gateway c.offer_all-halt.new.gateway c.offer_all-halt.result bytes rest [] first (first ++ o.0) c.in-Ok.ensures.ok (o.2 first) in
    let closed = k.2 start bytes rest (first ++ o.0) c.stands.ensures offered in
    let whole = all_frames c.args.waiting.now.answered c.offer_all-halt.new.waiting.answered c.answered.result.now first o.0 k.0 c.requires.sent o.1 (c.answered.ensures ∙ k.1) in
    let front = rw c.as_slice.ensures.value at e.1 in
    let sent = sent-some g.D.Disk.honest g.D.Disk.moment g.D.Disk.left g.D.Disk.seen g.D.Disk.failed g.met.D.Disk.reads g.met.D.Disk.earlier start c.close-closed.result c.close-closed.new.gateway bytes rest
    ((first ++ o.0) ++ k.0) front.written front.lost closed (front.splits ∙ whole) c.close-closed.new.waiting.unanswered [] in
    record { came = ([], front.written, front.hands, rw (p.1, p.2, e.0) sent, rw (p.1, p.2, e.0) front.last) }

pub returns-in_err-closed : goal.returns-in_err-closed
returns-in_err-closed g c =
    let p = err_from_is_err_and c.from_residual-in_err-closed.result c.from_residual-in_err-closed.ensures.1 in
    let start = c.args.gateway.now in
    let bytes = c.args.waiting.now.unanswered in
    let rest = c.offer_all-halt.new.waiting.unanswered in
    let first = c.in-Ok.former.items in
    let o = c.offer_all-halt.ensures.offered in
    let k = c.in_err-closed.ensures.closed in
    let offered = Offered-behind g.D.Disk.honest g.D.Disk.moment g.D.Disk.left g.D.Disk.failed start c.hand_out_held.new.gateway c.offer_all-halt.new.gateway c.offer_all-halt.result bytes rest [] first (first ++ o.0) c.in-Ok.ensures.ok (o.2 first) in
    let closed = k.2 start bytes rest (first ++ o.0) c.stands.ensures offered in
    let whole = all_frames c.args.waiting.now.answered c.offer_all-halt.new.waiting.answered c.answered.result.now first o.0 k.0 c.requires.sent o.1 (c.answered.ensures ∙ k.1) in
    let h = handed-all g.P.Peer.went c.args.peer.now c.send_before.new.peer _ _ whole (rw c.as_slice.ensures.value at c.in_ok-send_before.ensures.ok) in
    let all = (first ++ o.0) ++ k.0 in
    let sent = sent-bad g.D.Disk.honest g.D.Disk.moment g.D.Disk.left g.D.Disk.seen g.D.Disk.failed g.met.D.Disk.reads g.met.D.Disk.earlier start c.in_err-closed.field-0.0 c.close-closed.new.gateway bytes rest
    all closed c.close-closed.new.waiting.unanswered [] in
    let passed = closed-turns g.D.Disk.honest g.D.Disk.moment g.D.Disk.left g.D.Disk.failed start c.close-closed.new.gateway c.in_err-closed.field-0.0 bytes rest all h.0.turns closed h.1 in
    record { came = ([], frames all, h.0, rw (p.1, p.2) sent, rw (p.1, p.2) passed) }

pub overflow_sub-result : goal.overflow_sub-result
overflow_sub-result g c =
    let start = c.args.gateway.now in
    let bytes = c.args.waiting.now.unanswered in
    let rest = c.offer_all-halt.new.waiting.unanswered in
    let first = c.in-Ok.former.items in
    let o = c.offer_all-halt.ensures.offered in
    let k = c.in_ok-closed.ensures.closed in
    let offered = Offered-behind g.D.Disk.honest g.D.Disk.moment g.D.Disk.left g.D.Disk.failed start c.hand_out_held.new.gateway c.offer_all-halt.new.gateway c.offer_all-halt.result bytes rest [] first (first ++ o.0) c.in-Ok.ensures.ok (o.2 first) in
    let closed = k.2 start bytes rest (first ++ o.0) c.stands.ensures offered in
    omega (arith, c.last-first.ensures, c.last.ensures, closed.3.stands.ran.took.last)

pub returns : goal.returns
returns g c =
    let start = c.args.gateway.now in
    let bytes = c.args.waiting.now.unanswered in
    let rest = c.offer_all-halt.new.waiting.unanswered in
    let first = c.in-Ok.former.items in
    let o = c.offer_all-halt.ensures.offered in
    let k = c.in_ok-closed.ensures.closed in
    let offered = Offered-behind g.D.Disk.honest g.D.Disk.moment g.D.Disk.left g.D.Disk.failed start c.hand_out_held.new.gateway c.offer_all-halt.new.gateway c.offer_all-halt.result bytes rest [] first (first ++ o.0) c.in-Ok.ensures.ok (o.2 first) in
    let closed = k.2 start bytes rest (first ++ o.0) c.stands.ensures offered in
    let whole = all_frames c.args.waiting.now.answered c.offer_all-halt.new.waiting.answered c.answered.result.now first o.0 k.0 c.requires.sent o.1 (c.answered.ensures ∙ k.1) in
    let h = handed-all g.P.Peer.went c.args.peer.now c.send_before.new.peer _ _ whole (rw c.as_slice.ensures.value at c.in_ok-send_before.ensures.ok) in
    let left = c.in_ok-closed.ensures.rest in
    let all = (first ++ o.0) ++ k.0 in
    record { came = (all, frames all, h.0, (closed.0, subst (Reads bytes closed.0) (sym left) closed.1, ap next left ∙ closed.2, omega (arith, c.last-first.ensures, c.last.ensures, closed.3.stands.ran.took.last), closed.3, refl), h.1) }
