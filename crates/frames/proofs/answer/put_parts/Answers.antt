use Rattle.std.proofs.Common.{◌++◌, List, ℕ, ap, sym, refl, ◌∙◌, take, length, append_assoc}
use Rattle.std.proofs.Math.Seq.{take-append_seam}
use Rattle.machine.specs.declared.event.Answer.{Answer}
use Rattle.machine.specs.declared.event.Answer.TheVariants.{Forward}
use Rattle.frames.specs.Answers.{frame}
use Rattle.frames.proofs.Parts.{frame_bare}
use Rattle.frames.proofs.answer.put_parts.Goals as goal

pub returns-in_ok-extend_from_slice-in-Forward-2-clause-ok : goal.returns-in_ok-extend_from_slice-in-Forward-2-clause-ok
returns-in_ok-extend_from_slice-in-Forward-2-clause-ok c =
    let before = c.args.out.now.items in
    let packet = c.as_slice-packet.result.now in
    let front = c.forward_front.result in
    c.in_ok-extend_from_slice-in-Forward-2.ensures.items ∙ ap (λ (bytes : List ℕ). bytes ++ packet) c.in_ok-extend_from_slice-in-Forward.ensures.items
    ∙ append_assoc before front packet ∙ ap (λ (bytes : List ℕ). before ++ bytes) (c.forward_front.ensures packet refl)
    ∙ ap (λ (a : Answer). before ++ frame (c.args.number, a)) (ap (Forward c.in-Forward.iface) c.as_slice-packet.ensures.value ∙ sym c.in-Forward.is)

pub returns-in_ok-extend_from_slice-in-Dropped-clause-ok : goal.returns-in_ok-extend_from_slice-in-Dropped-clause-ok
returns-in_ok-extend_from_slice-in-Dropped-clause-ok c =
    let before = c.args.out.now.items in
    c.in_ok-extend_from_slice-in-Dropped.ensures.items ∙ ap (λ (bytes : List ℕ). before ++ bytes) c.drop_frame.ensures
    ∙ ap (λ (a : Answer). before ++ frame (c.args.number, a)) (sym c.in-Dropped.is)

pub returns-in_ok-extend_from_slice-in_default : goal.returns-in_ok-extend_from_slice-in_default
returns-in_ok-extend_from_slice-in_default c =
    let before = c.args.out.now.items in
    let put = c.in_ok-extend_from_slice-in_default.ensures.items in record {
      ok = put ∙ ap (λ bytes. before ++ bytes) (c.head_bytes.ensures ∙ frame_bare (c.args.number, c.args.answer.now) c.in_default.not-Forward c.in_default.not-Dropped);
      front = ap (take (length before)) put ∙ take-append_seam before c.head_bytes.result;
    }
