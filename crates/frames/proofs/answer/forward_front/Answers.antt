use Rattle.std.proofs.Common.{◌≡◌, ◌∷◌, ◌++◌, [], List, ℕ, ap, sym, ◌∙◌, arith}
use Rattle.byteorder.specs.Endian.{big_bytes}
use Rattle.machine.specs.declared.event.Answer.{Answer}
use Rattle.machine.specs.declared.event.Answer.TheVariants.{Forward}
use Rattle.frames.specs.Answers.{frame_head}
use Rattle.frames.proofs.Parts.{frame_behind}
use Rattle.frames.proofs.answer.forward_front.Goals as goal

pub returns : goal.returns
returns c = λ packet size.
    let p : ℕ × Answer = (c.args.number, Forward c.args.iface packet) in
    let first = c.byte_of.result in
    let head : c.head_with.result ≡ frame_head p = c.head_with.ensures ∙ ap (λ (len : ℕ). 1 ∷ big_bytes 8 c.args.number ++ big_bytes 4 len) (omega (arith, size)) in
    ap (λ (bytes : List ℕ). bytes ++ packet) (c.front_with.ensures ∙ ap (λ (bytes : List ℕ). bytes ++ first ∷ []) head)
    ∙ frame_behind [] p first packet (ap (λ (byte : ℕ). byte ∷ packet) (sym c.byte_of.ensures))
