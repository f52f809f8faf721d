use Rattle.std.proofs.Common.{◌++◌, List, ℕ, ap, sym, ◌∙◌, append_assoc, take}
use Rattle.std.specs.List.{flat_map}
use Rattle.frames.specs.Answers.{frame}
use Rattle.frames.proofs.Parts.{frames_step}
use Rattle.frames.proofs.answer.put_frames.Goals as goal

pub loop-pair-preserved : goal.loop-pair-preserved
loop-pair-preserved c =
    let old = c.args.out.now.items in
    let before = flat_map frame (take c.loop-pair.pair-index c.args.answers.now) in
    let item = c.pair-item.result in
    c.in_ok-put_frame.ensures.ok ∙ ap (λ (zs : List ℕ). zs ++ frame item) c.loop-pair.invariant ∙ append_assoc old before (frame item)
    ∙ ap (λ (zs : List ℕ). old ++ zs) (sym (frames_step c.args.answers.now c.loop-pair.pair-index item c.loop-pair-test.true c.pair-item.is))
