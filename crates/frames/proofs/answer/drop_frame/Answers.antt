use Rattle.std.proofs.Common.{◌++◌, ◌∷◌, [], List, ℕ, ap, refl, ◌∙◌}
use Rattle.machine.specs.declared.event.Answer.TheVariants.{Dropped}
use Rattle.frames.proofs.Parts.{frame_whole}
use Rattle.frames.proofs.answer.drop_frame.Goals as goal

pub returns : goal.returns
returns c = c.front_with.ensures ∙ ap (λ (bytes : List ℕ). bytes ++ c.args.cause ∷ []) c.head_with.ensures ∙ frame_whole [] (c.args.number, Dropped c.args.cause) c.args.cause refl
