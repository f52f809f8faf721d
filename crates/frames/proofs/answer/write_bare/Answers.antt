use Rattle.std.proofs.Common.{◌∷◌, ◌++◌, [], List, ℕ, take, ap, ◌∙◌}
use Rattle.frames.proofs.Parts.{head_alone}
use Rattle.frames.proofs.answer.write_bare.Goals as goal

pub returns-clause-frame : goal.returns-clause-frame
returns-clause-frame c =
    ap (take 13) (c.copy_from_slice.ensures.after ∙ c.front_with.ensures ∙ ap (λ (bytes : List ℕ). bytes ++ 0 ∷ []) c.head_with.ensures) ∙ head_alone c.args.kind c.args.number 0 (0 ∷ [])
