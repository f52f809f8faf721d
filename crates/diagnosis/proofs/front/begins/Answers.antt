use Rattle.std.proofs.Common.{◌≡◌, ◌∙◌, List, ℕ, [], ◌∷◌, ◌++◌, take, ap}
use Rattle.std.specs.Prelude.{Bool}
use Rattle.std.proofs.lemmas.Result.{IfOk-weaker}
use Rattle.disk_model.specs.Disk.{pair}
use Rattle.diagnosis.specs.Probing.{Tells, TellsBegin}
use Rattle.diagnosis.proofs.Fronts.{tells_begin}
use Rattle.diagnosis.proofs.front.begins.Goals as goal

pub returns : goal.returns
returns c =
    let file = c.args.file.now in
    let alone = c.deref.result.now in
    let made : alone ≡ take c.args.end file ++ 0 ∷ [] = c.deref.ensures.value ∙ c.in_ok-push.ensures.items ∙ ap (λ (l : List ℕ). l ++ 0 ∷ []) (c.in_ok-alone.ensures.items ∙ c.split_at.ensures.front) in
    IfOk-weaker c.is_found.result (λ (found : Bool). Tells (pair alone []) found) (λ (found : Bool). TellsBegin file found) (λ found told. tells_begin file alone c.args.end c.requires made found told) c.is_found.ensures
