use Rattle.std.specs.Prelude.{Bool}
use Rattle.std.proofs.lemmas.Result.{IfOk-weaker}
use Rattle.disk_model.specs.Disk.{pair}
use Rattle.diagnosis.specs.Probing.{Tells, TellsFront}
use Rattle.diagnosis.proofs.Probed.{tells_front}
use Rattle.diagnosis.proofs.probe.has_front.Goals as goal

pub returns : goal.returns
returns c =
    let beside = c.args.beside.now in
    let file = c.args.file.now in
    IfOk-weaker c.is_found.result (λ (found : Bool). Tells (pair beside file) found) (λ (found : Bool). TellsFront file found) (λ found told. tells_front beside file c.requires found told) c.is_found.ensures
