use Rattle.std.proofs.Common.{ap}
use Rattle.std.specs.Prelude.{Err}
use Rattle.durable.specs.FoundViews.{found_view}
use Rattle.diagnosis.proofs.probe.is_found.Goals as goal
use Rattle.diagnosis.proofs.probe.is_found.Goals.{in-Ok, in-Err-Damaged, in-Err-NoMemory}

pub returns : goal.returns
returns c =
    elim c.match-recover.branch [
      | in-Ok w ↦ rw w.result-is (found_view w.in-Ok.field-0, w.in-Ok.ensures.ok)
      | in-Err-Damaged w ↦ rw w.result-is (w.in-Err-Damaged.ensures.damaged (ap Err w.in-Err-Damaged.field-0-is))
      | in-Err-NoMemory w ↦ rw w.result-is tt
    ]
