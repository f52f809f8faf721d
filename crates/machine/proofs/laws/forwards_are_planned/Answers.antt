use Rattle.machine.proofs.Passing.{step-planned}
use Rattle.machine.proofs.laws.forwards_are_planned.Goals as goal

pub returns : goal.returns
returns c = λ config s judged out packet e.
    let way = step-planned config s judged out packet e in
    (way.0, way.1, way.2, way.3, way.4, record { deed_is = way.5; fields_are = way.6; route_is = way.7 }, way.8, way.9, way.10, way.11)
