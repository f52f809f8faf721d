use Rattle.std.proofs.Common.{◌∙◌, sym, ap}
use Rattle.sets.specs.declared.element.Pair.{Pair}
use Rattle.sets.proofs.Keys.{one_key}
use Rattle.sets.proofs.laws.maps_to_one.Goals as goal

pub returns : goal.returns
returns g c = λ pairs apart fact one other (i, p, li, pi, (hp, vp)) (j, q, lj, qj, (hq, vq)).
    sym vp ∙ ap (λ (pair : Pair _). pair.verdict) (one_key fact pairs apart i j p q li lj pi qj hp hq) ∙ vq
