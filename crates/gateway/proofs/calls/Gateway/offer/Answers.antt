use Rattle.std.proofs.Common.{◌∙◌, ap}
use Rattle.gateway.specs.Kept.{Kept}
use Rattle.gateway.proofs.calls.Gateway.offer.Goals as goal

pub returns-in-Ok-clause-now : goal.returns-in-Ok-clause-now
returns-in-Ok-clause-now g c = rw c.with_answer.ensures c.in-Ok.ensures.ok.takes.now

pub returns-in-Ok-clause-filled : goal.returns-in-Ok-clause-filled
returns-in-Ok-clause-filled g c =
    let filled = c.in-Ok.ensures.ok.takes.filled in
    (filled.0, filled.1, filled.2, filled.3, ap (λ (k : Kept _). k.filled) c.self.view_is ∙ filled.4)
