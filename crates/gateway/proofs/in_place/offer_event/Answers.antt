use Rattle.std.proofs.Common.{[], ap}
use Rattle.gateway.specs.Kept.{Kept}
use Rattle.gateway.proofs.Proceeding.{err-both, fails-refused, none-taken, proceeds-taken}
use Rattle.gateway.proofs.Runs.{few-fit, still}
use Rattle.gateway.proofs.in_place.offer_event.Goals as goal

pub returns-clause-ok : goal.returns-clause-ok
returns-clause-ok g c =
    let e = c.take_event.ensures in
    proceeds-taken g.D.Disk.honest g.D.Disk.moment g.D.Disk.left g.D.Disk.failed c.args.gateway.now c.take_event.new.self c.args.event c.take_event.result [] c.facts.ensures.config c.facts.ensures.sound e.beside e.ok

pub returns-clause-now : goal.returns-clause-now
returns-clause-now g c = none-taken c.args.gateway.now c.take_event.new.self c.args.event c.take_event.result [] c.take_event.ensures.ok

pub returns-clause-err : goal.returns-clause-err
returns-clause-err g c =
    let old = c.args.gateway.now in
    let e = c.take_event.ensures in
    err-both _ _ _ c.take_event.result e.err e.why (λ why still refused. (
      still.0,
      still.1,
      (λ full. fails-refused g.D.Disk.honest g.D.Disk.moment g.D.Disk.left g.D.Disk.failed old c.take_event.new.self c.args.event why.1 (few-fit old why.1 c.requires.few refused.held_full) still.1 refused full),
      refused.roomy,
    ))

pub returns-clause-any_moment : goal.returns-clause-any_moment
returns-clause-any_moment g c = still _ _ _ _ g.met.D.Disk.earlier _ c.take_event.new.self (ap (λ (n : Kept _). n.disk) c.take_event.ensures.beside)
