use Rattle.std.proofs.lemmas.Result.{err_from_is_err_and}
use Rattle.gateway.specs.Given.{handed}
use Rattle.gateway.proofs.Putting.{fails-here}
use Rattle.gateway.proofs.Runs.{breaks-same, few-fit, offered, offer-why, still}
use Rattle.gateway.proofs.running.offer.Goals as goal

pub returns-in_err-given-clause-why : goal.returns-in_err-given-clause-why
returns-in_err-given-clause-why g c =
    let p = err_from_is_err_and c.from_residual.result c.from_residual.ensures.1 in
    let e = c.in_err-given.ensures in
    let why = c.in_err-given.field-0.0.1 in
    rw (p.1, p.2) (λ full. fails-here c.args.answers.now.items (breaks-same g.D.Disk.honest g.D.Disk.moment g.D.Disk.left g.D.Disk.failed c.args.gateway.now c.offer.new.self _ why e.err.1
    (λ start events out s. offer-why s why (few-fit c.args.gateway.now why c.requires.few e.held_full) e.reopen e.numbers_out e.causes full)))

pub returns-clause-ok : goal.returns-clause-ok
returns-clause-ok g c =
    let e = c.in_ok-given.ensures in
    record {
      out = handed c.in_ok-given.given;
      behind = c.put.ensures.items;
      carries = λ before start events s. offered s c.offer.new.self c.args.event c.in_ok-given.given c.facts.ensures.config c.facts.ensures.sound e.disk e.fallen e.took e.now;
    }

pub returns-in_err-given-clause-any_moment : goal.returns-in_err-given-clause-any_moment
returns-in_err-given-clause-any_moment g c = still _ _ _ _ g.met.D.Disk.earlier _ c.offer.new.self c.in_err-given.ensures.disk

pub returns-clause-any_moment : goal.returns-clause-any_moment
returns-clause-any_moment g c = still _ _ _ _ g.met.D.Disk.earlier _ c.offer.new.self c.in_ok-given.ensures.disk
