use Rattle.std.proofs.Common.{[], ap}
use Rattle.std.proofs.lemmas.Result.{err_from_is_err_and}
use Rattle.gateway.specs.Told.{Told}
use Rattle.gateway.proofs.Proceeding.{fails-held, fails-then, proceeds-held, proceeds-settled, proceeds-then, safe-then}
use Rattle.gateway.proofs.in_place.make_room.Goals as goal

pub returns-in_err-settle-clause-err : goal.returns-in_err-settle-clause-err
returns-in_err-settle-clause-err g c =
    let p = err_from_is_err_and c.from_residual.result c.from_residual.ensures.1 in
    let e = c.in_err-settle.ensures in
    rw (p.1, p.2) (fails-held g.D.Disk.honest g.D.Disk.moment g.D.Disk.left g.D.Disk.failed c.args.gateway.now c.settle.new.gateway [] c.in_err-settle.field-0.0 e.err e.stays e.state e.last)

pub returns-in_err-compact_settled-clause-err : goal.returns-in_err-compact_settled-clause-err
returns-in_err-compact_settled-clause-err g c =
    let p = err_from_is_err_and c.from_residual-in_err-compact_settled.result c.from_residual-in_err-compact_settled.ensures.1 in
    let s = c.in_ok-settle.ensures in
    let e = c.in_err-compact_settled.ensures in
    rw (p.1, p.2) (fails-then (proceeds-settled g.D.Disk.honest g.D.Disk.moment g.D.Disk.left g.D.Disk.failed c.args.gateway.now c.settle.new.gateway s.ok s.none) s.state s.last
    (fails-held g.D.Disk.honest g.D.Disk.moment g.D.Disk.left g.D.Disk.failed c.settle.new.gateway c.compact_settled.new.gateway [] c.in_err-compact_settled.field-0.0 e.err
    (ap (λ (t : Told). t.held) e.told) (ap (λ (t : Told). t.state) e.told) (ap (λ (t : Told). t.last) e.told)))

pub returns-clause-ok : goal.returns-clause-ok
returns-clause-ok g c =
    let s = c.in_ok-settle.ensures in
    let e = c.in_ok-compact_settled.ensures in
    proceeds-then (proceeds-settled g.D.Disk.honest g.D.Disk.moment g.D.Disk.left g.D.Disk.failed c.args.gateway.now c.settle.new.gateway s.ok s.none)
    (proceeds-held g.D.Disk.honest g.D.Disk.moment g.D.Disk.left g.D.Disk.failed c.settle.new.gateway c.compact_settled.new.gateway e.ok (ap (λ (t : Told). t.held) e.told))

pub returns-in_err-compact_settled-clause-any_moment : goal.returns-in_err-compact_settled-clause-any_moment
returns-in_err-compact_settled-clause-any_moment g c =
    let s = c.in_ok-settle.ensures in
    safe-then (proceeds-settled g.D.Disk.honest g.D.Disk.moment g.D.Disk.left g.D.Disk.failed c.args.gateway.now c.settle.new.gateway s.ok s.none)
    c.compact_settled.new.gateway g.met.D.Disk.earlier s.any_moment c.in_err-compact_settled.ensures.any_moment

pub returns-clause-any_moment : goal.returns-clause-any_moment
returns-clause-any_moment g c =
    let s = c.in_ok-settle.ensures in
    safe-then (proceeds-settled g.D.Disk.honest g.D.Disk.moment g.D.Disk.left g.D.Disk.failed c.args.gateway.now c.settle.new.gateway s.ok s.none)
    c.compact_settled.new.gateway g.met.D.Disk.earlier s.any_moment c.in_ok-compact_settled.ensures.any_moment
