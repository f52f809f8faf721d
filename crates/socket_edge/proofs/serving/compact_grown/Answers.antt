use Rattle.std.proofs.Common.{◌≡◌, [], ap, sym, subst, Err, ◌∙◌}
use Rattle.std.proofs.lemmas.Result.{err_from_is_err_and}
use Rattle.gateway.specs.declared.fault.GatewayFault.TheVariants as fault
use Rattle.gateway.proofs.Runs.{breaks-here, carries-none, compact-stopped, compact-why, compacted, fault-is, stands-still}
use Rattle.gateway.specs.Kept.{Kept}
use Rattle.gateway.specs.Running.{Stands}
use Rattle.socket_edge.proofs.Tending.{no-call}
use Rattle.socket_edge.proofs.serving.compact_grown.Goals as goal

pub returns-then-grown-le-MOST_GROWN-clause-ok : goal.returns-then-grown-le-MOST_GROWN-clause-ok
returns-then-grown-le-MOST_GROWN-clause-ok g c = λ before. no-call g.D.Disk.honest g.D.Disk.moment g.D.Disk.left g.D.Disk.seen g.D.Disk.failed g.met.D.Disk.reads g.met.D.Disk.earlier c.args.gateway.now before

pub returns-in_err-compact-clause-err : goal.returns-in_err-compact-clause-err
returns-in_err-compact-clause-err g c =
    let p = err_from_is_err_and c.from_residual.result c.from_residual.ensures.1 in
    let e = c.in_err-compact.ensures in
    let why = c.in_err-compact.field-0.0 in
    rw (p.1, p.2) (λ before. breaks-here g.D.Disk.honest g.D.Disk.moment g.D.Disk.left g.D.Disk.failed c.args.gateway.now c.compact.new.self [] before before why
    (λ start events s. record {
      ends = compact-stopped g.D.Disk.honest g.D.Disk.moment g.D.Disk.left g.D.Disk.seen g.D.Disk.failed g.met.D.Disk.reads g.met.D.Disk.earlier start
          c.args.gateway.now events before s c.compact.new.self e.honest e.stays_honest e.configured e.any_moment e.told;
      is_why = compact-why g.D.Disk.honest g.D.Disk.moment g.D.Disk.left g.D.Disk.seen g.D.Disk.failed g.met.D.Disk.reads g.met.D.Disk.earlier start
          c.args.gateway.now events before s c.compact.new.self why (fault-is why fault.Reopen e.reopen) (fault-is why fault.Device e.fell) e.causes (λ is. e.cause.failed (ap Err is)) e.cause.by_one
          (λ is. ap (λ n. n.generation) (e.stays (λ d. let bad : fault.Generations ≡ fault.Device = sym is ∙ d in absurd cc)) ∙ e.generations (ap Err is));
      stays = λ other. subst (λ (n : Kept _). Stands g.D.Disk.honest g.D.Disk.moment g.D.Disk.left g.D.Disk.failed start n events before) (sym (e.stays other)) s;
    }))

pub returns-clause-ok : goal.returns-clause-ok
returns-clause-ok g c =
    let e = c.in_ok-compact.ensures in λ before.
    carries-none g.D.Disk.honest g.D.Disk.moment g.D.Disk.left g.D.Disk.failed c.args.gateway.now c.compact.new.self before before
    (λ start events s. compacted g.D.Disk.honest g.D.Disk.moment g.D.Disk.left g.D.Disk.seen g.D.Disk.failed g.met.D.Disk.reads g.met.D.Disk.earlier start
    c.args.gateway.now events before s c.compact.new.self e.honest e.stays_honest e.configured e.any_moment e.told c.requires.none
    (stands-still c.in_ok-compact.field-0 fault.Device c.compact.new.self.fallen e.fell c.requires.stands) (e.cause.others (λ told. absurd cc)))
