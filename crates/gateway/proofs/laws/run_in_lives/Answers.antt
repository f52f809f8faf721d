use Rattle.gateway.proofs.Living.{run-ok, run-err}
use Rattle.gateway.proofs.laws.run_in_lives.Goals as goal

pub returns-clause-ok : goal.returns-clause-ok
returns-clause-ok g c =
    let e = c.run.ensures in
    run-ok g.D.Disk.honest g.D.Disk.moment g.D.Disk.left g.D.Disk.seen g.D.Disk.failed g.met.D.Disk.earlier
    c.args.gateway.now c.run.new.self c.run.result c.args.events.items (λ answers. answers.items) _ e.ok e.honest e.stays_honest e.any_moment e.at_exit e.configured e.none e.stands e.through e.carries

pub returns-clause-err : goal.returns-clause-err
returns-clause-err g c = run-err g.D.Disk.honest g.D.Disk.moment g.D.Disk.left g.D.Disk.seen g.D.Disk.failed g.met.D.Disk.earlier
    c.args.gateway.now c.run.new.self c.run.result c.args.events.items (λ e. e.0.items) (λ e. e.1) c.run.ensures.through_front c.run.ensures.breaks c.run.ensures.err
