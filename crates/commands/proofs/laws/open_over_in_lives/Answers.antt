use Rattle.commands.proofs.Opened.{over-refused, over-rests, over-stopped, over-tells}
use Rattle.commands.proofs.laws.open_over_in_lives.Goals as goal

pub returns-clause-stopped : goal.returns-clause-stopped
returns-clause-stopped g c = λ h. over-stopped g.D.Disk.honest g.D.Disk.moment g.D.Disk.left g.D.Disk.seen g.D.Disk.failed c.args.bounds c.args.disk c.args.moment
    c.open_over.result h (c.open_over.ensures.any_moment h) (c.open_over.ensures.configured h)

pub returns-clause-refused : goal.returns-clause-refused
returns-clause-refused g c = λ h. over-refused g.D.Disk.honest g.D.Disk.moment g.D.Disk.left g.D.Disk.seen g.D.Disk.failed c.args.bounds c.args.disk c.args.moment
    c.open_over.result h (returns-clause-stopped g c h) c.open_over.ensures.cause

pub returns-clause-opened : goal.returns-clause-opened
returns-clause-opened g c = λ h. over-rests g.D.Disk.honest g.D.Disk.moment g.D.Disk.left g.D.Disk.seen g.D.Disk.failed c.args.bounds c.args.disk c.args.moment
    c.open_over.result _ c.facts.ensures.valid h c.open_over.ensures.honest (c.open_over.ensures.ok h) c.open_over.ensures.config c.open_over.ensures.begins

pub returns-clause-behind : goal.returns-clause-behind
returns-clause-behind g c = λ h first earlier are before. over-tells g.D.Disk.honest g.D.Disk.moment g.D.Disk.left g.D.Disk.seen g.D.Disk.failed c.args.bounds c.args.disk c.args.moment
    g.met.D.Disk.reads (c.lives_are_the_models.ensures c.args.bounds) h first earlier are before c.open_over.result (returns-clause-stopped g c h) c.open_over.ensures.cause
