use Rattle.gateway.proofs.Living.{opening-stopped, opening-refused, opening-rests, refused-behind}
use Rattle.gateway.proofs.laws.open_in_lives.Goals as goal

pub returns-clause-stopped : goal.returns-clause-stopped
returns-clause-stopped g c = λ h. opening-stopped g.D.Disk.honest g.D.Disk.moment g.D.Disk.left g.D.Disk.seen c.args.bounds c.args.disk c.args.moment
    c.open.result h (c.open.ensures.any_moment h) (c.open.ensures.configured h)

pub returns-clause-refused : goal.returns-clause-refused
returns-clause-refused g c = λ h. opening-refused g.D.Disk.honest g.D.Disk.moment g.D.Disk.left g.D.Disk.seen c.args.bounds c.args.disk c.args.moment
    c.open.result (returns-clause-stopped g c h) (c.open.ensures.damaged h) (c.open.ensures.differs h) (c.open.ensures.generations h)

pub returns-clause-opened : goal.returns-clause-opened
returns-clause-opened g c = λ h. opening-rests g.D.Disk.honest g.D.Disk.moment g.D.Disk.left g.D.Disk.seen c.args.bounds c.args.disk c.args.moment
    c.open.result _ c.facts.ensures.valid h c.open.ensures.honest (c.open.ensures.ok h) c.open.ensures.config c.open.ensures.last c.open.ensures.none c.open.ensures.stands

pub returns-clause-behind : goal.returns-clause-behind
returns-clause-behind g c = λ h first earlier are before. refused-behind g.D.Disk.honest g.D.Disk.moment g.D.Disk.left g.D.Disk.seen c.args.bounds c.args.disk c.args.moment
    c.open.result (returns-clause-refused g c h) (c.lives_are_the_models.ensures c.args.bounds) first earlier are before
