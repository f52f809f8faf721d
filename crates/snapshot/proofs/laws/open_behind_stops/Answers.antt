use Rattle.snapshot.proofs.Reopened.{left_behind, is_opening, found_again, not_refused}
use Rattle.snapshot.proofs.laws.open_behind_stops.Goals as goal

pub returns-clause-opening : goal.returns-clause-opening
returns-clause-opening g c = λ honest.
    is_opening g.D.Disk.moment g.D.Disk.left c.args.bounds.now g.D.Disk.seen c.args.disk c.open.result (c.open.ensures.any_moment honest) (c.open.ensures.configured honest)

pub returns-clause-state : goal.returns-clause-state
returns-clause-state g c = λ honest d openings row over.
    let seen = g.D.Disk.seen in
    let disk = c.args.disk in
    let now = left_behind g.D.Disk.moment g.D.Disk.left c.args.bounds.now d openings row (seen disk) (over (seen disk) (g.met.D.Disk.reads disk honest)) in
    found_again g.D.Disk.moment g.D.Disk.left c.args.bounds.now seen disk d now c.open.result (c.open.ensures.ok honest) (c.open.ensures.current honest)

pub returns-clause-refused : goal.returns-clause-refused
returns-clause-refused g c = λ honest d openings row over.
    let seen = g.D.Disk.seen in
    let disk = c.args.disk in
    let now = left_behind g.D.Disk.moment g.D.Disk.left c.args.bounds.now d openings row (seen disk) (over (seen disk) (g.met.D.Disk.reads disk honest)) in
    not_refused g.D.Disk.moment g.D.Disk.left c.args.bounds.now seen disk d now c.open.result (c.open.ensures.damaged honest) (c.open.ensures.differs honest)
