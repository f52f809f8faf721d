use Rattle.std.proofs.Common.{subst}
use Rattle.timers.specs.Links.{previous, IsJoined}
use Rattle.timers.proofs.Held.{IsRow-cut}
use Rattle.timers.proofs.links.take_out.Goals as goal

pub returns-clause-row : goal.returns-clause-row
returns-clause-row c =
    let items = c.args.links.now.items in
    let first = subst (λ q. IsJoined items c.join.new.links.items q c.args.behind) c.requires.before c.join.ensures in
    let joined = subst (λ q. IsJoined items c.join.new.links.items (previous items c.args.place) q) c.requires.behind first in
    IsRow-cut _ _ _ c.args.place c.requires.row c.requires.held joined c.set_watch.ensures
