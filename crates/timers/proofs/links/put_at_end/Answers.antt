use Rattle.std.proofs.Common.{◌<◌, subst, arith}
use Rattle.timers.specs.Links.{head_of, IsJoined}
use Rattle.timers.proofs.Held.{head_below, end_inside, IsRow-append}
use Rattle.timers.proofs.links.put_at_end.Goals as goal

pub join-requires-clause-a : goal.join-requires-clause-a
join-requires-clause-a c =
    let below : head_of c.args.added.queue < 3 = head_below c.args.added.queue in
    omega (arith, c.requires.end, end_inside c.args.links.now.items (head_of c.args.added.queue) c.requires.row (omega (arith, c.requires.place, c.requires.inside)) below)

pub returns-clause-row : goal.returns-clause-row
returns-clause-row c =
    IsRow-append _ _ _ _ c.args.place c.args.added c.requires.row c.requires.place c.requires.free c.requires.latest
    (subst (λ q. IsJoined c.args.links.now.items c.join.new.links.items q c.args.place) c.requires.end c.join.ensures)
    (subst (λ q. IsJoined c.join.new.links.items c.join-2.new.links.items c.args.place q) c.head-head.ensures c.join-2.ensures) c.set_watch.ensures
