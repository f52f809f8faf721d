use Rattle.timers.proofs.Held.{inside_row, IsRow-renew}
use Rattle.timers.proofs.links.stay_last.Goals as goal

pub set_watch-requires : goal.set_watch-requires
set_watch-requires c = inside_row c.args.links.now.items c.args.place c.requires.held

pub returns-clause-row : goal.returns-clause-row
returns-clause-row c = IsRow-renew _ _ c.args.place c.args.renewed c.requires.row c.requires.held c.requires.last c.requires.place c.requires.latest c.set_watch.ensures
