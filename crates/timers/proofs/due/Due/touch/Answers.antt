use Rattle.std.proofs.Common.{Some, refl}
use Rattle.timers.proofs.Shown.{held_watch, latest_places, Updates-idle}
use Rattle.timers.proofs.due.Due.touch.Goals as goal

pub renew-requires-clause-held : goal.renew-requires-clause-held
renew-requires-clause-held c = held_watch c.self.inside.links.items c.args.slot (rw (← c.self.view_is) at c.requires.held)

pub renew-requires-clause-latest : goal.renew-requires-clause-latest
renew-requires-clause-latest c = latest_places c.self.inside.links.items c.args.last c.self.invariant (rw (← c.self.view_is) at c.requires.latest)

pub returns-clause-updates : goal.returns-clause-updates
returns-clause-updates c = rw (← c.self.view_is) (Updates-idle _ _ c.self.inside.links.items c.renew.new.links.items c.args.slot (Some _) refl refl c.renew.ensures.idle)
