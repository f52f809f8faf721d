use Rattle.std.proofs.Common.{None, refl}
use Rattle.timers.proofs.Shown.{held_watch, IsPut-idle, Updates-idle}
use Rattle.timers.proofs.due.Due.remove.Goals as goal

pub cut-requires-clause-held : goal.cut-requires-clause-held
cut-requires-clause-held c = held_watch c.self.inside.links.items c.args.slot (rw (← c.self.view_is) at c.requires)

pub returns-clause-updates : goal.returns-clause-updates
returns-clause-updates c =
    rw (← c.self.view_is) (Updates-idle _ _ c.self.inside.links.items c.cut.new.links.items c.args.slot None refl refl (IsPut-idle _ _ c.args.slot None c.cut.ensures.watch))
