use Rattle.machine.proofs.Expiry.{latest_watched, none_over}
use Rattle.machine.proofs.flows.Flows.slots_due.Goals as goal

pub due-requires : goal.due-requires
due-requires c = latest_watched c.self.inside.table c.self.inside.due c.self.inside.translations.mappings c.args.now c.self.invariant (rw (← c.self.view_is) at c.requires)

pub returns-clause-succeeds : goal.returns-clause-succeeds
returns-clause-succeeds c = λ none. c.due.ensures.succeeds (none_over c.self.inside.table c.self.inside.due c.self.inside.translations.mappings c.args.now c.self.invariant (rw (← c.self.view_is) at none))
