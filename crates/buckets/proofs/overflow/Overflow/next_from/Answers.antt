use Rattle.std.proofs.Common.{sym, ◌∙◌}
use Rattle.buckets.proofs.Numbers.{next-is, past-is}
use Rattle.buckets.proofs.overflow.Overflow.next_from.Goals as goal

pub returns-in_err-entry-clause-past : goal.returns-in_err-entry-clause-past
returns-in_err-entry-clause-past c =
    rw (c.from_residual.ensures, ← c.self.view_is) (past-is c.self.inside.rows.held c.self.invariant c.args.from (sym c.iter_from.ensures ∙ c.in_err-entry.ensures.steps.0))

pub returns-clause-next : goal.returns-clause-next
returns-clause-next c =
    rw (← c.self.view_is) (next-is c.self.inside.rows.held c.self.invariant c.args.from c.facts.ensures c.in_ok-entry.entry _ (sym c.iter_from.ensures ∙ c.in_ok-entry.ensures.steps))
