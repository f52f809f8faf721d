use Rattle.std.proofs.Common.{rules}
use Rattle.sets.proofs.Joined.{intervals_left, members_left}
use Rattle.sets.proofs.joining.join_touching.Goals as goal

pub returns-clause-intervals : goal.returns-clause-intervals
returns-clause-intervals c = intervals_left _ (λ f x k b f' x' k' called. search rules) _ _ _ c.requires c.dedup_by.ensures.filtered

pub returns-clause-same : goal.returns-clause-same
returns-clause-same c = members_left _ (λ f x k b f' x' k' called. search rules) _ _ _ c.requires c.dedup_by.ensures.filtered
