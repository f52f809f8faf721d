use Rattle.sets.proofs.Keys.{ranges_share, share_ranges}
use Rattle.sets.proofs.laws.ranges_share.Goals as goal

pub returns : goal.returns
returns c = λ one other. (λ s. share_ranges one other s, λ (a, b). ranges_share one other a b)
