use Rattle.std.proofs.Common.{arith}
use Rattle.rows.proofs.search.count_before.Goals as goal

pub returns-clause-partitioned : goal.returns-clause-partitioned
returns-clause-partitioned g c = λ p test parted.
    let far = c.first_from-far.ensures.before p test parted (λ k d low lt. absurd (omega arith)) in
    let near = c.first_from-near.ensures.before p test parted far in
    c.count_from.ensures.partitioned p test parted near (c.first_from-near.ensures.after p test parted)
