use Rattle.std.proofs.Common.{rules}
use Rattle.std.proofs.lemmas.Fn.{always_returns_same}
use Rattle.sets.specs.Order.{is_before}
use Rattle.sets.proofs.Joined.{elements_ordered}
use Rattle.sets.proofs.Unions.{members_permuted}
use Rattle.sets.proofs.set.Set.union_of.Goals as goal

pub join_touching-requires : goal.join_touching-requires
join_touching-requires c = c.sort_unstable_by.ensures.sorted is_before elements_ordered (always_returns_same _ _ _ (λ a r f called. search rules))

pub returns-clause-ok : goal.returns-clause-ok
returns-clause-ok c = λ fact.
    let same = c.join_touching.ensures.same fact in
    let sorted = members_permuted fact c.args.elements.items c.sort_unstable_by.new.self.items c.sort_unstable_by.ensures.permutation in
    (λ m. sorted.0 (same.0 m), λ m. same.1 (sorted.1 m))
