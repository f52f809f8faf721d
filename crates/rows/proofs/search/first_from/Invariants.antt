use Rattle.std.proofs.Common.{◌≡◌, ◌≤◌, ◌-◌, Bool, true, length}
use Rattle.std.specs.List.{AllWithin}
use Rattle.std.specs.List.Sorted.{IsPartitionedBy}
use Rattle.rows.specs.Search.{IsTestFor}
use Rattle.rows.proofs.search.first_from.Given as goal

abbrev pub invariant-loop-place : goal.invariant-loop-place
invariant-loop-place g l = record {
  in_range : l.place ≤ length l.items;
  before : (p : g.row.T.Denot → Bool) → IsTestFor g.P.Fn l.is_before p → IsPartitionedBy p l.items → AllWithin (λ y. p y ≡ true) l.items 0 l.from → AllWithin (λ y. p y ≡ true) l.items 0 l.place;
}

abbrev pub decreases-loop-place : goal.decreases-loop-place
decreases-loop-place g l = length l.items - l.place
