use Rattle.std.proofs.Common.{◌≡◌, ◌+◌, ◌≤◌, Bool, true, false}
use Rattle.std.specs.List.{AllWithin}
use Rattle.std.specs.List.Sorted.{IsPartitionedBy}
use Rattle.rows.specs.Search.{IsTestFor}
use Rattle.rows.proofs.search.count_from.Given as goal

-- the items that were seen are told apart at the place
abbrev pub invariant-loop-item : goal.invariant-loop-item
invariant-loop-item g l = record {
  in_range : l.place ≤ l.from + l.item-index;
  told : (p : g.row.T.Denot → Bool) → IsTestFor g.P.Fn l.is_before p → IsPartitionedBy p l.items → AllWithin (λ y. p y ≡ true) l.items 0 l.from → AllWithin (λ y. p y ≡ true) l.items 0 l.place × AllWithin (λ y. p y ≡ false) l.items l.place (l.from + l.item-index);
}
