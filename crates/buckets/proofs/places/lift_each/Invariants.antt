use Rattle.std.proofs.Common.{◌≡◌, ◌≤◌, ℕ}
use Rattle.rows.specs.Held.{value_at}
use Rattle.buckets.specs.Places.{all_in, AreSound}
use Rattle.buckets.proofs.Values.{ArePackedBelow}
use Rattle.buckets.proofs.places.lift_each.Given as goal

-- the entries below this number are dealt with
abbrev pub invariant-loop : goal.invariant-loop
invariant-loop l = record {
  sound : AreSound l.places l.overflow.held;
  same : (key : ℕ) → value_at (all_in l.places l.overflow.held) key ≡ value_at (all_in l.fn.places l.fn.overflow.held) key;
  room : l.fn.overflow.room ≤ l.overflow.room;
  below : ArePackedBelow l.places l.overflow.held l.from;
  small : l.from ≤ 309485009821345068724781056;
}
