use Rattle.std.proofs.Common.{◌≡◌, ◌≤◌, length, take}
use Rattle.gateway.proofs.pending.make_more_slots.Given as goal

-- those that there were stand in front, and as many as the counter says are there
abbrev pub invariant-loop : goal.invariant-loop
invariant-loop l =
    (take (length l.initial.slots.items) l.slots.items ≡ l.initial.slots.items)
    × (length l.initial.slots.items ≤ length l.slots.items) × (length l.slots.items ≡ l.counter)
