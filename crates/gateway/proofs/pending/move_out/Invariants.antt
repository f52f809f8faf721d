use Rattle.std.proofs.Common.{◌≡◌, ◌≤◌, take, drop, vec_capacity}
use Rattle.gateway.proofs.pending.move_out.Given as goal

-- the first slots are taken out
abbrev pub invariant-loop : goal.invariant-loop
invariant-loop l =
    (l.handed.items ≡ take l.counter l.initial.slots.items) × (l.slots.items ≡ drop l.counter l.initial.slots.items)
    × (vec_capacity l.initial.handed ≤ vec_capacity l.handed)
