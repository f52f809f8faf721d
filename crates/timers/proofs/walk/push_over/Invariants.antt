use Rattle.std.proofs.Common.{◌-◌, length}
use Rattle.timers.specs.Links.{head_of}
use Rattle.timers.proofs.Walks.{IsWalked}
use Rattle.timers.proofs.walk.push_over.Given as goal

abbrev pub invariant-loop-slot : goal.invariant-loop-slot
invariant-loop-slot l = IsWalked l.links l.now (head_of l.fn.queue) l.place l.slots.items

abbrev pub decreases-loop-slot : goal.decreases-loop-slot
decreases-loop-slot l = length l.links - length l.slots.items
