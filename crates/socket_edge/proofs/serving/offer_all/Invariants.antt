use Rattle.std.proofs.Common.{◌≡◌, ◌++◌, ℕ, List, true, false, length}
use Rattle.machine.specs.declared.event.Answer.{Answer}
use Rattle.frames.specs.Answers.{frames}
use Rattle.socket_edge.proofs.Loops.{SoFar}
use Rattle.socket_edge.proofs.serving.offer_all.Given as goal

abbrev pub invariant-loop-fault : goal.invariant-loop-fault
invariant-loop-fault g l =
    (handed : List (ℕ × Answer)) × (l.waiting.answered ≡ l.fn.waiting.answered ++ frames handed)
    × SoFar g.D.Disk.honest g.D.Disk.moment g.D.Disk.left g.D.Disk.failed l.fn.gateway l.gateway l.fn.waiting.unanswered l.waiting.unanswered handed
    × (l.gateway.fallen ≡ false) × (l.gateway.in_place ≡ true) × (l.waiting.held ≡ frames l.gateway.told.held)

abbrev pub decreases-loop-fault : goal.decreases-loop-fault
decreases-loop-fault g l = length l.waiting.unanswered
