use Rattle.std.proofs.Common.{◌≤◌, length}
use Rattle.carrying.specs.Noting.{NotesMore}
use Rattle.carrying.proofs.drops.Drops.note_all.Given as goal

abbrev pub invariant-loop-request : goal.invariant-loop-request
invariant-loop-request l = NotesMore l.fn.self l.self × (l.self.count ≤ l.self.most)

abbrev pub decreases-loop-request : goal.decreases-loop-request
decreases-loop-request l = length l.requests
