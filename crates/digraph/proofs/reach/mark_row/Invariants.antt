use Rattle.std.proofs.Common.{◌≡◌, ◌↔◌, ◌⊎◌, ◌<◌, ℕ, get_or}
use Rattle.digraph.specs.Edges.{IsMarked}
use Rattle.digraph.proofs.reach.mark_row.Given as goal

abbrev pub invariant-loop-b : goal.invariant-loop-b
invariant-loop-b l = (b : ℕ) → IsMarked l.marks b ↔ (IsMarked l.initial.marks b ⊎ ((j : ℕ) × (j < l.b-index) × (get_or l.row j b ≡ b)))
