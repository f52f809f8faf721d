use Rattle.std.proofs.Common.{◌<◌, suc, ℕ, slice_index_or}
use Rattle.sets.specs.Members.{Share}
use Rattle.sets.proofs.vmap.overlap.Given as goal

-- no key so far shares a value with the one before it
abbrev pub invariant-loop-place : goal.invariant-loop-place
invariant-loop-place g l = (k : ℕ) (d : _) → suc k < l.place → ¬ Share (slice_index_or l.pairs k d).key (slice_index_or l.pairs (suc k) d).key
