use Rattle.buckets.specs.Places.{IsMoved}
use Rattle.buckets.proofs.places.copy_all.Given as goal

-- the entries of the places so far are moved
abbrev pub invariant-loop-place : goal.invariant-loop-place
invariant-loop-place l = IsMoved l.old l.place-index l.fresh
