use Rattle.buckets.specs.Places.{IsExtended}
use Rattle.buckets.proofs.places.add_free.Given as goal

abbrev pub invariant-loop : goal.invariant-loop
invariant-loop l = IsExtended l.fn.places.items l.places.items
