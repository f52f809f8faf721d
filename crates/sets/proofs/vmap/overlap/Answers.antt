use Rattle.std.proofs.Common.{◌≡◌, ◌-◌, suc, true, false, slice_index_or, refl, sym, arith}
use Rattle.sets.proofs.Sorted.{overlap_from_neighbours, apart_from_neighbours}
use Rattle.sets.proofs.vmap.overlap.Goals as goal

pub returns-then-shares_with : goal.returns-then-shares_with
returns-then-shares_with g c =
    let k = c.loop-place.place - 1 in
    let next : c.loop-place.place ≡ suc k = omega arith in
    let is : slice_index_or c.args.pairs.now (suc k) c.index-pairs-place-in-loop-place.result ≡ c.index-pairs-place-in-loop-place.result = rw (← next) (sym c.index-pairs-place-in-loop-place.is) in
    (λ t. overlap_from_neighbours c.args.pairs.now k c.index-pairs-place.result c.index-pairs-place-in-loop-place.result (omega arith) (sym c.index-pairs-place.is) is (c.shares_with.ensures.0 c.if-shares_with.true), λ o. refl)

pub returns : goal.returns
returns g c = (λ (t : false ≡ true). cc, λ o. absurd (apart_from_neighbours c.args.pairs.now c.requires (λ k d lt. c.loop-place.invariant k d (omega arith)) o))
