use Rattle.std.proofs.Common.{◌≡◌, slice_get, Some, refl, arith}
use Rattle.std.proofs.lemmas.Option.{slice_get_read, slice_get_within}
use Rattle.digraph.proofs.LoopLemmas.{falls_more}
use Rattle.digraph.proofs.witness.level_step.Goals as goal

pub loop-place-preserved : goal.loop-place-preserved
loop-place-preserved c =
    let at : slice_get c.args.rows.now c.loop-place.place ≡ Some c.index-rows-place.result = slice_get_read c.args.rows.now _ c.loop-place.place c.index-rows-place.result refl (omega arith) c.index-rows-place.is in
    let over = rw (c.as_slice.ensures, c.rank_of.ensures) at c.in_default.ensures.none in
    falls_more c.args.rows.now c.args.ranks.now c.index-rows-place.result c.loop-place.place at over c.loop-place.invariant

pub returns-clause-none : goal.returns-clause-none
returns-clause-none c a b edge = c.loop-place.invariant a b (omega (arith, slice_get_within c.args.rows.now a edge.0 edge.1, c.loop-place-test.false)) edge

pub returns-in-Some-clause-some : goal.returns-in-Some-clause-some
returns-in-Some-clause-some c =
    let at : slice_get c.args.rows.now c.loop-place.place ≡ Some c.index-rows-place.result = slice_get_read c.args.rows.now _ c.loop-place.place c.index-rows-place.result refl (omega arith) c.index-rows-place.is in
    (c.index-rows-place.result, at, rw c.as_slice.ensures at c.in-Some.ensures.some)
