use Rattle.std.proofs.Common.{◌≡◌, Some, slice_get, refl, arith}
use Rattle.std.proofs.lemmas.Option.{slice_get_read}
use Rattle.digraph.proofs.Reaching.{kept_on, sound_on, stepped_on}
use Rattle.digraph.proofs.reach.spread.Goals as goal

pub loop-place-preserved : goal.loop-place-preserved
loop-place-preserved c =
    let at : slice_get c.args.rows.now c.loop-place.place ≡ Some c.index-rows-place.result = slice_get_read c.args.rows.now _ c.loop-place.place c.index-rows-place.result refl (omega arith) c.index-rows-place.is in
    let mark = rw c.as_slice.ensures at c.mark_row_if.ensures in
    record {
      kept = kept_on _ _ _ _ _ _ at mark c.loop-place.invariant.kept;
      sound = sound_on _ _ _ _ _ _ at mark c.loop-place.invariant.sound;
      stepped = stepped_on _ _ _ _ _ _ at mark c.loop-place.invariant.kept c.loop-place.invariant.stepped;
    }
