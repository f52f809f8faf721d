use Rattle.std.proofs.Common.{None, sym, ◌∙◌}
use Rattle.std.proofs.lemmas.List.{get_or_default}
use Rattle.buckets.proofs.Values.{moved-step}
use Rattle.buckets.proofs.places.copy_all.Goals as goal

pub loop-place-preserved : goal.loop-place-preserved
loop-place-preserved c =
    let old = c.args.old.now in
    let index = c.loop-place.place-index in
    let item = c.place-item.result in
    moved-step old c.loop-place.fresh c.copy.new.fresh index item c.requires.apart (sym (c.place-item.is ∙ get_or_default old index item None c.loop-place-test.true)) c.if-not-copy.ensures c.loop-place.invariant
