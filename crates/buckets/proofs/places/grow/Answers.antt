use Rattle.std.proofs.Common.{drop, length, ap, ◌∙◌, subst, arith}
use Rattle.std.proofs.lemmas.List.{take_at}
use Rattle.rows.specs.Held.{value_at}
use Rattle.buckets.specs.Places.{all_in, HaveSame}
use Rattle.buckets.proofs.Values.{same-all}
use Rattle.buckets.proofs.places.grow.Goals as goal

pub returns-clause-same : goal.returns-clause-same
returns-clause-same c = λ key.
    let fresh = c.in-Some.fresh.items in
    let over = c.args.overflow.now.held in
    let lifted = c.lift_each.new.places in
    let same = subst (λ ps. HaveSame ps fresh) c.deref.ensures.value c.in-Some.ensures in
    let back = take_at lifted (drop (length lifted) fresh) c.in-Some.fresh.len (omega (arith, c.lift_each.auto.places, c.deref_mut.ensures.len)) in
    ap (λ ps. value_at (all_in ps c.lift_each.new.overflow.held) key) back ∙ c.lift_each.ensures.same key
    ∙ ap (λ ps. value_at (all_in ps over) key) c.deref_mut.ensures.value ∙ same-all c.args.places.now.items fresh over same c.requires.sound key
