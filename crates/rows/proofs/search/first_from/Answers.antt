use Rattle.std.proofs.Common.{◌≡◌, ◌+◌, ◌-◌, ◌<◌, true, false, length, refl, ◌∙◌, sym, arith}
use Rattle.std.proofs.lemmas.Fn.{says_at}
use Rattle.rows.proofs.Searches.{read-at, true-up_to, false-from}
use Rattle.rows.proofs.search.first_from.Goals as goal

pub loop-place-preserved : goal.loop-place-preserved
loop-place-preserved g c = record {
  in_range = omega (arith, c.loop-place-test.true, c.loop-place.invariant.in_range);
  before = λ p test parted front.
      let items = c.args.items.now in
      let last = c.loop-place.place + c.args.stride - 1 in
      let item = c.index-items-place.result in
      let inside : last < length items = omega (arith, c.loop-place-test.true, c.loop-place.invariant.in_range, c.requires.forward) in
      let answer : p item ≡ true = sym (test item _ (says_at g.P.Fn c.is_before.ensures refl)) ∙ c.if-is_before.true in
      true-up_to p items parted last inside (read-at p items last item true inside c.index-items-place.is answer) (c.loop-place.place + c.args.stride) (omega arith);
}

pub returns-else-is_before-clause-after : goal.returns-else-is_before-clause-after
returns-else-is_before-clause-after g c = λ p test parted.
    let items = c.args.items.now in
    let last = c.loop-place.place + c.args.stride - 1 in
    let item = c.index-items-place.result in
    let inside : last < length items = omega (arith, c.loop-place-test.true, c.loop-place.invariant.in_range, c.requires.forward) in
    let answer : p item ≡ false = sym (test item _ (says_at g.P.Fn c.is_before.ensures refl)) ∙ c.if-is_before.false in
    false-from p items parted last inside (read-at p items last item false inside c.index-items-place.is answer) (c.loop-place.place + c.args.stride) (omega arith)
