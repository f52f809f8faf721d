use Rattle.std.proofs.Common.{◌≡◌, ◌+◌, ◌-◌, ◌<◌, true, false, length, drop, get_or, refl, ◌∙◌, sym, subst, inl, inr, arith}
use Rattle.std.proofs.lemmas.Bool.{cases_lt}
use Rattle.std.proofs.lemmas.Fn.{says_at}
use Rattle.std.proofs.lemmas.List.{length-take, length-drop, get_or-take, get_or-drop}
use Rattle.std.specs.List.{AllWithin}
use Rattle.rows.proofs.Searches.{read-at, counted-true, counted-false}
use Rattle.rows.proofs.search.count_from.Goals as goal
use Rattle.rows.proofs.search.count_from.Goals.{then-is_before, else-is_before}

pub loop-item-preserved : goal.loop-item-preserved
loop-item-preserved g c =
    let items = c.args.items.now in
    let from = c.args.from in
    let index = c.loop-item.item-index in
    let item = c.item-item.result in
    let many = from + c.min.result - from in
    let front = length-take many (drop from items) in
    let rest = length-drop from items in
    let within : index < many = omega (arith, c.loop-item-test.true, front) in
    let inside : from + index < length items = omega (arith, c.loop-item-test.true, front, rest) in
    let is : item ≡ get_or items (from + index) item = c.item-item.is ∙ get_or-take many (drop from items) index item within ∙ get_or-drop from items index item in
    elim c.if-is_before.branch [
      | then-is_before w ↦ record {
        in_range = omega (arith, w.place-is, c.loop-item.invariant.in_range);
        told = λ p test parted front.
            let so_far = c.loop-item.invariant.told p test parted front in
            let answer : p item ≡ true = sym (test item _ (says_at g.P.Fn c.is_before.ensures refl)) ∙ w.if-is_before.true in
            subst (λ k. AllWithin (λ y. p y ≡ true) items 0 k × AllWithin (λ y. p y ≡ false) items k (from + (index + 1))) (sym w.place-is) (counted-true p items parted c.loop-item.place (from + index) (from + (index + 1)) (omega arith) c.loop-item.invariant.in_range inside (read-at p items (from + index) item true inside is answer) so_far.1);
      }
      | else-is_before w ↦ record {
        in_range = omega (arith, w.place-is, c.loop-item.invariant.in_range);
        told = λ p test parted front.
            let so_far = c.loop-item.invariant.told p test parted front in
            let answer : p item ≡ false = sym (test item _ (says_at g.P.Fn c.is_before.ensures refl)) ∙ w.if-is_before.false in
            subst (λ k. AllWithin (λ y. p y ≡ true) items 0 k × AllWithin (λ y. p y ≡ false) items k (from + (index + 1))) (sym w.place-is) (so_far.0, counted-false p items c.loop-item.place (from + index) (from + (index + 1)) (omega arith) (read-at p items (from + index) item false inside is answer) so_far.1);
      }
    ]

pub returns-clause-partitioned : goal.returns-clause-partitioned
returns-clause-partitioned g c = λ p test parted front behind.
    let items = c.args.items.now in
    let from = c.args.from in
    let so_far = c.loop-item.invariant.told p test parted front in
    let long = length-take (from + c.min.result - from) (drop from items) in
    let rest = length-drop from items in (
      so_far.0,
      λ k d low lt. elim (cases_lt k (from + c.loop-item.item-index)) [
        | inl less ↦ so_far.1 k d low less
        | inr le ↦ behind k d (omega (arith, le, lt, c.loop-item-test.false, long, rest, c.min.ensures, c.requires.in_range)) lt
      ],
    )
