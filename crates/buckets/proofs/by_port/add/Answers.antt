use Rattle.std.proofs.Common.{Some, length, drop, cond, eqb, sym, ap, ◌∙◌, subst, arith}
use Rattle.std.proofs.lemmas.List.{take_at}
use Rattle.std.proofs.lemmas.Result.{on_ok_weaker, on_err_weaker}
use Rattle.rows.specs.Held.{value_at}
use Rattle.buckets.specs.ByPort.{ArePlaced}
use Rattle.buckets.specs.Places.{all_in}
use Rattle.buckets.proofs.Placed.{extended-placed, extended-values}
use Rattle.buckets.proofs.by_port.add.Goals as goal

pub put_in-requires-clause-placed : goal.put_in-requires-clause-placed
put_in-requires-clause-placed c =
    let placed = extended-placed c.args.places.now.items c.make_place.new.places.items c.args.others.now.held c.make_place.ensures c.requires.placed.home c.args.has_others.now c.requires.placed.once c.requires.placed.none in
    subst (λ ps. ArePlaced ps c.args.others.now.held c.args.has_others.now) (sym c.deref_mut.ensures.value) placed

pub put_in-requires-clause-absent : goal.put_in-requires-clause-absent
put_in-requires-clause-absent c =
    let kept = extended-values c.args.places.now.items c.make_place.new.places.items c.args.others.now.held c.make_place.ensures c.requires.placed.home in
    ap (λ ps. value_at (all_in ps c.args.others.now.held) c.args.key) c.deref_mut.ensures.value ∙ kept c.args.key ∙ c.requires.absent

pub returns-clause-ok : goal.returns-clause-ok
returns-clause-ok c =
    let fresh = c.put_in.new.places in
    let back = take_at fresh (drop (length fresh) c.make_place.new.places.items) c.make_place.new.places.len (omega (arith, c.put_in.auto.places, c.deref_mut.ensures.len)) in
    let kept = extended-values c.args.places.now.items c.make_place.new.places.items c.args.others.now.held c.make_place.ensures c.requires.placed.home in
    on_ok_weaker c.put_in.result (λ puts other. ap (λ ps. value_at (all_in ps c.put_in.new.others.held) other) back ∙ puts other
    ∙ ap (cond (eqb other c.args.key) (Some c.args.value)) (ap (λ ps. value_at (all_in ps c.args.others.now.held) other) c.deref_mut.ensures.value ∙ kept other)) c.put_in.ensures.ok

pub returns-clause-err : goal.returns-clause-err
returns-clause-err c =
    let fresh = c.put_in.new.places in
    let back = take_at fresh (drop (length fresh) c.make_place.new.places.items) c.make_place.new.places.len (omega (arith, c.put_in.auto.places, c.deref_mut.ensures.len)) in
    let kept = extended-values c.args.places.now.items c.make_place.new.places.items c.args.others.now.held c.make_place.ensures c.requires.placed.home in
    on_err_weaker c.put_in.result (λ same other. ap (λ ps. value_at (all_in ps c.put_in.new.others.held) other) back ∙ same other
    ∙ ap (λ ps. value_at (all_in ps c.args.others.now.held) other) c.deref_mut.ensures.value ∙ kept other) c.put_in.ensures.err
