use Rattle.std.proofs.Common.{◌≡◌, None, sym, ◌∙◌, subst}
use Rattle.std.proofs.lemmas.Bool.{OnFalse_at}
use Rattle.rows.specs.Held.{value_at, Puts}
use Rattle.buckets.specs.ByPort.{ArePlaced}
use Rattle.buckets.specs.Places.{all_in, HasNowhere}
use Rattle.buckets.proofs.Values.{vals, all-some, all-none, overflow-puts, none-nowhere}
use Rattle.buckets.proofs.Placed.{taken-placed, taken-puts, none-gone, others-placed}
use Rattle.buckets.proofs.by_port.take_out.Goals as goal

pub returns-in-Some-clause-placed : goal.returns-in-Some-clause-placed
returns-in-Some-clause-placed c =
    taken-placed c.args.places.now c.take_from_home.new.places c.args.key c.in-Some.value c.args.others.now.held c.in-Some.ensures.gone c.requires.placed.home (sym c.take_from_home.ensures.value ∙ c.in-Some.is) c.requires.placed.once c.args.has_others c.requires.placed.none

pub returns-in-Some-clause-value : goal.returns-in-Some-clause-value
returns-in-Some-clause-value c = sym (all-some c.args.places.now c.args.others.now.held c.args.key c.in-Some.value (sym c.take_from_home.ensures.value ∙ c.in-Some.is))

pub returns-in-Some-clause-gone : goal.returns-in-Some-clause-gone
returns-in-Some-clause-gone c =
    taken-puts c.args.places.now c.take_from_home.new.places c.args.key c.in-Some.value c.args.others.now.held c.in-Some.ensures.gone c.requires.placed.home (sym c.take_from_home.ensures.value ∙ c.in-Some.is) c.requires.placed.once

-- the place hasn't the key
missed : (c : goal.Then-not-has_others) → vals c.args.places.now c.args.key ≡ None
missed c = sym c.take_from_home.ensures.value ∙ c.in_default.is

-- nor have the others
lacks : (c : goal.Then-not-has_others) → value_at (all_in c.args.places.now c.args.others.now.held) c.args.key ≡ None
lacks c = all-none c.args.places.now c.args.others.now.held c.args.key (missed c) ∙ OnFalse_at c.if-not-has_others.true c.requires.placed.none c.args.key

pub returns-then-not-has_others-clause-placed : goal.returns-then-not-has_others-clause-placed
returns-then-not-has_others-clause-placed c = subst (λ ps. ArePlaced ps c.args.others.now.held c.args.has_others) (sym c.in_default.ensures.kept) c.requires.placed

pub returns-then-not-has_others-clause-value : goal.returns-then-not-has_others-clause-value
returns-then-not-has_others-clause-value c = sym (lacks c)

pub returns-then-not-has_others-clause-gone : goal.returns-then-not-has_others-clause-gone
returns-then-not-has_others-clause-gone c =
    let places = c.args.places.now in
    let others = c.args.others.now.held in
    subst (λ ps. Puts (all_in places others) (all_in ps others) c.args.key None) (sym c.in_default.ensures.kept) (none-gone places others c.args.key (lacks c))

-- no place has the key
nowhere : (c : goal.After-remove) → HasNowhere c.args.places.now c.args.key
nowhere c = none-nowhere c.args.places.now c.args.key (sym c.take_from_home.ensures.value ∙ c.in_default.is)

pub returns-clause-placed : goal.returns-clause-placed
returns-clause-placed c =
    let others = c.remove.new.self.held in
    let placed = others-placed c.args.places.now c.args.others.now.held others c.args.key None (nowhere c) c.remove.ensures.gone c.requires.placed.home c.requires.placed.once in
    subst (λ ps. ArePlaced ps others c.args.has_others) (sym c.in_default.ensures.kept) (subst (ArePlaced c.args.places.now others) (sym c.if-not-has_others.false) placed)

pub returns-clause-value : goal.returns-clause-value
returns-clause-value c = c.remove.ensures.value ∙ sym (all-none c.args.places.now c.args.others.now.held c.args.key (sym c.take_from_home.ensures.value ∙ c.in_default.is))

pub returns-clause-gone : goal.returns-clause-gone
returns-clause-gone c =
    let places = c.args.places.now in
    let others = c.args.others.now.held in
    subst (λ ps. Puts (all_in places others) (all_in ps c.remove.new.self.held) c.args.key None) (sym c.in_default.ensures.kept) (overflow-puts places others c.remove.new.self.held c.args.key None (nowhere c) c.remove.ensures.gone)
