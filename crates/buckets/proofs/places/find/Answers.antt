use Rattle.std.proofs.Common.{◌≡◌, ℕ, List, Option, get_or, None, sym, ap, ◌∙◌}
use Rattle.std.proofs.lemmas.Bool.{OnTrue_at}
use Rattle.std.proofs.lemmas.List.{get_or_default}
use Rattle.std.specs.Option.{option_map}
use Rattle.rows.specs.declared.Entry.{Entry}
use Rattle.buckets.specs.Places.{EndsSearch}
use Rattle.buckets.proofs.Values.{nowhere-all, ends-inside, found-value, missed}
use Rattle.buckets.proofs.places.find.Goals as goal

pub returns-in_default : goal.returns-in_default
returns-in_default c =
    c.get.ensures ∙ sym (nowhere-all c.args.places.now c.args.overflow.now.held c.args.key c.in_default.ensures.absent)

-- what was read is what the place has
read : (places : List (Option Entry)) (key place : ℕ) (item : Option Entry) (value : Option ℕ) → EndsSearch places key place → item ≡ get_or places place item → value ≡ option_map (λ (e : Entry). e.value) item → option_map (λ (e : Entry). e.value) (get_or places place None) ≡ value
read places key place item value ends is gives =
    sym (gives ∙ ap (option_map (λ (e : Entry). e.value)) (is ∙ get_or_default places place item None (ends-inside places key place ends)))

pub returns-in-Some-value : goal.returns-in-Some-value
returns-in-Some-value c =
    found-value c.args.places.now c.args.overflow.now.held c.args.key c.in-Some.place c.requires.sound c.in-Some.ensures.ends c.in-Some-value.value (read c.args.places.now c.args.key c.in-Some.place c.index-places-place.result c.value.result c.in-Some.ensures.ends c.index-places-place.is c.value.ensures ∙ c.in-Some-value.is)

pub returns-then-are_packed : goal.returns-then-are_packed
returns-then-are_packed c =
    let places = c.args.places.now in
    let free = missed places c.args.key c.in-Some.place c.in-Some.ensures.ends (read c.args.places.now c.args.key c.in-Some.place c.index-places-place.result c.value.result c.in-Some.ensures.ends c.index-places-place.is c.value.ensures ∙ c.in_default-value.is) in
    sym (nowhere-all places c.args.overflow.now.held c.args.key free.1 ∙ OnTrue_at c.if-are_packed.true c.requires.packed c.args.key c.in-Some.place free.0)

pub returns : goal.returns
returns c =
    let places = c.args.places.now in
    let free = missed places c.args.key c.in-Some.place c.in-Some.ensures.ends (read c.args.places.now c.args.key c.in-Some.place c.index-places-place.result c.value.result c.in-Some.ensures.ends c.index-places-place.is c.value.ensures ∙ c.in_default-value.is) in
    c.get-2.ensures ∙ sym (nowhere-all places c.args.overflow.now.held c.args.key free.1)
