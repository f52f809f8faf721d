use Rattle.std.proofs.Common.{◌≡◌, ℕ, List, Option, get_or, None, sym, ap, ◌∙◌}
use Rattle.std.proofs.lemmas.Bool.{OnTrue_at}
use Rattle.std.proofs.lemmas.List.{get_or_default}
use Rattle.std.specs.Option.{option_map}
use Rattle.rows.specs.declared.Entry.{Entry}
use Rattle.rows.specs.Held.{value_at}
use Rattle.buckets.specs.Places.{EndsSearch, ArePacked, IsFreeFor, all_in}
use Rattle.buckets.proofs.Values.{nowhere-all, ends-inside, found-value, missed, more-puts}
use Rattle.buckets.proofs.places.find_or_add.Goals as goal

-- what was read is what the place has
read : (places : List (Option Entry)) (key place : ℕ) (default : Option Entry) (value : Option ℕ) → EndsSearch places key place → value ≡ option_map (λ (e : Entry). e.value) (get_or places place default) → option_map (λ (e : Entry). e.value) (get_or places place None) ≡ value
read places key place default value ends gives =
    sym (gives ∙ ap (option_map (λ (e : Entry). e.value)) (get_or_default places place default None (ends-inside places key place ends)))

pub returns-in-Some-value-clause-found : goal.returns-in-Some-value-clause-found
returns-in-Some-value-clause-found c =
    found-value c.args.places.now c.args.overflow.now.held c.args.key c.in-Some.place c.requires.sound c.in-Some.ensures.ends c.in-Some-value.held (read c.args.places.now c.args.key c.in-Some.place c.index-places-place.result c.value.result c.in-Some.ensures.ends c.value.ensures ∙ c.in-Some-value.is)

-- the place is free, and neither another place nor the overflow has the key
free : (places : List (Option Entry)) (over : List Entry) (key place : ℕ) → EndsSearch places key place → option_map (λ (e : Entry). e.value) (get_or places place None) ≡ None → ArePacked places over → IsFreeFor places key place × (value_at (all_in places over) key ≡ None)
free places over key place ends none packed =
    let missing = missed places key place ends none in
    (missing.0, nowhere-all places over key missing.1 ∙ packed key place missing.0)

pub returns-then-are_packed_with-clause-found : goal.returns-then-are_packed_with-clause-found
returns-then-are_packed_with-clause-found c =
    let places = c.args.places.now in
    let none = read places c.args.key c.in-Some.place c.index-places-place.result c.value.result c.in-Some.ensures.ends c.value.ensures ∙ c.in_default-value.is in
    sym (free places c.args.overflow.now.held c.args.key c.in-Some.place c.in-Some.ensures.ends none (OnTrue_at c.if-are_packed_with.ensures.were c.requires.packed)).1

pub returns-then-are_packed_with-clause-put : goal.returns-then-are_packed_with-clause-put
returns-then-are_packed_with-clause-put c = λ _.
    let places = c.args.places.now in
    let none = read places c.args.key c.in-Some.place c.index-places-place.result c.value.result c.in-Some.ensures.ends c.value.ensures ∙ c.in_default-value.is in
    let here = free places c.args.overflow.now.held c.args.key c.in-Some.place c.in-Some.ensures.ends none (OnTrue_at c.if-are_packed_with.ensures.were c.requires.packed) in
    more-puts places c.fill.new.places c.in-Some.place (record { key = c.args.key; value = c.args.value }) c.args.overflow.now.held c.fill.ensures c.requires.sound (c.in-Some.ensures.next here.0.free) here.1
