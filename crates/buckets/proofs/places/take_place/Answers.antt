use Rattle.std.proofs.Common.{◌≡◌, ◌+◌, ◌-◌, ◌<◌, ◌≤◌, ℕ, List, Option, length, ◌∙◌, subst, arith}
use Rattle.rows.specs.declared.Entry.{Entry}
use Rattle.buckets.specs.Places.{bucket_of, AreSound, HasKey, IsFull}
use Rattle.buckets.proofs.Values.{IsLast, found-all, before-end, last-before, last-full, taken-sound, taken-puts, taken-next, taken-packed, on-true}
use Rattle.buckets.proofs.places.take_place.Goals as goal

pub returns-in-Some-clause-sound : goal.returns-in-Some-clause-sound
returns-in-Some-clause-sound c =
    let places = c.args.places.now in
    let over = c.args.overflow.now.held in
    taken-sound places c.close.new.places over c.args.key c.args.place (c.in-Some.free - 1) c.close.ensures.closed c.requires.sound c.requires.there (last-before places over c.args.key c.args.place c.requires.sound c.requires.there c.in-Some.free c.in-Some.ensures.free)

pub returns-in-Some-clause-packed : goal.returns-in-Some-clause-packed
returns-in-Some-clause-packed c =
    let places = c.args.places.now in
    let over = c.args.overflow.now.held in
    on-true c.args.are_packed.now (taken-packed places c.close.new.places over c.args.key c.args.place (c.in-Some.free - 1) c.close.ensures.closed c.requires.sound c.requires.there (last-before places over c.args.key c.args.place c.requires.sound c.requires.there c.in-Some.free c.in-Some.ensures.free) c.in-Some.free c.in-Some.ensures.free.vacant) c.requires.packed

pub returns-in-Some-clause-value : goal.returns-in-Some-clause-value
returns-in-Some-clause-value c = c.close.ensures.value ∙ found-all c.args.places.now c.args.overflow.now.held c.requires.sound c.args.key c.args.place c.requires.there

pub returns-in-Some-clause-gone : goal.returns-in-Some-clause-gone
returns-in-Some-clause-gone c =
    let places = c.args.places.now in
    let over = c.args.overflow.now.held in
    taken-puts places c.close.new.places over c.args.key c.args.place (c.in-Some.free - 1) c.close.ensures.closed c.requires.sound c.requires.there (last-before places over c.args.key c.args.place c.requires.sound c.requires.there c.in-Some.free c.in-Some.ensures.free)

-- the end of a full bucket
module _ (ps : List (Option Entry)) (over : List Entry) (key place : ℕ) (sound : AreSound ps over) (has : HasKey ps key place) (full : IsFull ps key) (start end : ℕ) (begin : start ≡ bucket_of (length ps) key) (bound : end ≤ length ps) (short : end ≤ start + 8) (whole : (k : ℕ) → k < start + 8 → k < length ps → k < end) where
  begins : (end ≤ bucket_of (length ps) key + 8) × ((k : ℕ) → k < bucket_of (length ps) key + 8 → k < length ps → k < end)
  begins = subst (λ n. (end ≤ n + 8) × ((k : ℕ) → k < n + 8 → k < length ps → k < end)) begin (short, whole)

  ends-behind : place < end
  ends-behind = before-end ps over key place sound has full end bound begins.0 begins.1

  ends-last : IsLast ps key (end - 1)
  ends-last = last-full ps over key place sound has full end bound begins.0 begins.1

pub overflow_sub-last : goal.overflow_sub-last
overflow_sub-last c =
    let end = c.bucket_end-last.ensures in
    let behind = ends-behind c.args.places.now c.args.overflow.now.held c.args.key c.args.place c.requires.sound c.requires.there c.in-None.ensures.full c.bucket_of-start.result c.bucket_end-last.result c.bucket_of-start.ensures.bucket end.bound end.short end.whole in
    omega (arith, behind)

pub refill-requires-clause-sound : goal.refill-requires-clause-sound
refill-requires-clause-sound c =
    let places = c.args.places.now in
    let over = c.args.overflow.now.held in
    let end = c.bucket_end-last.ensures in
    taken-sound places c.close-value.new.places over c.args.key c.args.place (c.bucket_end-last.result - 1) c.close-value.ensures.closed c.requires.sound c.requires.there (ends-last places over c.args.key c.args.place c.requires.sound c.requires.there c.in-None.ensures.full c.bucket_of-start.result c.bucket_end-last.result c.bucket_of-start.ensures.bucket end.bound end.short end.whole)

pub refill-requires-clause-free : goal.refill-requires-clause-free
refill-requires-clause-free c =
    let places = c.args.places.now in
    let over = c.args.overflow.now.held in
    let end = c.bucket_end-last.ensures in
    taken-next places c.close-value.new.places over c.args.key c.args.place (c.bucket_end-last.result - 1) c.close-value.ensures.closed c.requires.sound c.requires.there (ends-last places over c.args.key c.args.place c.requires.sound c.requires.there c.in-None.ensures.full c.bucket_of-start.result c.bucket_end-last.result c.bucket_of-start.ensures.bucket end.bound end.short end.whole)

pub returns-in-None-clause-value : goal.returns-in-None-clause-value
returns-in-None-clause-value c = c.close-value.ensures.value ∙ found-all c.args.places.now c.args.overflow.now.held c.requires.sound c.args.key c.args.place c.requires.there

pub returns-in-None-clause-gone : goal.returns-in-None-clause-gone
returns-in-None-clause-gone c = λ other.
    let places = c.args.places.now in
    let over = c.args.overflow.now.held in
    let end = c.bucket_end-last.ensures in
    c.refill.ensures.same other ∙ taken-puts places c.close-value.new.places over c.args.key c.args.place (c.bucket_end-last.result - 1) c.close-value.ensures.closed c.requires.sound c.requires.there (ends-last places over c.args.key c.args.place c.requires.sound c.requires.there c.in-None.ensures.full c.bucket_of-start.result c.bucket_end-last.result c.bucket_of-start.ensures.bucket end.bound end.short end.whole) other
