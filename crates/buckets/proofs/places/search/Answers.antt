use Rattle.std.proofs.Common.{◌<◌, subst, Option, Some, None, IfNone, length, arith, inl, inr}
use Rattle.buckets.specs.Places.{IsHome}
use Rattle.buckets.proofs.Values.{next-for, stands-inside, search-nowhere}
use Rattle.buckets.proofs.places.search.Goals as goal

if_none : {A P : Type 0} (o : Option A) → P → IfNone o P
if_none None p = p
if_none (Some x) p = tt

pub returns-in_err-place-clause-absent : goal.returns-in_err-place-clause-absent
returns-in_err-place-clause-absent c =
    let places = c.args.places.now in
    let begin = c.bucket_of-start.ensures.bucket in
    if_none c.from_residual.result (λ place entry is same.
    let home : IsHome (length places) c.args.key place = subst (λ n. IsHome (length places) n place) same (c.requires.home place entry is) in
    let from = home.from in
    let to = home.to in
    let inside : place < c.bucket_end-end.result = c.bucket_end-end.ensures.whole place (omega (arith, to, begin)) (stands-inside places place entry is) in
    c.in_err-place.ensures.absent place entry (omega (arith, from, begin)) inside is same)

pub returns-clause-ends : goal.returns-clause-ends
returns-clause-ends c =
    let met = c.in_ok-place.ensures in
    let end = c.bucket_end-end.ensures in
    elim met.ends [
      | inl has ↦ inl has
      | inr free ↦ inr (search-nowhere c.args.places.now c.args.key c.bucket_of-start.result c.in_ok-place.place c.bucket_end-end.result c.requires.home c.requires.front c.bucket_of-start.ensures.bucket met.from met.to end.short end.bound free met.before)
    ]

pub returns-clause-next : goal.returns-clause-next
returns-clause-next c = λ free.
    let met = c.in_ok-place.ensures in
    let end = c.bucket_end-end.ensures in
    next-for c.args.places.now c.args.key c.bucket_of-start.result c.in_ok-place.place c.bucket_end-end.result c.bucket_of-start.ensures.bucket met.from met.to end.short end.bound free met.filled
