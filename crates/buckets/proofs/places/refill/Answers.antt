use Rattle.std.proofs.Common.{◌<◌, ℕ, length, subst}
use Rattle.std.proofs.lemmas.Bool.{OnTrue_at, OnTrue_from, ltb-true}
use Rattle.buckets.specs.Places.{bucket_of, number, ArePackedBut, ArePacked}
use Rattle.buckets.proofs.Values.{unwanted-packed, refilled-packed, behind-unwanted, past-unwanted, on-true}
use Rattle.buckets.proofs.places.refill.Goals as goal

pub returns-in_default-clause-packed : goal.returns-in_default-clause-packed
returns-in_default-clause-packed c =
    let places = c.args.places.now in
    let over = c.args.overflow.now.held in
    let but : ArePackedBut places over c.args.hole = OnTrue_at c.if-not-are_packed.false c.requires.packed in
    unwanted-packed places over c.args.hole c.args.key c.requires.free.vacant
    (past-unwanted (length places) (bucket_of (length places) c.args.key) c.first_number.result over (subst (λ b. (k : ℕ) → number k < c.first_number.result → bucket_of (length places) k < b) c.bucket_of-bucket.ensures.bucket c.first_number.ensures) c.in_default.ensures.past)
    but

pub returns-then-found-bucket-clause-packed : goal.returns-then-found-bucket-clause-packed
returns-then-found-bucket-clause-packed c =
    on-true c.lift_to.result (λ taken. refilled-packed c.args.places.now c.lift_to.new.places c.args.overflow.now.held c.lift_to.new.overflow.held c.args.hole c.lift_to.ensures.filled taken (OnTrue_at c.if-not-are_packed.false c.requires.packed)) c.lift_to.ensures.taken

pub returns-clause-packed : goal.returns-clause-packed
returns-clause-packed c =
    let places = c.args.places.now in
    let over = c.args.overflow.now.held in
    let but : ArePackedBut places over c.args.hole = OnTrue_at c.if-not-are_packed.false c.requires.packed in
    OnTrue_from _ (ArePacked places over) (λ yes.
    let lt = ltb-true c.bucket_of-bucket.result c.bucket_of-found.result yes in
    unwanted-packed places over c.args.hole c.args.key c.requires.free.vacant
    (behind-unwanted (length places) (bucket_of (length places) c.args.key) c.first_number.result c.in-Some.next over (subst (λ b. (k : ℕ) → number k < c.first_number.result → bucket_of (length places) k < b) c.bucket_of-bucket.ensures.bucket c.first_number.ensures) c.in-Some.ensures.next (subst (λ b. b < bucket_of (length places) c.in-Some.next) c.bucket_of-bucket.ensures.bucket (subst (λ b. c.bucket_of-bucket.result < b) c.bucket_of-found.ensures.bucket lt)))
    but)
