use Rattle.std.proofs.Common.{◌≡◌, ◌*◌, ◌/◌, ◌%◌, ◌<◌, min, subst, arith}
use Rattle.buckets.specs.Places.{number, spread, bucket_of}
use Rattle.buckets.proofs.Numbers.{number-below}
use Rattle.buckets.proofs.places.first_number.Goals as goal

pub returns : goal.returns
unfolding bucket_of
returns c key lt =
    let small = c.first_spread.ensures.small in
    let same : c.from.result ≡ c.first_spread.result = c.from.ensures in
    let exact : c.from.result * 18446744073709551616 % 340282366920938463463374607431768211456 ≡ c.first_spread.result * 18446744073709551616 = omega (arith, small, same) in
    let low : spread key < c.first_spread.result = number-below key c.first_spread.result (subst (λ n. number key < n) exact lt) in
    let below : spread key * min (c.args.count / 8) 16777216 / 16777216 < c.args.bucket / 8 = subst (λ n. spread key * n / 16777216 < c.args.bucket / 8) c.min.ensures (c.first_spread.ensures.below (spread key) low) in
    omega (arith, below)
