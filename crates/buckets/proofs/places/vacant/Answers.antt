use Rattle.buckets.proofs.Values.{next-for}
use Rattle.buckets.proofs.places.vacant.Goals as goal

pub returns-clause-free : goal.returns-clause-free
returns-clause-free c =
    let met = c.in_ok-place.ensures in
    let end = c.bucket_end-end.ensures in
    next-for c.args.places.now c.args.key c.bucket_of-start.result c.in_ok-place.place c.bucket_end-end.result c.bucket_of-start.ensures.bucket met.from met.to end.short end.bound met.free met.first
