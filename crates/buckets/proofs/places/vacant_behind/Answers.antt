use Rattle.std.proofs.Common.{Option, Some, None, IfNone}
use Rattle.buckets.proofs.Values.{next-behind, full-behind}
use Rattle.buckets.proofs.places.vacant_behind.Goals as goal

if_none : {A P : Type 0} (o : Option A) → P → IfNone o P
if_none None p = p
if_none (Some x) p = tt

pub returns-in_err-free-clause-full : goal.returns-in_err-free-clause-full
returns-in_err-free-clause-full c =
    if_none c.from_residual.result (full-behind c.args.places.now c.args.key c.args.place c.bucket_of-start.result c.bucket_end-end.result c.requires.home c.requires.front c.requires.there c.bucket_of-start.ensures.bucket c.bucket_end-end.ensures.whole c.in_err-free.ensures.none)

pub returns-clause-free : goal.returns-clause-free
returns-clause-free c =
    let met = c.in_ok-free.ensures in
    let end = c.bucket_end-end.ensures in
    next-behind c.args.places.now c.args.key c.args.place c.bucket_of-start.result c.bucket_end-end.result c.requires.home c.requires.front c.requires.there c.bucket_of-start.ensures.bucket c.in_ok-free.free met.from met.to end.short end.bound met.free met.first
