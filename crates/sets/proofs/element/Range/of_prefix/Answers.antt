use Rattle.std.proofs.Common.{◌≤◌, ◌+◌, ◌*◌, ◌/◌, ◌^◌, arith}
use Rattle.sets.proofs.Blocks.{block_end, covered, same_block, block_from, block_to}
use Rattle.sets.proofs.element.Range.of_prefix.Goals as goal

pub overflow_cast-result-2 : goal.overflow_cast-result-2
overflow_cast-result-2 c =
    let some = c.size_of_prefix-size.ensures.some in
    let h : c.args.prefix.addr / c.size_of_prefix-size.result * c.size_of_prefix-size.result + c.size_of_prefix-size.result ≤ 2 ^ 32 = block_end c.args.prefix _ c.size_of_prefix-size.ensures.value (omega arith) in
    omega arith

pub returns : goal.returns
returns c =
    let some = c.size_of_prefix-size.ensures.some in
    let s = c.size_of_prefix-size.result in
    λ addr.
    let on = covered c.args.prefix s c.size_of_prefix-size.ensures.value addr in (
      λ h. on.1 (same_block s some addr c.args.prefix.addr h.from h.to),
      λ h. let e = on.0 h in record { from = block_from s some addr c.args.prefix.addr e; to = block_to s some addr c.args.prefix.addr e },
    )
