use Rattle.std.proofs.Common.{◌<◌, length, arith}
use Rattle.std.proofs.lemmas.Grind.{common_steps}
use Rattle.machine.proofs.Resuming.{some-loads}
use Rattle.machine.proofs.in_force.in_force_again.Goals as goal

pub unreachable-requires : goal.unreachable-requires
unreachable-requires c =
    let text = c.args.text.items in
    let a = c.if-is_empty.false in
    let b = c.is_empty.ensures in
    let some : 0 < length text = grind (arith, common_steps) in
    some-loads c.args.bounds.now text some c.requires (rw (c.deref.ensures.value, c.in-None.is) at c.in_ok-rules.ensures)
