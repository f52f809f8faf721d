use Rattle.std.proofs.Common.{ap, length, arith}
use Rattle.gateway.proofs.Bodies.{body_is}
use Rattle.gateway.proofs.pending.PendingNotes.reserve.Goals as goal

pub returns-in_default-clause-full : goal.returns-in_default-clause-full
returns-in_default-clause-full c = rw (← c.self.view_is) (λ _.
    let none = c.in_default.ensures.none in
    let is = ap length (body_is c.self.inside.group.body c.self.invariant.0.entries c.self.invariant.0.coded c.self.invariant.0.are) in
    let len = c.len.ensures in
    omega (arith, none, is, len))

pub returns-then-is_err-clause-no_memory : goal.returns-then-is_err-clause-no_memory
returns-then-is_err-clause-no_memory c = rw (← c.self.view_is) (λ _ much.
    let some = c.in-Some.ensures.some in
    let is = ap length (body_is c.self.inside.group.body c.self.invariant.0.entries c.self.invariant.0.coded c.self.invariant.0.are) in
    let len = c.len.ensures in
    omega (arith, some.0, some.1, is, len, much))
