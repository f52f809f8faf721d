use Rattle.std.proofs.Common.{ap, length, take, arith}
use Rattle.gateway.proofs.Bodies.{body_is, some_bytes}
use Rattle.gateway.proofs.pending.Pending.len.Goals as goal

pub returns-clause-fits : goal.returns-clause-fits
returns-clause-fits c = rw (← c.self.view_is) (λ held.
    let is = c.self.invariant.0 in
    omega (arith, is.fits (some_bytes c.self.inside.group.body c.self.inside.room (λ none. held (ap (λ n. take n c.self.inside.slots.items) (c.self.invariant.1.quiet none)))), ap length (body_is c.self.inside.group.body is.entries is.coded is.are)))
