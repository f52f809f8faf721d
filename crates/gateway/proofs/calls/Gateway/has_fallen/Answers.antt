use Rattle.std.proofs.Common.{◌∙◌, ℕ, List, length, sym, subst, ap, arith}
use Rattle.packet.specs.Config.{Config}
use Rattle.disk_model.specs.Disk.{LeavesNow}
use Rattle.durable.specs.Coding.{Entry, body_bytes}
use Rattle.durable.specs.Recovery.{IsConfigured}
use Rattle.gateway.specs.Kept.{GroupsEndAt}
use Rattle.gateway.proofs.Resting.{groups_end, nothing_waits}
use Rattle.gateway.proofs.calls.Gateway.has_fallen.Goals as goal

pub returns-clause-stands : goal.returns-clause-stands
returns-clause-stands g c = rw (← c.self.view_is) (λ stands honest.
    let keeps = c.has_fallen.ensures.stands stands honest in (keeps.0, keeps.1.reads, keeps.1.leaves))

pub returns-clause-present : goal.returns-clause-present
returns-clause-present g c = rw (← c.self.view_is) (λ stands honest none.
    nothing_waits c.self.inside.core.config (g.D.Disk.seen c.self.inside.store.disk) c.self.inside.pending.entries c.self.inside.core.state
    (c.self.invariant.3 (sym c.has_fallen.ensures.value ∙ stands) honest) (c.self.invariant.1 none))

pub returns-clause-configured : goal.returns-clause-configured
returns-clause-configured g c = rw (← c.self.view_is) (λ stands honest.
    subst (λ (k : Config). LeavesNow g.D.Disk.moment g.D.Disk.left c.self.inside.store.disk (IsConfigured k)) c.self.invariant.0 (c.has_fallen.ensures.configured stands honest))

pub returns-clause-groups : goal.returns-clause-groups
returns-clause-groups g c = rw (← c.self.view_is) (λ stands honest.
    let keeps = c.has_fallen.ensures.stands stands honest in
    let place = c.self.invariant.2 (sym c.has_fallen.ensures.value ∙ stands) in
    (c.self.inside.store.end, groups_end g.D.Disk.moment g.D.Disk.left g.D.Disk.seen c.self.inside.store keeps.0 keeps.1, omega (arith, place)))

pub returns-clause-filled : goal.returns-clause-filled
returns-clause-filled g c = rw (← c.self.view_is) (λ stands honest none.
    let keeps = c.has_fallen.ensures.stands stands honest in
    let place = c.self.invariant.2 (sym c.has_fallen.ensures.value ∙ stands) in
    let empty = ap (λ (es : List Entry). length (body_bytes es)) (c.self.invariant.1 none) in
    subst (λ (end : ℕ). GroupsEndAt (g.D.Disk.seen c.self.inside.store.disk) c.self.inside.store.generation c.self.inside.store.grown end) (omega (arith, place, empty))
    (groups_end g.D.Disk.moment g.D.Disk.left g.D.Disk.seen c.self.inside.store keeps.0 keeps.1))
