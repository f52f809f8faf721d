use Rattle.std.proofs.Common.{◌≡◌, ◌∙◌, [], refl, sym, subst, ap}
use Rattle.packet.specs.Config.{Config}
use Rattle.disk_model.specs.Disk.{LeavesOnly}
use Rattle.disk_model.proofs.Moments.{idle}
use Rattle.durable.specs.Entering.{Durable}
use Rattle.durable.specs.Recovery.{IsConfigured, Recovers}
use Rattle.machine.specs.Noted.{lasting}
use Rattle.gateway.specs.Kept.{Kept}
use Rattle.gateway.proofs.Compacting.{lasting_is, recovers_so}
use Rattle.gateway.proofs.Resting.{nothing_waits, leaves_as}
use Rattle.gateway.proofs.calls.Gateway.compact.Goals as goal

pub returns-in_default-clause-any_moment : goal.returns-in_default-clause-any_moment
returns-in_default-clause-any_moment g c =
    let none : c.self.inside.pending.held ≡ [] = ap (λ (k : Kept _). k.told.held) c.self.view_is ∙ c.requires in
    rw (← c.self.view_is) (λ stands honest.
    let disk = c.self.inside.store.disk in
    let keeps = c.if-has_fallen.ensures.stands refl honest in
    let present = nothing_waits c.self.inside.core.config (g.D.Disk.seen disk) c.self.inside.pending.entries c.self.inside.core.state
    (c.self.invariant.3 (sym c.if-has_fallen.ensures.value) honest) (c.self.invariant.1 none) in
    idle g.D.Disk.moment g.D.Disk.left disk (λ files. Recovers files (lasting c.self.inside.core.state))
    (leaves_as g.D.Disk.moment g.D.Disk.left g.D.Disk.seen disk (lasting c.self.inside.core.state) keeps.0 present keeps.1.reads keeps.1.leaves))

pub returns-in_default-clause-configured : goal.returns-in_default-clause-configured
returns-in_default-clause-configured g c = rw (← c.self.view_is) (λ stands honest.
    let disk = c.self.inside.store.disk in
    subst (λ (k : Config). LeavesOnly g.D.Disk.moment g.D.Disk.left disk disk (IsConfigured k)) c.self.invariant.0
    (idle g.D.Disk.moment g.D.Disk.left disk (IsConfigured c.self.inside.store.config) (c.if-has_fallen.ensures.configured refl honest)))

pub compact-requires-clause-durable : goal.compact-requires-clause-durable
compact-requires-clause-durable g c = λ honest.
    let none : c.self.inside.pending.held ≡ [] = ap (λ (k : Kept _). k.told.held) c.self.view_is ∙ c.requires in
    let files = g.D.Disk.seen c.self.inside.store.disk in
    recovers_so files c.self.inside.core.state c.text.result.now c.as_slice.result.now c.text.ensures (c.as_slice.ensures.value ∙ c.in-Ok.ensures)
    (nothing_waits c.self.inside.core.config files c.self.inside.pending.entries c.self.inside.core.state
    (c.self.invariant.3 (sym c.if-has_fallen.ensures.value) honest) (c.self.invariant.1 none))

pub returns-in-Ok-compact-clause-any_moment : goal.returns-in-Ok-compact-clause-any_moment
returns-in-Ok-compact-clause-any_moment g c = rw (← c.self.view_is) (λ stands honest.
    subst (λ (d : Durable). LeavesOnly g.D.Disk.moment g.D.Disk.left c.self.inside.store.disk c.compact.new.self.disk (λ files. Recovers files d))
    (lasting_is c.self.inside.core.state c.text.result.now c.as_slice.result.now c.text.ensures (c.as_slice.ensures.value ∙ c.in-Ok.ensures)) (c.compact.ensures.any_moment honest))

pub returns-clause-any_moment : goal.returns-clause-any_moment
returns-clause-any_moment g c = rw (← c.self.view_is) (λ stands honest.
    subst (λ (d : Durable). LeavesOnly g.D.Disk.moment g.D.Disk.left c.self.inside.store.disk c.compact.new.self.disk (λ files. Recovers files d))
    (lasting_is c.self.inside.core.state c.text.result.now c.as_slice.result.now c.text.ensures (c.as_slice.ensures.value ∙ c.in-Ok.ensures)) (c.compact.ensures.any_moment honest))
