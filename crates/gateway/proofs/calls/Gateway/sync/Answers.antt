use Rattle.std.proofs.Common.{◌∙◌, List, length, refl, sym, subst, ap, arith, rules}
use Rattle.packet.specs.Config.{Config}
use Rattle.disk_model.specs.Disk.{LeavesOnly}
use Rattle.disk_model.proofs.Moments.{idle}
use Rattle.durable.specs.Coding.{Entry, body_bytes}
use Rattle.durable.specs.Entering.{BodyEnters, Durable}
use Rattle.durable.specs.Recovery.{IsConfigured, Recovers}
use Rattle.snapshot.specs.Store.{Keeps}
use Rattle.machine.specs.Noted.{lasting}
use Rattle.gateway.specs.Kept.{LeadsToPresent}
use Rattle.gateway.specs.HeldAnswers.{HeldAnswers}
use Rattle.gateway.proofs.Resting.{nothing_waits, stands_for, body_leads, idle_either, leaves_as}
use Rattle.gateway.proofs.calls.Gateway.sync.Goals as goal

-- no entry waits

pub returns-then-is_quiet-clause-synced : goal.returns-then-is_quiet-clause-synced
returns-then-is_quiet-clause-synced g c =
    let disk = c.self.inside.store.disk in
    let now = c.self.inside.core.state in
    let none = c.is_quiet.ensures.none c.if-is_quiet.true in
    let present : g.D.Disk.honest disk → Recovers (g.D.Disk.seen disk) (lasting now) = λ honest. nothing_waits c.self.inside.core.config (g.D.Disk.seen disk) c.self.inside.pending.entries now
    (c.self.invariant.3 (sym c.if-has_fallen.ensures.value) honest) (c.is_quiet.ensures.value.0 c.if-is_quiet.true) in
    rw (← c.self.view_is) (record {
      was_honest = λ h. h;
      stays_honest = λ up h. h;
      any_moment = λ stands honest first recovers.
          let keeps = c.if-has_fallen.ensures.stands refl honest in
          idle_either g.D.Disk.moment g.D.Disk.left g.D.Disk.seen disk first (lasting now) keeps.0 recovers keeps.1.reads keeps.1.leaves;
      configured = λ stands honest.
          subst (λ (k : Config). LeavesOnly g.D.Disk.moment g.D.Disk.left disk disk (IsConfigured k)) c.self.invariant.0
          (idle g.D.Disk.moment g.D.Disk.left disk (IsConfigured c.self.inside.store.config) (c.if-has_fallen.ensures.configured refl honest));
      ok = λ honest.
          let keeps = c.if-has_fallen.ensures.stands refl honest in
          leaves_as g.D.Disk.moment g.D.Disk.left g.D.Disk.seen disk (lasting now) keeps.0 (present honest) keeps.1.reads keeps.1.leaves;
      reads = present;
      none = search rules;
      generation = refl;
      err = tt;
      reopen = search rules;
      reopen_stays = search rules;
      fell = search rules;
      causes = tt;
      device = search rules;
      by_one = omega arith;
      no_failure = refl;
      filled = λ honest held. absurd (held none);
      idle = λ held. (refl, refl);
      calls = λ honest held. absurd (held none);
    })

-- the group is committed

pub invariant_of-self : goal.invariant_of-self
invariant_of-self g c =
    let none = ap (λ (h : HeldAnswers). h.entries) c.release.ensures.none in (
      c.commit.ensures.config ∙ c.self.invariant.0,
      λ held. none,
      λ stands. ap (λ (h : HeldAnswers). h.place) c.release.ensures.none ∙ c.end.ensures,
      λ stands after.
          let honest = c.commit.ensures.honest after in
          let is = c.self.invariant.3 (sym c.if-has_fallen.ensures.value) honest in
          let leads = body_leads c.self.inside.core.config c.self.inside.store.config (g.D.Disk.seen c.self.inside.store.disk) c.self.inside.pending.entries c.self.inside.core.state
          c.group.result.now.body is.durable c.self.invariant.0 is is.recovers c.group.ensures.coded c.group.ensures.body in
          let keeps = c.in-Ok.ensures.ok honest is.durable (lasting c.self.inside.core.state) is.recovers leads in
          subst (λ (es : List Entry). LeadsToPresent c.self.inside.core.config (g.D.Disk.seen c.commit.new.self.disk) es c.self.inside.core.state) (sym none)
          (stands_for c.self.inside.core.config (g.D.Disk.seen c.commit.new.self.disk) c.self.inside.core.state keeps.reads),
      λ held. refl,
    )

pub returns-in-Ok-clause-synced : goal.returns-in-Ok-clause-synced
returns-in-Ok-clause-synced g c =
    let now = c.self.inside.core.state in
    let files = g.D.Disk.seen c.self.inside.store.disk in
    let leads : (first : Durable) → LeadsToPresent c.self.inside.core.config files c.self.inside.pending.entries now → Recovers files first
    → BodyEnters c.self.inside.store.config c.group.result.now.body first (lasting now) = λ first is recovers.
    body_leads c.self.inside.core.config c.self.inside.store.config files c.self.inside.pending.entries now
    c.group.result.now.body first c.self.invariant.0 is recovers c.group.ensures.coded c.group.ensures.body in
    let keeps : g.D.Disk.honest c.self.inside.store.disk → Keeps g.D.Disk.moment g.D.Disk.left g.D.Disk.seen c.commit.new.self (lasting now) = λ honest.
    let is = c.self.invariant.3 (sym c.if-has_fallen.ensures.value) honest in
    c.in-Ok.ensures.ok honest is.durable (lasting now) is.recovers (leads is.durable is is.recovers) in
    rw (← c.self.view_is) (record {
      was_honest = c.commit.ensures.honest;
      stays_honest = λ up. search rules;
      any_moment = λ stands honest first recovers. c.commit.ensures.any_moment honest first (lasting now) recovers (leads first (c.self.invariant.3 (sym c.if-has_fallen.ensures.value) honest) recovers);
      configured = search rules;
      ok = λ honest. (keeps honest).leaves;
      reads = λ honest. (keeps honest).reads;
      none = search rules;
      generation = search rules;
      err = tt;
      reopen = search rules;
      reopen_stays = search rules;
      fell = search rules;
      causes = tt;
      device = search rules;
      by_one = search rules;
      no_failure = search rules;
      filled = λ honest held.
          let place = c.self.invariant.2 (sym c.if-has_fallen.ensures.value) in
          let body = ap length c.group.ensures.body in
          let end = c.in-Ok.ensures.end honest in
          let next = ap (λ (h : HeldAnswers). h.place) c.release.ensures.none ∙ c.end.ensures in
          let empty = ap (λ (h : HeldAnswers). length (body_bytes h.entries)) c.release.ensures.none in
          omega (arith, place, body, end, next, empty);
      idle = search rules;
      calls = search rules;
    })

pub returns-in-Err-Device-clause-synced : goal.returns-in-Err-Device-clause-synced
returns-in-Err-Device-clause-synced g c = rw (← c.self.view_is) (record {
  was_honest = c.commit.ensures.honest;
  stays_honest = search rules;
  any_moment = λ stands honest first recovers.
      c.commit.ensures.any_moment honest first (lasting c.self.inside.core.state) recovers
      (body_leads c.self.inside.core.config c.self.inside.store.config (g.D.Disk.seen c.self.inside.store.disk) c.self.inside.pending.entries c.self.inside.core.state
      c.group.result.now.body first c.self.invariant.0 (c.self.invariant.3 (sym c.if-has_fallen.ensures.value) honest) recovers c.group.ensures.coded c.group.ensures.body);
  configured = search rules;
  ok = λ honest. tt;
  reads = λ honest. tt;
  none = tt;
  generation = search rules;
  err = refl;
  reopen = search rules;
  reopen_stays = search rules;
  fell = search rules;
  causes = search rules;
  device = search rules;
  by_one = search rules;
  no_failure = tt;
  filled = λ honest held. tt;
  idle = search rules;
  calls = λ honest held. tt;
})
