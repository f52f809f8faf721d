use Rattle.std.proofs.Common.{◌≡◌, ◌∙◌, ◌+◌, Err, ap, arith, false, inl, inr, rules, ℕ, subst, sym}
use Rattle.std.proofs.lemmas.Bool.{false≢true}
use Rattle.disk_model.specs.Disk.{Grew, Leaves, LeavesOnly}
use Rattle.durable.specs.Recovery.{Alike, IsConfigured, NoneOpen}
use Rattle.machine.specs.Machine.{State}
use Rattle.machine.specs.Noted.{IsResumed}
use Rattle.gateway.specs.Told.{Told}
use Rattle.gateway.specs.declared.fault.GatewayFault.TheVariants as fault
use Rattle.gateway.specs.Kept.{Kept}
use Rattle.gateway.proofs.Runs.{fault-is, stands-still, true-false}
use Rattle.commands.proofs.Anew.{alike_since, configured_since, is_current, is_last, is_open, made_now, remade, same_generation}
use Rattle.commands.proofs.opening.open_over.Goals as goal

pub returns-in-Ok-made-clause-anew : goal.returns-in-Ok-made-clause-anew
returns-in-Ok-made-clause-anew g c = λ honest file h d end active current.
    let old = g.D.Disk.seen c.args.disk in
    let found = c.in-Ok.gateway in
    let looks = c.in-Ok.ensures.only_looks honest (is_open old file h d end active) current in
    let stands = c.has_fallen-stands.ensures.value ∙ c.in-Ok.ensures.stands in
    let groups = c.has_fallen-stands.ensures.groups stands (c.in-Ok.ensures.honest.0 honest) in
    let same = same_generation old (g.D.Disk.seen found.disk) file h d end found.generation found.grown groups.0 looks.stays active groups.1 in
    c.in-Ok-made.ensures.generation ∙ ap (λ (n : ℕ). n + 1) same

pub returns-in-Ok-made-clause-honest : goal.returns-in-Ok-made-clause-honest
returns-in-Ok-made-clause-honest g c =
    let on = c.in-Ok.ensures.honest in
    let stands = stands-still c.in-Ok-made.field-0 fault.Device c.compact-made.new.self.fallen c.in-Ok-made.ensures.fell c.in-Ok.ensures.stands in
    ((λ honest. c.compact-made.ensures.stays_honest stands (on.0 honest)), (λ honest. on.1 (c.compact-made.ensures.honest honest)))

pub returns-in-Ok-made-clause-any_moment : goal.returns-in-Ok-made-clause-any_moment
returns-in-Ok-made-clause-any_moment g c = λ honest.
    let found = c.in-Ok.gateway in
    let new = c.compact-made.new.self in
    let there = c.in-Ok.ensures.honest.0 honest in
    let ok = c.in-Ok.ensures.ok honest in
    let present = c.has_fallen-stands.ensures.present (c.has_fallen-stands.ensures.value ∙ c.in-Ok.ensures.stands) there c.in-Ok.ensures.none in
    alike_since g.D.Disk.moment g.D.Disk.left g.met.D.Disk.earlier c.args.disk found.disk new.disk g.D.Disk.seen ok.0 found.told.state (g.met.D.Disk.reads found.disk there) present ok.3
    (c.in-Ok.ensures.any_moment honest) (c.compact-made.ensures.any_moment c.in-Ok.ensures.stands there)

pub returns-in-Ok-made-clause-configured : goal.returns-in-Ok-made-clause-configured
returns-in-Ok-made-clause-configured g c = λ honest stored.
    let found = c.in-Ok.gateway in
    let new = c.compact-made.new.self in
    let there = c.in-Ok.ensures.honest.0 honest in
    configured_since g.D.Disk.moment g.D.Disk.left g.met.D.Disk.earlier c.args.disk found.disk new.disk c.args.bounds found.told.config c.in-Ok.ensures.config
    (c.in-Ok.ensures.configured honest stored) (c.compact-made.ensures.configured c.in-Ok.ensures.stands there)

pub returns-in-Ok-made-clause-ok : goal.returns-in-Ok-made-clause-ok
returns-in-Ok-made-clause-ok g c = λ honest.
    let found = c.in-Ok.gateway in
    let new = c.compact-made.new.self in
    let there = c.in-Ok.ensures.honest.0 honest in
    let ok = c.in-Ok.ensures.ok honest in
    let present = c.has_fallen-stands.ensures.present (c.has_fallen-stands.ensures.value ∙ c.in-Ok.ensures.stands) there c.in-Ok.ensures.none in
    let next = remade g.D.Disk.moment g.D.Disk.left g.met.D.Disk.earlier c.args.disk found.disk new.disk g.D.Disk.seen ok.0 found.told.state (g.met.D.Disk.reads found.disk there) present ok.3
    (c.compact-made.ensures.any_moment c.in-Ok.ensures.stands there) in
    let state = ap (λ (told : Told). told.state) c.compact-made.ensures.told in (
      ok.0,
      ok.1,
      subst (λ (s : State). IsResumed c.args.bounds ok.0 c.args.moment s) (sym state) ok.2,
      made_now g.D.Disk.moment g.D.Disk.left g.met.D.Disk.earlier c.args.disk found.disk new.disk ok.0 next,
    )

pub returns-in-Err-made-clause-any_moment : goal.returns-in-Err-made-clause-any_moment
returns-in-Err-made-clause-any_moment g c = λ honest.
    let found = c.in-Ok.gateway in
    let new = c.compact-made.new.self in
    let there = c.in-Ok.ensures.honest.0 honest in
    let ok = c.in-Ok.ensures.ok honest in
    let present = c.has_fallen-stands.ensures.present (c.has_fallen-stands.ensures.value ∙ c.in-Ok.ensures.stands) there c.in-Ok.ensures.none in
    let since = alike_since g.D.Disk.moment g.D.Disk.left g.met.D.Disk.earlier c.args.disk found.disk new.disk g.D.Disk.seen ok.0 found.told.state (g.met.D.Disk.reads found.disk there) present ok.3
    (c.in-Ok.ensures.any_moment honest) (c.compact-made.ensures.any_moment c.in-Ok.ensures.stands there) in
    subst (λ disk. Leaves g.D.Disk.moment g.D.Disk.left c.args.disk disk Alike) (sym c.into_disk.ensures) since

pub returns-in-Err-made-clause-configured : goal.returns-in-Err-made-clause-configured
returns-in-Err-made-clause-configured g c = λ honest stored.
    let found = c.in-Ok.gateway in
    let new = c.compact-made.new.self in
    let there = c.in-Ok.ensures.honest.0 honest in
    let since = configured_since g.D.Disk.moment g.D.Disk.left g.met.D.Disk.earlier c.args.disk found.disk new.disk c.args.bounds found.told.config c.in-Ok.ensures.config
    (c.in-Ok.ensures.configured honest stored) (c.compact-made.ensures.configured c.in-Ok.ensures.stands there) in
    subst (λ disk. LeavesOnly g.D.Disk.moment g.D.Disk.left c.args.disk disk (IsConfigured c.args.bounds)) (sym c.into_disk.ensures) since

pub returns-in-Ok-made-clause-migrated : goal.returns-in-Ok-made-clause-migrated
returns-in-Ok-made-clause-migrated g c = λ honest file h d end active former.
    let migrated = (c.in-Ok.ensures.was honest).1 (λ current. former (current file h d end active)) in
    let is_not : c.in-Ok.gateway.migrated ≡ false = search rules in
    absurd (false≢true (sym is_not ∙ migrated))

pub returns-in-Err-clause-cause : goal.returns-in-Err-clause-cause
returns-in-Err-clause-cause g c =
    let e = c.in-Err.ensures in
    record {
      cause = λ honest. record { damaged = e.damaged honest; differs = λ is. (e.differs honest is).2; generations = e.generations honest };
      looks = e.looks;
      unwritten = e.unwritten;
      device = e.cause.failed;
      only_device = e.cause.others;
      stays_honest = e.stays_honest;
    }

pub returns-in-Err-made-clause-cause : goal.returns-in-Err-made-clause-cause
returns-in-Err-made-clause-cause g c =
    let old = g.D.Disk.seen c.args.disk in
    let o = c.in-Ok.ensures in
    let m = c.in-Err-made.ensures in
    let found = c.in-Ok.gateway in
    let failed = g.D.Disk.failed in
    let same = c.into_disk.ensures in
    record {
      causes = elim m.causes [
        | inl reopen ↦ absurd (true-false found.fallen ((fault-is c.in-Err-made.fault fault.Reopen m.reopen).0 reopen) o.stands)
        | inr more ↦ more
      ];
      opens = λ honest. (((o.ok honest).0, (o.ok honest).1), o.had_config honest);
      generations = λ honest is.
          let open_so : ¬ NoneOpen old = λ none. absurd (omega (arith, o.generation honest none, m.generations (ap Err is))) in
          let is_not : found.migrated ≡ false = search rules in
          let current = is_current old (λ former. absurd (false≢true (sym is_not ∙ (o.was honest).1 former))) in
          let stands = c.has_fallen-stands.ensures.value ∙ o.stands in
          let groups = c.has_fallen-stands.ensures.groups stands (o.honest.0 honest) in
          is_last old (g.D.Disk.seen found.disk) found.generation found.grown groups.0 (o.only_looks honest open_so current).stays current groups.1 (m.generations (ap Err is));
      device = λ is. subst (λ (n : ℕ). Grew n (failed c.into_disk.result)) o.cause (subst (λ disk. Grew (failed found.disk) (failed disk)) (sym same) (m.cause.failed (ap Err is)));
      only_device = λ other. ap failed same ∙ ap (λ (k : Kept _). failed k.disk) (m.stays other) ∙ o.cause;
      stays_honest = λ other honest. subst g.D.Disk.honest (sym (same ∙ ap (λ (k : Kept _). k.disk) (m.stays other))) (o.honest.0 honest);
    }
