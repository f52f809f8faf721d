use Rattle.std.proofs.Common.{rules, ◌≡◌, ◌∙◌, inl, inr, refl, sym, ap, subst}
use Rattle.std.specs.Prelude.{Err, Option}
use Rattle.durable.specs.Entering.{empty}
use Rattle.durable.specs.FoundViews.{found_view, state_view}
use Rattle.disk_model.specs.Disk.{pair}
use Rattle.durable.specs.Recovery.{Finds}
use Rattle.durable.specs.declared.recovery.Recovered.{Recovered}
use Rattle.diagnosis.proofs.Whys.{configured_by, configured_none, found_of}
use Rattle.diagnosis.proofs.finding.examine.Goals as goal

pub returns-then-is_configured : goal.returns-then-is_configured
returns-then-is_configured c =
    let files = pair c.args.a.now c.args.b.now in
    let x = c.in-Ok-Some.found in
    let finds = subst (λ (o : Option Recovered). Finds files (found_view o)) c.in-Ok-Some.field-0-is c.in-Ok-Some.ensures.ok in
    let same : x.bounds ≡ c.args.bounds.now = search rules in
    ((state_view x, inr (x.file, finds.heading, x.end, finds.active)), configured_by c.args.bounds.now files x.file finds.heading (state_view x) x.end finds.active (sym finds.config ∙ same))

pub damage_of-requires : goal.damage_of-requires
damage_of-requires c = λ d recovers.
    let found = found_of (pair c.args.a.now c.args.b.now) d recovers in
    c.in-Err-Damaged.ensures.damaged (ap Err c.in-Err-Damaged.field-0-is) found.0 found.1

pub returns-in-Ok-None : goal.returns-in-Ok-None
returns-in-Ok-None c =
    let files = pair c.args.a.now c.args.b.now in
    let none = subst (λ (o : Option Recovered). Finds files (found_view o)) c.in-Ok-None.field-0-is c.in-Ok-None.ensures.ok in
    ((empty, inl (none, refl)), configured_none c.args.bounds.now files none)
