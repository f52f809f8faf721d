use Rattle.std.proofs.Common.{rules, ◌≡◌, ap, subst, ℕ, List}
use Rattle.std.specs.Prelude.{Err, Option}
use Rattle.disk_model.specs.Disk.{pair}
use Rattle.durable.specs.Entering.{durable}
use Rattle.durable.specs.FoundViews.{found_view}
use Rattle.durable.specs.Recovery.{Finds}
use Rattle.durable.specs.declared.recovery.Recovered.{Recovered}
use Rattle.onlooker.proofs.Standing.{found_of, stands}
use Rattle.onlooker.proofs.looking.state_of.Goals as goal

pub returns-in_ok-text-in-Ok-Some-clause-ok : goal.returns-in_ok-text-in-Ok-Some-clause-ok
returns-in_ok-text-in-Ok-Some-clause-ok c =
    let files = pair c.args.a.now c.args.b.now in
    let x = c.in-Ok-Some.found in
    let finds = subst (λ (o : Option Recovered). Finds files (found_view o)) c.in-Ok-Some.field-0-is c.in-Ok-Some.ensures.ok in
    let same : x.bounds ≡ c.args.bounds.now = search rules in
    let text = c.in_ok-text-in-Ok-Some.ensures.items in
    stands c.args.bounds.now files _ (durable c.in_ok-text-in-Ok-Some.text.items x.sessions.items) finds same (ap (λ (t : List ℕ). durable t x.sessions.items) text)

pub returns-in-Err-Damaged-clause-err : goal.returns-in-Err-Damaged-clause-err
returns-in-Err-Damaged-clause-err c = λ d recovers.
    let found = found_of (pair c.args.a.now c.args.b.now) d recovers in
    c.in-Err-Damaged.ensures.damaged (ap Err c.in-Err-Damaged.field-0-is) found.0 found.1
