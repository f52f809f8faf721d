use Rattle.std.proofs.Common.{[], ◌++◌, Some, ap, refl, sym, ◌∙◌, arith, ◌≡◌}
use Rattle.std.proofs.lemmas.Bool.{false≢true}
use Rattle.sessions.specs.Listing.{listing}
use Rattle.hairpin.specs.Plans.{GiveAll}
use Rattle.machine.specs.Flows.{adds}
use Rattle.machine.specs.Noted.{entries_for}
use Rattle.machine.proofs.Telling.{begin-is-noted, both-told, nil-before, nil-unless, second-gives}
use Rattle.machine.proofs.noting.plan_makes_entry.Goals as goal

pub makes_entry-requires-in-Some : goal.makes_entry-requires-in-Some
makes_entry-requires-in-Some c =
    let held = c.args.table.now.held in
    let none : adds c.in-Some.second ≡ 0 = omega (arith, c.if-adds-gt0.false, c.adds.ensures) in
    let gives : GiveAll c.requires.0 held c.requires.1 c.args.plan.now.first (Some c.in-Some.second) c.requires.2 = rw c.in-Some.is at c.requires.3 in
    (c.requires.0, c.requires.1, gives.1, second-gives held c.facts.ensures c.requires.0 c.requires.1 c.args.plan.now.first c.in-Some.second c.requires.2 gives none)

pub returns-then-adds-gt0 : goal.returns-then-adds-gt0
returns-then-adds-gt0 c = λ external now ts all.
    let held = c.args.table.now.held in
    let gives : GiveAll external held now c.args.plan.now.first (Some c.in-Some.second) ts = rw c.in-Some.is at all in
    ((λ _. begin-is-noted held c.facts.ensures external now c.args.plan.now.first c.in-Some.second ts gives (omega (arith, c.if-adds-gt0.true, c.adds.ensures))), (λ _. refl))

pub returns-else-adds-gt0 : goal.returns-else-adds-gt0
returns-else-adds-gt0 c = λ external now ts all.
    let held = c.args.table.now.held in
    let first = c.args.plan.now.first in
    let second = c.in-Some.second in
    let none : adds second ≡ 0 = omega (arith, c.if-adds-gt0.false, c.adds.ensures) in
    let gives : GiveAll external held now first (Some second) ts = rw c.in-Some.is at all in
    let quiet : entries_for (listing held) gives.0 ≡ [] = nil-unless (entries_for (listing held) gives.0) (λ away. false≢true (sym c.if-makes_entry.false ∙ (c.makes_entry.ensures external now gives.0 gives.2).1 away)) in
    let told = both-told held c.facts.ensures external now first second ts gives none quiet in
    let entry = c.makes_entry-in-Some.ensures external now gives.1 (second-gives held c.facts.ensures external now first second ts gives none) in (
      (λ some is. entry.0 some (nil-before (entries_for (listing held) gives.1) [] (sym told ∙ is))),
      (λ away. entry.1 (λ nil. away (told ∙ ap (λ es. es ++ []) nil))),
    )
