use Rattle.std.proofs.Common.{◌≤◌, ◌+◌, ◌*◌, ◌≡◌, [], arith, sym, ◌∙◌}
use Rattle.std.proofs.lemmas.Bool.{false≢true}
use Rattle.std.proofs.lemmas.Result.{on_ok_weaker}
use Rattle.sessions.specs.Listing.{listing}
use Rattle.machine.specs.Noted.{entries_for_all}
use Rattle.machine.proofs.Costs.{ok_under}
use Rattle.machine.proofs.Telling.{nil-unless, plan-few, quiet-adds}
use Rattle.machine.proofs.flows.Flows.make_room.Goals as goal

pub returns-then-ready-clause-room : goal.returns-then-ready-clause-room
returns-then-ready-clause-room g c = λ ts gives keeps.
    let few = plan-few c.args.self.now.translations.external c.args.self.now.table.held c.args.now c.args.plan.now.first c.args.plan.now.second ts gives in
    omega (arith, few, c.requires.room c.if-ready.true keeps)

pub returns-then-not-plan_makes_entry-clause-ready : goal.returns-then-not-plan_makes_entry-clause-ready
returns-then-not-plan_makes_entry-clause-ready g c = λ some.
    let own = c.self.inside in
    let external = own.translations.external in
    let held = own.table.held in
    let first = c.args.plan.now.first in
    let second = c.args.plan.now.second in
    let ts = c.requires.give.0 in
    let give = rw (← c.self.view_is) at c.requires.give.1 in
    let none : entries_for_all ts (listing held) ≡ [] = nil-unless (entries_for_all ts (listing held)) (λ away. false≢true (sym c.if-not-plan_makes_entry.true ∙ (c.plan_makes_entry.ensures external c.args.now ts give).1 away)) in
    absurd (omega (arith, some, quiet-adds held c.facts.ensures external c.args.now first second ts give none))

pub returns-clause-room : goal.returns-clause-room
returns-clause-room g c = on_ok_weaker {P = g.N.Notes.keeps c.args.notes.now → 14 * 0 + 44 ≤ g.N.Notes.room c.reserve-2.new.self} c.reserve-2.result
    (λ made ts gives keeps.
    let few = plan-few c.args.self.now.translations.external c.args.self.now.table.held c.args.now c.args.plan.now.first c.args.plan.now.second ts gives in
    omega (arith, few, made keeps))
    (ok_under (14 * 0 + 44 ≤ g.N.Notes.room c.reserve-2.new.self) c.reserve-2.result c.reserve-2.ensures.ok)
