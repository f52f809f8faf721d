use Rattle.std.proofs.Common.{◌≡◌, Some, sym, ap, ◌∙◌, arith}
use Rattle.std.proofs.lemmas.Option.{same_Some}
use Rattle.sessions.specs.declared.session.Change.TheVariants.{Seen}
use Rattle.sessions.specs.Table.{at, seen}
use Rattle.sessions.specs.Listing.{key}
use Rattle.hairpin.specs.Tallies.{weight}
use Rattle.machine.proofs.Changed.{became, latest_update}
use Rattle.machine.proofs.Updated.{Tied-update, held_there}
use Rattle.machine.proofs.flows.Flows.see.Goals as goal

pub invariant_of-self : goal.invariant_of-self
invariant_of-self c =
    let there = held_there (at c.self.inside.table c.args.slot) (rw (← c.self.view_is) at c.requires.held) in
    let s = there.0 in
    let t = seen s c.args.bits c.args.last in
    let updates = rw there.1 at c.see.ensures.updates in
    let watched = rw updates.changed at c.touch.ensures.updates in
    Tied-update c.self.inside.table c.see.new.self c.self.inside.due c.touch.new.due c.self.inside.translations.mappings c.self.inside.translations.mappings c.args.slot (Some t) c.self.invariant updates watched
    (λ p. let b : weight p (at c.self.inside.table c.args.slot) ≡ weight p (Some t) = ap (weight p) there.1 in omega arith)

pub returns-clause-became : goal.returns-clause-became
returns-clause-became c = λ s held.
    let is : at c.self.inside.table c.args.slot ≡ Some s = rw (← c.self.view_is) at held in
    let updates = rw is at c.see.ensures.updates in
    let e = became c.self.inside.table c.see.new.self (Seen c.args.slot c.args.bits) c.args.slot (seen s c.args.bits c.args.last) c.facts.ensures c.facts-2.ensures updates
    (λ u at_u. ap key (same_Some u s (sym at_u ∙ is)))
    (λ k u at_u other e. other (sym e)) in
    rw (← c.self.view_is) e

pub returns-clause-latest : goal.returns-clause-latest
returns-clause-latest c =
    let there = held_there (at c.self.inside.table c.args.slot) (rw (← c.self.view_is) at c.requires.held) in
    let updates = rw there.1 at c.see.ensures.updates in
    latest_update c.self.inside.table c.see.new.self c.args.slot (seen there.0 c.args.bits c.args.last) c.args.last updates (omega arith) (rw (← c.self.view_is) at c.requires.latest)

pub returns-clause-ready : goal.returns-clause-ready
returns-clause-ready c = λ n was.
    let before = rw (← c.self.view_is) at was in
    record { table = omega (arith, before.table); watchable = omega (arith, before.watchable); translations = before.translations }
