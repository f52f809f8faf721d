use Rattle.std.proofs.Common.{Some, sym, ap, ◌∙◌, ◌≡◌, subst, arith}
use Rattle.std.proofs.lemmas.Option.{none-some}
use Rattle.sessions.specs.declared.session.Change.TheVariants.{Begin}
use Rattle.sessions.specs.Table.{at}
use Rattle.hairpin.specs.Tallies.{weight, mapping_of}
use Rattle.hairpin.proofs.Tally.{tally-few}
use Rattle.machine.proofs.Changed.{became, latest_update}
use Rattle.machine.proofs.Updated.{Tied-update, one_to_one}
use Rattle.machine.proofs.flows.Flows.begin.Goals as goal

pub hold-requires-clause-one_to_one : goal.hold-requires-clause-one_to_one
hold-requires-clause-one_to_one c =
    let may = rw (← c.self.view_is) at c.requires.may in
    one_to_one c.self.inside.table c.self.inside.due c.self.inside.translations.mappings c.args.session c.self.invariant may.apart

pub hold-requires-clause-few : goal.hold-requires-clause-few
hold-requires-clause-few c =
    let may = rw (← c.self.view_is) at c.requires.may in
    omega (arith, may.few, c.facts.ensures.at_most, c.self.invariant.counts (mapping_of c.args.session), tally-few (mapping_of c.args.session) c.self.inside.table.held)

pub invariant_of-self : goal.invariant_of-self
invariant_of-self c =
    let free = c.add_reserved-slot.ensures.was_free in
    Tied-update c.self.inside.table c.add_reserved-slot.new.self c.self.inside.due c.watch.new.due c.self.inside.translations.mappings c.hold.new.self.mappings c.add_reserved-slot.result (Some c.args.session) c.self.invariant c.add_reserved-slot.ensures.updates (rw c.timeout.ensures.value at c.watch.ensures.updates)
    (λ p. let a = c.hold.ensures.counts p in let b = ap (weight p) free in omega arith)

pub returns-clause-became : goal.returns-clause-became
returns-clause-became c =
    let free = c.add_reserved-slot.ensures.was_free in
    let e = became c.self.inside.table c.add_reserved-slot.new.self (Begin c.args.session) c.add_reserved-slot.result c.args.session c.facts.ensures c.facts-2.ensures c.add_reserved-slot.ensures.updates
    (λ s is. absurd (none-some s (sym free ∙ is)))
    (λ k s is other here. none-some s (sym free ∙ subst (λ j. at c.self.inside.table j ≡ Some s) here is)) in
    rw (← c.self.view_is) e

pub returns-clause-latest : goal.returns-clause-latest
returns-clause-latest c =
    latest_update c.self.inside.table c.add_reserved-slot.new.self c.add_reserved-slot.result c.args.session c.args.session.last c.add_reserved-slot.ensures.updates (omega arith) (rw (← c.self.view_is) at c.requires.latest)

pub returns-clause-ready : goal.returns-clause-ready
returns-clause-ready c = λ n was.
    let before = rw (← c.self.view_is) at was in
    record { table = omega (arith, before.table, c.add_reserved-slot.ensures.room); watchable = omega (arith, before.watchable, c.add_reserved-slot.ensures.slots, c.watch.ensures.ready); translations = c.hold.ensures.room n before.translations }
