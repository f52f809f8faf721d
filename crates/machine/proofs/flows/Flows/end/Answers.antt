use Rattle.std.proofs.Common.{◌≡◌, Some, None, sym, ◌∙◌, ap, arith}
use Rattle.sessions.specs.Table.{at}
use Rattle.hairpin.specs.Tallies.{weight}
use Rattle.machine.proofs.Updated.{Tied-update, Tied-at}
use Rattle.machine.proofs.flows.Flows.end.Goals as goal

pub release-requires : goal.release-requires
release-requires c = λ p. Tied-at _ _ _ c.args.slot (Some c.in-Some.session) c.self.invariant (sym c.get.ensures.value ∙ c.in-Some.is) p

pub invariant_of-self : goal.invariant_of-self
invariant_of-self c =
    let is : at c.self.inside.table c.args.slot ≡ Some c.in-Some.session = sym c.get.ensures.value ∙ c.in-Some.is in
    Tied-update c.self.inside.table c.end.new.self c.self.inside.due c.remove.new.self c.self.inside.translations.mappings c.release.new.self.mappings c.args.slot None c.self.invariant c.end.ensures.updates c.remove.ensures.updates
    (λ p. let a = c.release.ensures.counts p in let b = ap (weight p) is in omega arith)

pub returns-in-Some-clause-ready : goal.returns-in-Some-clause-ready
returns-in-Some-clause-ready c = λ n was.
    let before = rw (← c.self.view_is) at was in
    record { table = omega (arith, before.table); watchable = omega (arith, before.watchable); translations = c.release.ensures.room n before.translations }
