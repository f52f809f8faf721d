use Rattle.std.proofs.Common.{sym, subst}
use Rattle.hairpin.specs.Going.{Tells}
use Rattle.machine.specs.Outcomes.{Noted}
use Rattle.machine.proofs.Keepings.{noted-nothing}
use Rattle.machine.proofs.Quiet.{new-gives, quiet-gives}
use Rattle.machine.proofs.flows.Flows.carry_out_going.Goals as goal

pub returns-then-going-clause-quiet : goal.returns-then-going-clause-quiet
returns-then-going-clause-quiet g c = rw (← c.self.view_is) (λ ts all none.
    let own = c.self.inside in
    let going = c.args.going.now in
    absurd (new-gives own.translations.external own.table.held c.args.now going c.facts.ensures ts all
    (λ s is. let told : Tells s going = rw is at (rw (← c.self.view_is) at c.requires.told) in told.new c.if-going.true) none))

pub returns-clause-noted : goal.returns-clause-noted
returns-clause-noted g c = rw (← c.self.view_is) (λ ts all.
    let own = c.self.inside in
    let going = c.args.going.now in
    let none = quiet-gives own.translations.external own.table.held c.args.now going c.facts.ensures ts all
    (λ s is. let told : Tells s going = rw is at (rw (← c.self.view_is) at c.requires.told) in told.quiet c.if-going.false) in
    subst (Noted g.N.Notes.keeps g.N.Notes.beside g.N.Notes.noted c.args.notes.now c.args.notes.now) (sym none) (noted-nothing g.N.Notes.keeps g.N.Notes.beside g.N.Notes.noted c.args.notes.now))
