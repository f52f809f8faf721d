use Rattle.std.proofs.Common.{ap, subst, arith}
use Rattle.machine.specs.Outcomes.{Noted}
use Rattle.machine.specs.Sizes.{bytes_of}
use Rattle.machine.proofs.flows.Flows.apply_noted.Goals as goal

pub returns-clause-noted : goal.returns-clause-noted
returns-clause-noted g c = rw (← c.self.view_is) (λ t gives.
    subst (Noted g.N.Notes.keeps g.N.Notes.beside g.N.Notes.noted c.args.notes.now c.note.new.notes) (c.entry_for-entry.ensures.entry c.self.inside.translations.external c.args.now t gives) c.note.ensures.noted)

pub returns-clause-room : goal.returns-clause-room
returns-clause-room g c = rw (← c.self.view_is) (λ t gives keeps.
    omega (arith, c.note.ensures.room keeps, ap bytes_of (c.entry_for-entry.ensures.entry c.self.inside.translations.external c.args.now t gives)))
