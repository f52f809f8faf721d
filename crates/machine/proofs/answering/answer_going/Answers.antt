use Rattle.hairpin.specs.Going.{plan_of}
use Rattle.machine.proofs.Quiet.{way-gives}
use Rattle.machine.proofs.answering.answer_going.Goals as goal

pub carry_out_going-requires-clause-give : goal.carry_out_going-requires-clause-give
carry_out_going-requires-clause-give g c =
    way-gives c.args.flows.now.translations.external c.args.flows.now.table.held c.args.now (plan_of c.in-Ok.going) c.requires.planned.0 (rw c.in-Ok.is at c.requires.planned.1)
