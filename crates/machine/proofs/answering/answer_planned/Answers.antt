use Rattle.std.proofs.Common.{◌≡◌, Result, Err, IfErr, sym, ap, subst, ◌∙◌}
use Rattle.std.proofs.lemmas.Bool.{false≢true}
use Rattle.std.proofs.lemmas.Result.{err_from_is_err_and}
use Rattle.machine.specs.declared.event.Fate.{Fate}
use Rattle.machine.specs.declared.fault.StepFault.{StepFault}
use Rattle.machine.specs.declared.fault.StepFault.TheVariants.{NoMemory}
use Rattle.machine.proofs.Steps.{plans-few}
use Rattle.machine.proofs.answering.answer_planned.Goals as goal

pub returns-in_err-carry_out-in-Ok-clause-adds_none : goal.returns-in_err-carry_out-in-Ok-clause-adds_none
returns-in_err-carry_out-in-Ok-clause-adds_none g c = λ way plans few granted.
    let there = rw c.in-Ok.is at plans in
    let sound = rw c.table.ensures at c.facts.ensures in
    absurd (false≢true (c.in_err-carry_out-in-Ok.ensures.adds_none (plans-few c.args.flows.now.translations.external c.args.flows.now.table.held c.args.now c.args.packet.now c.in-Ok.plan way sound there few) granted))

pub returns-in_err-carry_out-in-Ok-clause-no_memory : goal.returns-in_err-carry_out-in-Ok-clause-no_memory
returns-in_err-carry_out-in-Ok-clause-no_memory g c = λ way plans few.
    let there = rw c.in-Ok.is at plans in
    let sound = rw c.table.ensures at c.facts.ensures in
    let p = err_from_is_err_and c.from_residual.result c.from_residual.ensures.1 in
    subst (λ (r : Result Fate StepFault). IfErr r (λ e. e ≡ NoMemory → ¬ g.N.Notes.too_many c.args.notes.now 44)) (sym p.1)
    (λ is. c.in_err-carry_out-in-Ok.ensures.no_memory (plans-few c.args.flows.now.translations.external c.args.flows.now.table.held c.args.now c.args.packet.now c.in-Ok.plan way sound there few) (ap Err (sym p.2 ∙ is)))
