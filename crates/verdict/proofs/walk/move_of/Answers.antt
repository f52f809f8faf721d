use Rattle.std.proofs.Common.{sym, subst}
use Rattle.verdict.specs.Tests.{AreTested}
use Rattle.verdict.proofs.walk.move_of.Goals as goal

pub returns-then-not-rule_holds-clause-looked : goal.returns-then-not-rule_holds-clause-looked
returns-then-not-rule_holds-clause-looked c =
    let tested = subst (λ pools. AreTested c.args.question.now.table.now.sets pools c.as_slice.result.now c.args.line.tests c.args.rule.now.matches) (sym c.as_slice-pools.ensures)
    (subst (λ tests. AreTested c.args.question.now.table.now.sets c.args.question.now.laid.now.row.pools tests c.args.line.tests c.args.rule.now.matches) (sym c.as_slice.ensures) c.requires.tests) in
    c.rule_holds.ensures.looked c.args.question.now.table.now.sets c.args.rule.now.matches tested

pub returns-in-None-clause-looked : goal.returns-in-None-clause-looked
returns-in-None-clause-looked c =
    let tested = subst (λ pools. AreTested c.args.question.now.table.now.sets pools c.as_slice.result.now c.args.line.tests c.args.rule.now.matches) (sym c.as_slice-pools.ensures)
    (subst (λ tests. AreTested c.args.question.now.table.now.sets c.args.question.now.laid.now.row.pools tests c.args.line.tests c.args.rule.now.matches) (sym c.as_slice.ensures) c.requires.tests) in
    c.rule_holds.ensures.looked c.args.question.now.table.now.sets c.args.rule.now.matches tested

pub returns-in-Some-clause-looked : goal.returns-in-Some-clause-looked
returns-in-Some-clause-looked c =
    let tested = subst (λ pools. AreTested c.args.question.now.table.now.sets pools c.as_slice.result.now c.args.line.tests c.args.rule.now.matches) (sym c.as_slice-pools.ensures)
    (subst (λ tests. AreTested c.args.question.now.table.now.sets c.args.question.now.laid.now.row.pools tests c.args.line.tests c.args.rule.now.matches) (sym c.as_slice.ensures) c.requires.tests) in
    c.rule_holds.ensures.looked c.args.question.now.table.now.sets c.args.rule.now.matches tested
