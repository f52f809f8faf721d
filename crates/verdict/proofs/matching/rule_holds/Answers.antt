use Rattle.std.proofs.Common.{◌∙◌, arith}
use Rattle.verdict.specs.Matching.{holds}
use Rattle.verdict.specs.Costs.{looked_at}
use Rattle.verdict.proofs.Looking.{looked_few, raised_few}
use Rattle.verdict.proofs.Same.{same_all}
use Rattle.verdict.proofs.matching.rule_holds.Goals as goal

pub returns-clause-holds : goal.returns-clause-holds
returns-clause-holds c sets matches tested =
    c.all_hold.ensures.holds sets tested.kept tested.are ∙ same_all (holds c.args.bounds.now sets c.args.facts.now) tested.kept matches tested.same

pub returns-clause-looked : goal.returns-clause-looked
returns-clause-looked c sets matches tested =
    let looked = c.all_hold.ensures.looked sets tested.kept tested.are in
    let raised = raised_few c.args.looks.now (looked_at (holds c.args.bounds.now sets c.args.facts.now) tested.kept) in
    let few = looked_few (holds c.args.bounds.now sets c.args.facts.now) tested.kept in
    let fewer = tested.same.fewer in
    omega (arith, looked, raised, few, fewer)
