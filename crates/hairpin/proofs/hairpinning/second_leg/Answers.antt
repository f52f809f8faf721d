use Rattle.std.proofs.Common.{Ok, sym, ap, ◌∙◌}
use Rattle.hairpin.proofs.Planned.{second-found}
use Rattle.hairpin.proofs.hairpinning.second_leg.Goals as goal

pub returns-in-Some-clause-session : goal.returns-in-Some-clause-session
returns-in-Some-clause-session c =
    second-found c.args.asking.now.bounds.now c.args.asking.now.rules.now c.args.asking.now.table.now.held c.args.asking.now.moment c.args.asking.now.view.now c.args.first.now c.requires.goes_out c.held_outside-before.ensures.session c.in-Some.is
    ∙ ap (λ s. Ok s) (sym c.passed.ensures)

pub returns-in-Ok-clause-session : goal.returns-in-Ok-clause-session
returns-in-Ok-clause-session c =
    second-found c.args.asking.now.bounds.now c.args.asking.now.rules.now c.args.asking.now.table.now.held c.args.asking.now.moment c.args.asking.now.view.now c.args.first.now c.requires.goes_out c.held_outside-before.ensures.session c.in-None.is
    ∙ sym c.in-Ok.ensures

pub returns-in-Err-clause-cause : goal.returns-in-Err-clause-cause
returns-in-Err-clause-cause c =
    second-found c.args.asking.now.bounds.now c.args.asking.now.rules.now c.args.asking.now.table.now.held c.args.asking.now.moment c.args.asking.now.view.now c.args.first.now c.requires.goes_out c.held_outside-before.ensures.session c.in-None.is
    ∙ sym c.in-Err.ensures
