use Rattle.std.proofs.Common.{IsSomeAnd, sym, subst, ◌∙◌}
use Rattle.sessions.specs.Table.{HasInside}
use Rattle.sessions.proofs.Found.{found_inside, absent_inside}
use Rattle.hairpin.proofs.held.held_or_mapped.Goals as goal

pub returns-in-Some-clause-session : goal.returns-in-Some-clause-session
returns-in-Some-clause-session c =
    let is = sym c.get.ensures.value ∙ c.in-Some.is in
    let has = subst (λ o. IsSomeAnd o (HasInside c.args.proto c.args.inside c.args.remote)) is c.in-Ok.ensures.found in
    found_inside c.args.table.now.held c.facts.ensures c.args.proto c.args.inside c.args.remote c.in-Ok.slot c.in-Some.session is has

pub returns-in-Err-clause-none : goal.returns-in-Err-clause-none
returns-in-Err-clause-none c = absent_inside c.args.table.now.held c.facts.ensures c.args.proto c.args.inside c.args.remote c.in-Err.ensures.absent
