use Rattle.std.proofs.Common.{IsSomeAnd, sym, subst, ◌∙◌}
use Rattle.sessions.specs.Table.{HasOutside}
use Rattle.sessions.proofs.Found.{found_outside, absent_outside}
use Rattle.hairpin.proofs.held.held_outside.Goals as goal

pub returns-in-Some-get-clause-session : goal.returns-in-Some-get-clause-session
returns-in-Some-get-clause-session c =
    let is = sym c.get.ensures.value ∙ c.in-Some-get.is in
    let has = subst (λ o. IsSomeAnd o (HasOutside c.args.proto c.args.outside c.args.remote)) is c.in-Some.ensures.found in
    sym (found_outside c.args.table.now.held c.facts.ensures c.args.proto c.args.outside c.args.remote c.in-Some.slot c.in-Some-get.session is has)

pub returns-in-None-clause-session : goal.returns-in-None-clause-session
returns-in-None-clause-session c = sym (absent_outside c.args.table.now.held c.facts.ensures c.args.proto c.args.outside c.args.remote c.in-None.ensures.absent)
