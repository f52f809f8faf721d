use Rattle.std.proofs.Common.{sym}
use Rattle.ruletokens.specs.Tokens.{found_kind}
use Rattle.ruletokens.proofs.Cut.{told_start, told_on, told_end, begins_shorter, opened}
use Rattle.ruletokens.proofs.lex.tokens.Goals as goal

pub loop-rest-init : goal.loop-rest-init
loop-rest-init c = rw c.new-tokens.ensures (told_start c.args.text.now)

pub piece-requires : goal.piece-requires
piece-requires c = sym (opened c.loop-rest.rest.now 0 c.in-len1-up.len_at_least)

pub loop-rest-smaller : goal.loop-rest-smaller
loop-rest-smaller c =
    let h = c.in_ok-token.ensures in
    begins_shorter c.loop-rest.rest.now h.0 (found_kind c.in_ok-token.token) c.in_ok-token.behind.now h.1

pub loop-rest-preserved : goal.loop-rest-preserved
loop-rest-preserved c =
    let h = c.in_ok-token.ensures in
    told_on c.loop-rest.tokens c.add.new.tokens c.loop-rest.rest.now c.args.text.now h.0 c.in_ok-token.behind.now (found_kind c.in_ok-token.token) c.loop-rest.invariant h.1 c.in_ok-add.ensures

pub returns-clause-found : goal.returns-clause-found
returns-clause-found c = (told_end c.loop-rest.tokens c.loop-rest.rest.now c.args.text.now c.in_default.len_below c.loop-rest.invariant).0

pub returns-clause-one : goal.returns-clause-one
returns-clause-one c = (told_end c.loop-rest.tokens c.loop-rest.rest.now c.args.text.now c.in_default.len_below c.loop-rest.invariant).1
