use Rattle.std.proofs.Common.{arith, Some, None}
use Rattle.std.proofs.lemmas.Str.Pattern.{split_parts}
use Rattle.checking.proofs.Lacking.{prefix_is_split}
use Rattle.checking.proofs.config.prefix.Goals as goal

pub returns-in_err-front-clause-none : goal.returns-in_err-front-clause-none
returns-in_err-front-clause-none c =
    rw c.from_residual.ensures (λ p spelled. prefix_is_split _ p None spelled c.in_err-front.ensures.cases)

pub returns-in_err-addr-clause-none : goal.returns-in_err-addr-clause-none
returns-in_err-addr-clause-none c =
    rw c.from_residual-in_err-addr.ensures (λ p spelled.
    let parts = prefix_is_split _ p (Some (c.in_ok-front.front, c.in_ok-front.back)) spelled c.in_ok-front.ensures.cases in
    c.in_err-addr.ensures.none p.addr parts.0)

pub returns-in_err-len-clause-none : goal.returns-in_err-len-clause-none
returns-in_err-len-clause-none c =
    rw c.from_residual-in_err-len.ensures (λ p spelled.
    let parts = prefix_is_split _ p (Some (c.in_ok-front.front, c.in_ok-front.back)) spelled c.in_ok-front.ensures.cases in
    c.in_err-len.ensures.none p.len parts.1)

pub returns-clause-some : goal.returns-clause-some
returns-clause-some c =
    let parts = split_parts 47 _ (Some (c.in_ok-front.front, c.in_ok-front.back)) c.in_ok-front.ensures.cases (omega arith) in
    (c.in_ok-front.front.now, c.in_ok-front.back.now, parts.0, c.in_ok-addr.ensures.some, c.in_ok-len.ensures.some)
