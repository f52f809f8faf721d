use Rattle.std.proofs.Common.{rules, arith, Some}
use Rattle.std.proofs.lemmas.Str.Pattern.{split_parts}
use Rattle.checking.specs.Spelling.{SpellsPrefix}
use Rattle.checking.proofs.Lacking.{if_config, prefix_lacks_comma}
use Rattle.checking.proofs.Listed.{goes_on, none_at_the_end, none_in_front}
use Rattle.checking.proofs.Round.{back-shorter}
use Rattle.checking.proofs.config.prefixes.Goals as goal

pub loop-front-smaller : goal.loop-front-smaller
loop-front-smaller c =
    let parts = split_parts 44 _ (Some (c.in-Some.front, c.in-Some.back)) c.in-Some.ensures.cases (omega arith) in
    back-shorter 44 _ _ _ parts.0

pub loop-front-preserved : goal.loop-front-preserved
loop-front-preserved c =
    (search rules, goes_on SpellsPrefix prefix_lacks_comma _ _ _ c.loop-front.invariant.1 (c.in-Some.front, c.in-Some.back) c.in-Some.ensures.cases _ _ c.in_ok-prefix_of.ensures.ok c.in_ok-push.ensures.items)

pub returns-in_err-prefix_of-clause-none : goal.returns-in_err-prefix_of-clause-none
returns-in_err-prefix_of-clause-none c =
    if_config _ (none_in_front SpellsPrefix prefix_lacks_comma _ _ _ c.loop-front.invariant.1 (c.in-Some.front, c.in-Some.back) c.in-Some.ensures.cases c.in_err-prefix_of.ensures.none)

pub returns-in_err-prefix_of-2-clause-none : goal.returns-in_err-prefix_of-2-clause-none
returns-in_err-prefix_of-2-clause-none c =
    if_config _ (none_at_the_end SpellsPrefix prefix_lacks_comma _ _ _ c.loop-front.invariant.1 c.in_default.ensures.cases c.in_err-prefix_of-2.ensures.none)
