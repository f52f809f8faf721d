use Rattle.std.proofs.Common.{◌<◌, ◌∙◌, sym, get_or, subst, arith}
use Rattle.std.proofs.lemmas.Grind.{get_or_default_zero}
use Rattle.digraph.proofs.LoopLemmas.{below_more}
use Rattle.digraph.proofs.witness.level_place.Goals as goal

pub loop-b-preserved : goal.loop-b-preserved
loop-b-preserved c =
    let below = rw c.rank_of.ensures at c.if-rank_of-rank.false in
    below_more c.args.ranks.now c.args.row.now c.args.rank c.loop-b.b-index below c.loop-b.invariant

pub returns-clause-none : goal.returns-clause-none
returns-clause-none c b found =
    let here = sym (get_or_default_zero c.args.row.now found.0 b found.1) ∙ found.2 in
    subst (λ k. get_or c.args.ranks.now k 0 < c.args.rank) here (c.loop-b.invariant found.0 (omega (arith, found.1, c.loop-b-test.false)))
