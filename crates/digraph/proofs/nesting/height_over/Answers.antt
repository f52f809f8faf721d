use Rattle.std.proofs.Common.{◌<◌, ◌∙◌, sym, get_or, subst, arith}
use Rattle.std.proofs.lemmas.Grind.{get_or_default_zero}
use Rattle.digraph.proofs.LoopLemmas.{below_more}
use Rattle.digraph.proofs.nesting.height_over.Goals as goal
use Rattle.digraph.proofs.nesting.height_over.Goals.{then-heights-b, else-heights-b}

pub loop-b-preserved : goal.loop-b-preserved
loop-b-preserved c =
    let row = c.args.row.now in
    let i = c.loop-b.b-index in
    elim c.if-heights-b.branch [
      | then-heights-b w ↦ record {
        upper = below_more c.args.heights.now row c.if-heights-b.height i (omega (arith, w.height-is)) (λ k lt. omega (arith, c.loop-b.invariant.upper k lt, w.height-is, w.if-heights-b.true));
        reached = λ _. (get_or row i 0, (i, c.loop-b-test.true, get_or_default_zero row i (get_or row i 0) c.loop-b-test.true), w.height-is);
      }
      | else-heights-b w ↦ record {
        upper = below_more c.args.heights.now row c.if-heights-b.height i (omega (arith, w.height-is, w.if-heights-b.false)) (λ k lt. omega (arith, c.loop-b.invariant.upper k lt, w.height-is));
        reached = rw w.height-is c.loop-b.invariant.reached;
      }
    ]

pub returns-clause-upper : goal.returns-clause-upper
returns-clause-upper c b found =
    let here = sym (get_or_default_zero c.args.row.now found.0 b found.1) ∙ found.2 in
    subst (λ k. get_or c.args.heights.now k 0 < c.loop-b.height) here (c.loop-b.invariant.upper found.0 (omega (arith, found.1, c.loop-b-test.false)))

pub returns-clause-reached : goal.returns-clause-reached
returns-clause-reached c = c.loop-b.invariant.reached
