use Rattle.std.proofs.Common.{◌≡◌, length, arith}
use Rattle.std.proofs.lemmas.List.{length-replicate}
use Rattle.digraph.specs.Edges.{HasEdge}
use Rattle.digraph.proofs.Walks.{heights_more, heights_small}
use Rattle.digraph.proofs.Rows.{zeros_are}
use Rattle.digraph.proofs.nesting.heights_after.Goals as goal

pub loop-init : goal.loop-init
loop-init c = rw c.in_ok-heights.ensures (record { same = length-replicate (length c.args.rows.now) 0; are = zeros_are c.args.rows.now (length c.args.rows.now) })

pub raised-requires-clause-small : goal.raised-requires-clause-small
raised-requires-clause-small c = rw c.as_slice.ensures.value (λ b. let h = heights_small (HasEdge c.args.rows.now) _ _ c.loop.invariant.are b in omega arith)

pub loop-preserved : goal.loop-preserved
loop-preserved c = record {
  same = c.in_ok-heights-2.ensures.same;
  are = heights_more (HasEdge c.args.rows.now) _ _ _ c.loop.invariant.are (rw c.as_slice.ensures.value at c.in_ok-heights-2.ensures.raised);
}

pub returns : goal.returns
returns c = let e : c.loop.counter ≡ c.args.rounds = omega arith in rw e at c.loop.invariant.are
