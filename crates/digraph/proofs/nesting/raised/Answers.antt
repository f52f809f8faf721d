use Rattle.std.proofs.Common.{◌≡◌, ◌++◌, ◌∷◌, [], slice_get, Some, refl, arith}
use Rattle.std.proofs.lemmas.Option.{slice_get_read, slice_get_within}
use Rattle.digraph.proofs.Rows.{upper_more, reached_more}
use Rattle.digraph.proofs.nesting.raised.Goals as goal

pub loop-row-preserved : goal.loop-row-preserved
loop-row-preserved c =
    let at : slice_get c.args.rows.now c.loop-row.row-index ≡ Some c.row-item.result = slice_get_read c.args.rows.now _ c.loop-row.row-index c.row-item.result refl (omega arith) c.row-item.is in
    let over = rw c.as_slice.ensures at c.height_over.ensures.upper in
    let one = rw c.as_slice.ensures at c.height_over.ensures.reached in
    let pushed : c.push.new.self.items ≡ c.loop-row.new.items ++ c.height_over.result ∷ [] = c.in_ok-push.ensures.items in
    rw pushed (record {
      same = grind arith;
      upper = upper_more _ _ _ _ _ _ at c.loop-row.invariant.same over one c.loop-row.invariant.upper;
      reached = reached_more _ _ _ _ _ _ at c.loop-row.invariant.same over one c.loop-row.invariant.reached;
    })

pub returns-clause-raised : goal.returns-clause-raised
returns-clause-raised c = record {
  upper = λ a b edge. let within = slice_get_within c.args.rows.now a edge.0 edge.1 in c.loop-row.invariant.upper a b (omega arith) edge;
  reached = c.loop-row.invariant.reached;
}
