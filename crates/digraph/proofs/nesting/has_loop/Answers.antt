use Rattle.std.proofs.Common.{slice_index}
use Rattle.std.proofs.lemmas.Bool.{false≢true}
use Rattle.digraph.specs.Edges.{HasEdge}
use Rattle.digraph.proofs.LoopLemmas.{no_loop}
use Rattle.digraph.proofs.nesting.has_loop.Goals as goal

pub returns-in_default : goal.returns-in_default
returns-in_default c = (λ never. absurd (false≢true never), λ loop. absurd (no_loop (HasEdge c.args.rows.now) (slice_index c.as_slice.result.now) c.in_default.ensures.none loop))
