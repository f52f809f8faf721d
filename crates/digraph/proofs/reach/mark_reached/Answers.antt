use Rattle.digraph.specs.Edges.{HasEdge}
use Rattle.digraph.proofs.Reaching.{sound_round, complete_round}
use Rattle.digraph.proofs.reach.mark_reached.Goals as goal

pub loop-round-preserved : goal.loop-round-preserved
loop-round-preserved c = record {
  sound = sound_round (HasEdge c.args.rows.now) _ _ _ c.loop-round.round c.spread.ensures.kept c.spread.ensures.sound c.spread.ensures.stepped c.loop-round.invariant.sound;
  complete = complete_round (HasEdge c.args.rows.now) _ _ _ c.loop-round.round c.spread.ensures.kept c.spread.ensures.sound c.spread.ensures.stepped c.loop-round.invariant.complete;
}
