use Rattle.std.proofs.Common.{inl, inr, subst, ◌∙◌, arith}
use Rattle.std.specs.List.{Contains}
use Rattle.std.proofs.lemmas.List.Elements.{Contains-get_or}
use Rattle.digraph.proofs.witness.meet_row.Goals as goal

pub loop-b-preserved : goal.loop-b-preserved
loop-b-preserved c = record {
  same = c.meet.ensures.same ∙ c.loop-b.invariant.same;
  waiting = λ b is. elim (c.in_ok-meet.ensures.waiting b is) [
    | inl before ↦ c.loop-b.invariant.waiting b before
    | inr new ↦ inr (subst (Contains c.args.row.now) new (Contains-get_or c.args.row.now c.loop-b.b-index 0 (omega arith)))
  ];
}
