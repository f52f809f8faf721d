use Rattle.std.proofs.Common.{refl, sym, ◌∙◌}
use Rattle.rulesyntax.proofs.Loop.{stopped, parts_on, parts_no_turn}
use Rattle.rulesyntax.proofs.rule.read_parts.Goals as goal

pub loop-preserved : goal.loop-preserved
loop-preserved c = record {
  end = refl;
  told = rw c.in_ok-parts.ensures.ok (parts_on _ c.loop.counter c.loop.parts c.loop.rest.now c.in_ok-part.part c.in_ok-part.after.now _ c.loop-test.true (sym c.if-not-begins_part.false ∙ c.begins_part.ensures) c.in_ok-part.ensures c.loop.invariant.told);
}

pub returns : goal.returns
returns c = stopped c.stop.result _ c.stop.ensures (parts_no_turn _ c.loop.counter c.loop.parts c.loop.rest.now _ c.loop-test.false c.loop.invariant.told)
