use Rattle.std.proofs.Common.{◌≡◌, length, suc, ◌+◌, ◌-◌}
use Rattle.rulesyntax.specs.Reading.{list_from}
use Rattle.rulesyntax.proofs.list.list_of.Given as goal

abbrev pub invariant-loop : goal.invariant-loop
invariant-loop g l = record {
  end : l.end ≡ length l.tokens + 1;
  told : list_from g.B.Body.steps (l.end - l.counter) l.body l.rest ≡ list_from g.B.Body.steps (suc (length l.tokens)) l.fn.start l.tokens;
}
