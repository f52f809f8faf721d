use Rattle.std.proofs.Common.{◌≡◌, length, suc, ◌+◌, ◌-◌}
use Rattle.rulesyntax.specs.Reading.{parts_from, no_parts}
use Rattle.rulesyntax.proofs.rule.read_parts.Given as goal

abbrev pub invariant-loop : goal.invariant-loop
invariant-loop l = record {
  end : l.end ≡ length l.tokens + 1;
  told : parts_from (l.end - l.counter) l.parts l.rest ≡ parts_from (suc (length l.tokens)) no_parts l.tokens;
}
