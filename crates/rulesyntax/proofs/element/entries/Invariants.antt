use Rattle.std.proofs.Common.{◌≡◌, length, suc, ◌+◌, ◌-◌}
use Rattle.rulesyntax.specs.Reading.{entries_from, seen}
use Rattle.rulesyntax.proofs.Loop.{with_front}
use Rattle.rulesyntax.proofs.element.entries.Given as goal

abbrev pub invariant-loop : goal.invariant-loop
invariant-loop g l = record {
  end : l.end ≡ length l.tokens + 1;
  told : with_front l.entries (entries_from g.E.Entry.reads l.braces (l.end - l.counter) (seen l.braces l.rest)) ≡ entries_from g.E.Entry.reads l.braces (suc (length l.tokens)) (seen l.braces l.tokens);
}
