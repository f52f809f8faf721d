use Rattle.std.proofs.Common.{◌≡◌}
use Rattle.test_tables.proofs.ports.take_all_but.Given as goal

-- the addresses stay
abbrev pub invariant-loop-n : goal.invariant-loop-n
invariant-loop-n l = l.ports.external ≡ l.fn.ports.external
