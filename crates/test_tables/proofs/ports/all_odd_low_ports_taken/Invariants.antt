use Rattle.std.proofs.Common.{◌≡◌, [], ◌∷◌}
use Rattle.test_tables.proofs.ports.all_odd_low_ports_taken.Given as goal

-- the addresses stay
abbrev pub invariant-loop-number : goal.invariant-loop-number
invariant-loop-number g l = l.ports.value.external ≡ 3405803777 ∷ 3405803778 ∷ []
