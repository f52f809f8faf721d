use Rattle.std.proofs.Common.{◌≡◌, [], ◌∷◌}
use Rattle.test_tables.proofs.ports.second_host_gets_the_next_port.Given as goal

-- the addresses stay
abbrev pub invariant-loop-row : goal.invariant-loop-row
invariant-loop-row g l = l.ports.value.external ≡ 3405803777 ∷ 3405803778 ∷ []
