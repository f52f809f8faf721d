use Rattle.std.proofs.Common.{ℕ, List, sym, subst}
use Rattle.std.specs.List.{Contains}
use Rattle.test_tables.proofs.ports.take_all_but.Goals as goal

pub take-requires-clause-external : goal.take-requires-clause-external
take-requires-clause-external c = subst (λ (xs : List ℕ). Contains xs 3405803777) (sym c.loop-n.invariant) c.requires.external
