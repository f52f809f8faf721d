use Rattle.std.proofs.lemmas.Bool.{false≢true}
use Rattle.machine.proofs.deed.rules_of.Goals as goal

pub returns-else-eq : goal.returns-else-eq
returns-else-eq c = λ rules loads. false≢true (rw (c.in-Err.ensures.only rules loads) at c.if-eq.ensures)
