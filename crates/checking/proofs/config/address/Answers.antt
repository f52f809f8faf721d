use Rattle.checking.proofs.config.address.Goals as goal

pub returns-in-Ok-clause-some : goal.returns-in-Ok-clause-some
returns-in-Ok-clause-some c = (c.in-Ok.address, c.in-Ok.ensures.value, c.to_bits.ensures)

pub returns-in-Err-clause-none : goal.returns-in-Err-clause-none
returns-in-Err-clause-none c = λ addr (a, written, value). c.in-Err.ensures.value a written
