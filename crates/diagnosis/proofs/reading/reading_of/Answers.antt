use Rattle.std.proofs.Common.{ap}
use Rattle.std.specs.Prelude.{Err}
use Rattle.diagnosis.proofs.Alone.{nothing_alone, open_alone}
use Rattle.diagnosis.proofs.reading.reading_of.Goals as goal

pub fault_of-requires-clause-open : goal.fault_of-requires-clause-open
fault_of-requires-clause-open c = open_alone c.args.file.now (c.in-Err-Damaged.ensures.damaged (ap Err c.in-Err-Damaged.field-0-is))

pub fault_of-requires-clause-nothing : goal.fault_of-requires-clause-nothing
fault_of-requires-clause-nothing c = nothing_alone c.args.file.now (c.in-Err-Damaged.ensures.damaged (ap Err c.in-Err-Damaged.field-0-is))

pub returns-in_ok-fault-in-Err-Damaged : goal.returns-in_ok-fault-in-Err-Damaged
returns-in_ok-fault-in-Err-Damaged c = (c.in_ok-fault-in-Err-Damaged.ensures, nothing_alone c.args.file.now (c.in-Err-Damaged.ensures.damaged (ap Err c.in-Err-Damaged.field-0-is)))
