use Rattle.ruletext.proofs.TextLemmas.{refused, only_memory, only_loaded}
use Rattle.ruletext.proofs.reading.read.Goals as goal

pub returns-in-Err-clause-only : goal.returns-in-Err-clause-only
returns-in-Err-clause-only c = λ rules loads. only_memory c.args.bounds.now c.args.text.now c.parse.result c.parse.ensures.only c.parse.ensures.too_long c.in-Err.fault c.in-Err.is rules loads

pub returns-in-Err-clause-refused : goal.returns-in-Err-clause-refused
returns-in-Err-clause-refused c = refused c.args.bounds.now c.args.text.now c.parse.result c.parse.ensures.only c.parse.ensures.too_long c.in-Err.fault.kind c.in-Err.is c.in-Err.ensures.kinds

pub returns-in-Ok-clause-only : goal.returns-in-Ok-clause-only
returns-in-Ok-clause-only c = λ rules loads. only_loaded c.args.bounds.now c.args.text.now c.parse.result c.parse.ensures.only c.parse.ensures.too_long c.in-Ok.spelled c.in-Ok.is c.load.result c.load.ensures.same c.load.ensures.refused rules loads
