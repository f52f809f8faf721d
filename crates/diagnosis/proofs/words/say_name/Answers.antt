use Rattle.durable.proofs.Named.{name-utf8}
use Rattle.diagnosis.proofs.words.say_name.Goals as goal

pub unreachable-requires : goal.unreachable-requires
unreachable-requires g c = c.in-Err.ensures.cases.0 (name-utf8 c.args.name.now c.requires)
