use Rattle.hairpin.proofs.Following.{took_new}
use Rattle.hairpin.proofs.translations.take_port.Goals as goal

pub returns-clause-taken : goal.returns-clause-taken
returns-clause-taken c = took_new c.args.mapping c.args.ports.now c.take_reserved.new.self c.take_reserved.ensures.takes
