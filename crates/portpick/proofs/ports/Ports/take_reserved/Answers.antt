use Rattle.std.proofs.Common.{◌≡◌, arith, rules}
use Rattle.portpick.specs.Taken.{start}
use Rattle.portpick.proofs.TakenLemmas.{written, took}
use Rattle.portpick.proofs.ports.Ports.take_reserved.Goals as goal

pub returns-clause-takes : goal.returns-clause-takes
returns-clause-takes c =
    let whole = written c.self.inside.words.len c.self.inside.words.items c.set_port.new.words (search rules) in
    let at : c.in-Some.start ≡ start c.self.inside.external.items c.args.proto c.args.addr = rw (← c.self.view_is) at c.in-Some.ensures.found in
    let held = rw (← c.self.view_is) at c.requires.external in
    let sets = rw (at, c.deref_mut.ensures.value) at c.set_port.ensures.sets in
    rw (← c.self.view_is, whole) (took c.self.inside.external.items c.args.proto c.args.addr c.args.port held (omega arith) (omega arith) c.self.inside.words.items c.set_port.new.words sets)
