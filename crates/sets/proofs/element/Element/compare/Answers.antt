use Rattle.std.proofs.Common.{refl}
use Rattle.sets.specs.Intervals.{StandsBesideElement}
use Rattle.sets.specs.Members.{fact_of}
use Rattle.sets.proofs.element.Element.compare.Goals as goal

pub returns-in-Number-Numbers : goal.returns-in-Number-Numbers
unfolding StandsBesideElement fact_of
returns-in-Number-Numbers c = rw (c.in-Number-Numbers.is-0, c.in-Number-Numbers.is-1) c.beside.ensures

pub returns-in-Number-Name : goal.returns-in-Number-Name
unfolding StandsBesideElement fact_of
returns-in-Number-Name c = rw (c.in-Number-Name.is-0, c.in-Number-Name.is-1) refl

pub returns-in-Name-Numbers : goal.returns-in-Name-Numbers
unfolding StandsBesideElement fact_of
returns-in-Name-Numbers c = rw (c.in-Name-Numbers.is-0, c.in-Name-Numbers.is-1) refl

pub returns-in-Name-Name : goal.returns-in-Name-Name
unfolding StandsBesideElement fact_of
returns-in-Name-Name c = rw (c.in-Name-Name.is-0, c.in-Name-Name.is-1, ← c.as_slice.ensures.value) c.by_bytes.ensures
