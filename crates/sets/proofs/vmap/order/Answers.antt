use Rattle.std.proofs.Common.{◌∙◌, refl, sym}
use Rattle.sets.specs.Order.{place_of}
use Rattle.sets.proofs.Sorted.{then_equal}
use Rattle.sets.proofs.vmap.order.Goals as goal

pub returns-in-Numbers-Numbers : goal.returns-in-Numbers-Numbers
unfolding place_of
returns-in-Numbers-Numbers c = rw (c.in-Numbers-Numbers.is-0, c.in-Numbers-Numbers.is-1) (c.cmp.ensures ∙ sym (then_equal _))

pub returns-in-Numbers-Name : goal.returns-in-Numbers-Name
unfolding place_of
returns-in-Numbers-Name c = rw (c.in-Numbers-Name.is-0, c.in-Numbers-Name.is-1) refl

pub returns-in-Name-Numbers : goal.returns-in-Name-Numbers
unfolding place_of
returns-in-Name-Numbers c = rw (c.in-Name-Numbers.is-0, c.in-Name-Numbers.is-1) refl

pub returns-in-Name-Name : goal.returns-in-Name-Name
unfolding place_of
returns-in-Name-Name c = rw (c.in-Name-Name.is-0, c.in-Name-Name.is-1, ← c.as_slice.ensures.value, ← c.as_slice-in-Name-Name.ensures.value) c.by_bytes.ensures
