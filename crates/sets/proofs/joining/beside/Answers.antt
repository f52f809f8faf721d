use Rattle.std.proofs.Common.{◌≡◌, ◌≢◌, ◌∙◌, sym}
use Rattle.std.proofs.lemmas.Bool.{false≢true}
use Rattle.sets.specs.Intervals.{IsApart}
use Rattle.sets.specs.Joining.{Joins}
use Rattle.sets.specs.Order.{place_of}
use Rattle.sets.proofs.Places.{names_rise, ranges_joined, names_joined}
use Rattle.sets.proofs.joining.beside.Goals as goal

pub returns-in-Some : goal.returns-in-Some
unfolding Joins
returns-in-Some c =
    let of = c.in-Some.ensures in
    rw (c.in-Numbers-Numbers.is-0, c.in-Numbers-Numbers.is-1)
    (λ h. ranges_joined c.in-Numbers-Numbers.range c.in-Numbers-Numbers.later c.in-Some.both h of.touching of.low of.end of.later_end of.within)

pub returns-in-None : goal.returns-in-None
unfolding Joins IsApart
returns-in-None c = rw (c.in-Numbers-Numbers.is-0, c.in-Numbers-Numbers.is-1) (λ h. c.in-None.ensures.apart)

pub returns-then-are_same : goal.returns-then-are_same
unfolding Joins
returns-then-are_same c =
    let e : c.deref.result.now ≡ c.in-Name-Name.name.items = c.deref.ensures.value in
    let f : c.deref-in-Name-Name.result.now ≡ c.in-Name-Name.later.items = c.deref-in-Name-Name.ensures.value in
    rw (c.in-Name-Name.is-0, c.in-Name-Name.is-1) (λ h. names_joined _ _ (sym e ∙ c.are_same.ensures.0 c.if-are_same.true ∙ f))

pub returns-else-are_same : goal.returns-else-are_same
unfolding Joins IsApart place_of
returns-else-are_same c =
    let e : c.deref.result.now ≡ c.in-Name-Name.name.items = c.deref.ensures.value in
    let f : c.deref-in-Name-Name.result.now ≡ c.in-Name-Name.later.items = c.deref-in-Name-Name.ensures.value in
    let differ : c.in-Name-Name.name.items ≢ c.in-Name-Name.later.items = λ same. false≢true (sym c.if-are_same.false ∙ c.are_same.ensures.1 (e ∙ same ∙ sym f)) in
    rw (c.in-Name-Name.is-0, c.in-Name-Name.is-1) (λ h. names_rise _ _ h differ)

pub returns-in_default : goal.returns-in_default
unfolding Joins IsApart
returns-in_default c = rw (c.in_default.is-0, c.in_default.is-1) (λ h. tt)

pub returns-in_default-2 : goal.returns-in_default-2
unfolding Joins IsApart place_of
returns-in_default-2 c = rw (c.in_default.is-0, c.in_default.is-1) (λ h. absurd (false≢true (sym h)))
