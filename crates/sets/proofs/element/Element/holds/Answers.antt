use Rattle.std.proofs.Common.{Ordering, Less, Equal, Greater, ◌≡◌, ◌≢◌, true, false, refl, subst}
use Rattle.sets.specs.Intervals.{StandsBesideElement}
use Rattle.sets.specs.Members.{Fact, fact_of, IsIn}
use Rattle.sets.specs.declared.element.Element.{Element}
use Rattle.sets.proofs.Places.{in_where_equal, not_where_less, not_where_greater}
use Rattle.sets.proofs.element.Element.holds.Goals as goal

not_elsewhere : (f : Fact) (m : Element) (o : Ordering) → StandsBesideElement o f m → o ≢ Equal → ¬ IsIn f m
not_elsewhere f m Less h ne = not_where_less f m h
not_elsewhere f m Equal h ne = absurd (ne refl)
not_elsewhere f m Greater h ne = not_where_greater f m h

pub returns-in-Equal : goal.returns-in-Equal
returns-in-Equal c =
    let stands = subst (λ o. StandsBesideElement o (fact_of c.args.value) c.args.self.now) c.in-Equal.is c.compare.ensures in
    (λ t. in_where_equal (fact_of c.args.value) c.args.self.now stands, λ i. refl)

pub returns-in_default : goal.returns-in_default
returns-in_default c = (
  λ (t : false ≡ true). cc,
  λ i. absurd (not_elsewhere (fact_of c.args.value) c.args.self.now c.compare.result c.compare.ensures (λ e. c.in_default.not-Equal e) i),
)
