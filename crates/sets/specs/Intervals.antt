-- Where elements stand beside one another and beside a fact: ranges by their numbers, and behind them names by their
-- bytes.
use Rattle.std.specs.Prelude.{◌≡◌, ℕ, ◌+◌, ◌<◌, List}
use Rattle.std.specs.Cmp.Lexicographic.{slice_cmp}
use Rattle.std.specs.Ordering.{nat_cmp}
use Rattle.std.specs.List.{AllPairs}
use Rattle.std.specs.declared.cmp.Ordering.{Ordering}
use Rattle.std.specs.declared.cmp.Ordering.TheVariants.{Less, Equal, Greater}
use Rattle.sets.specs.declared.element.Range.{Range}
use Rattle.sets.specs.declared.element.Element.{Element}
use Rattle.sets.specs.Members.{Fact, IsWithin}

-- the whole element stands before the whole of the next
unfoldable pub IsBelow : Element → Element → Type 0
IsBelow (Element.Numbers one) (Element.Numbers next) = one.high < next.low
IsBelow (Element.Numbers one) (Element.Name next) = Unit {0}
IsBelow (Element.Name one) (Element.Numbers next) = ⊥
IsBelow (Element.Name one) (Element.Name next) = slice_cmp nat_cmp one.items next.items ≡ Less

-- so, and between two ranges there is a number of neither: they don't touch
unfoldable pub IsApart : Element → Element → Type 0
IsApart (Element.Numbers one) (Element.Numbers next) = one.high + 1 < next.low
IsApart (Element.Numbers one) (Element.Name next) = Unit {0}
IsApart (Element.Name one) (Element.Numbers next) = ⊥
IsApart (Element.Name one) (Element.Name next) = slice_cmp nat_cmp one.items next.items ≡ Less

-- the elements are intervals in order that don't touch
abbrev pub AreIntervals : List Element → Type 0
AreIntervals elements = AllPairs IsApart elements

abbrev pub StandsBeside : Ordering → ℕ → Range → Type 0
StandsBeside Less number range = number < range.low
StandsBeside Equal number range = IsWithin number range
StandsBeside Greater number range = range.high < number

-- the fact stands before the element, in it or behind it
unfoldable pub StandsBesideElement : Ordering → Fact → Element → Type 0
StandsBesideElement place (Fact.Number number) (Element.Numbers range) =
    StandsBeside place number range
StandsBesideElement place (Fact.Number number) (Element.Name own) = place ≡ Less
StandsBesideElement place (Fact.Name name) (Element.Numbers range) = place ≡ Greater
StandsBesideElement place (Fact.Name name) (Element.Name own) =
    place ≡ slice_cmp nat_cmp name own.items
