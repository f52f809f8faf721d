-- What follows for unions, for ranges and for keys.
use Rattle.std.specs.Prelude.{◌≡◌, ◌⊎◌, ◌↔◌, ℕ, ◌+◌, ◌≤◌, List, [], ◌++◌}
use Rattle.sets.specs.declared.element.Range.{Range}
use Rattle.sets.specs.declared.element.Element.{Element}
use Rattle.sets.specs.declared.element.Pair.{Pair}
use Rattle.sets.specs.Members.{Fact, IsWithin, IsMember, Share, MapsTo, Overlaps}

abbrev pub NoneHoldNothing : Type 0
NoneHoldNothing = (fact : Fact) → ¬ IsMember fact []

abbrev pub UnionHoldsBoth : Type 0
UnionHoldsBoth = (fact : Fact) (some more : List Element) → IsMember fact (some ++ more)
    ↔ (IsMember fact some ⊎ IsMember fact more)

abbrev pub AdjoiningIsJoined : Type 0
AdjoiningIsJoined = (one next joined : Range) → next.low ≡ one.high + 1 → joined.low ≡ one.low
    → joined.high ≡ next.high
    → (number : ℕ) → IsWithin number joined ↔ (IsWithin number one ⊎ IsWithin number next)

abbrev pub RangesShare : Type 0
RangesShare = (one other : Range) → Share (Element.Numbers one) (Element.Numbers other)
    ↔ ((one.low ≤ other.high) × (other.low ≤ one.high))

module _ (V : Type 0) where
  abbrev pub MapsToOne : Type 0
  MapsToOne = (pairs : List (Pair V)) → ¬ Overlaps pairs → (fact : Fact) (one other : V)
      → MapsTo fact one pairs → MapsTo fact other pairs → one ≡ other
