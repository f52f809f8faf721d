-- What an element and the next one in order come to where they touch. No public clause cites this module.
use Rattle.std.specs.Prelude.{◌≡◌, ◌⊎◌, ◌↔◌}
use Rattle.sets.specs.declared.element.Element.{Element}
use Rattle.sets.specs.declared.joining.Join.{Join}
use Rattle.sets.specs.declared.joining.Join.TheVariants.{Apart, Same, Spans}
use Rattle.sets.specs.Intervals.{IsApart}
use Rattle.sets.specs.Members.{Fact, IsIn}
use Rattle.sets.specs.Order.{place_of}

-- the joined element begins where the first does, and holds what either holds
pub record IsJoined (one next joined : Element) : Type 0 where
  pub begins : place_of joined ≡ place_of one
  pub holds : (fact : Fact) → IsIn fact joined ↔ (IsIn fact one ⊎ IsIn fact next)

unfoldable pub Joins : Join → Element → Element → Type 0
Joins Apart one next = IsApart one next
Joins Same one next = IsJoined one next one
Joins (Spans range) one next = IsJoined one next (Element.Numbers range)
