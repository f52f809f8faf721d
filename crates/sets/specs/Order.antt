-- The order in which the keys of a map are looked through for an overlap. No public clause cites this module.
use Rattle.std.specs.Prelude.{ℕ, Bool, List, [], ◌∷◌}
use Rattle.std.specs.Cmp.Lexicographic.{slice_cmp}
use Rattle.std.specs.Ordering.{nat_cmp, is_lt}
use Rattle.sets.specs.declared.element.Element.{Element}
use Rattle.sets.specs.declared.element.Pair.{Pair}

-- ranges by where they begin, and behind them names by their bytes
unfoldable pub place_of : Element → List ℕ
place_of (Element.Numbers range) = 0 ∷ range.low ∷ []
place_of (Element.Name name) = 1 ∷ name.items

-- the element stands before the other
abbrev pub is_before : Element → Element → Bool
is_before one other = is_lt (slice_cmp nat_cmp (place_of one) (place_of other))

-- its key stands before the other's
abbrev pub is_key_before : {V : Type 0} → Pair V → Pair V → Bool
is_key_before one other = is_before one.key other.key
