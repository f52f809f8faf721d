-- Which values lie in an element, in a union of elements and under a key.
use Rattle.std.specs.Prelude.{◌≡◌, ◌⊎◌, ℕ, ◌≤◌, List, [], ◌∷◌}
use Rattle.std.specs.List.{Any}
use Rattle.sets.specs.declared.element.Range.{Range}
use Rattle.sets.specs.declared.element.Element.{Element}
use Rattle.sets.specs.declared.element.Value.{Value}
use Rattle.sets.specs.declared.element.Pair.{Pair}

-- the most elements of a set, and the most keys of a map
abbrev pub limit : ℕ
limit = 16384

-- what a packet has where a match looks: a number, or the bytes of an interface name
pub data Fact : Type 0 where
  Number : ℕ → Fact
  Name : List ℕ → Fact

unfoldable pub fact_of : Value → Fact
fact_of (Value.Number number) = Fact.Number number
fact_of (Value.Name name) = Fact.Name name.now

-- the number is neither below the range nor above it
pub record IsWithin (number : ℕ) (range : Range) : Type 0 where
  pub from : range.low ≤ number
  pub to : number ≤ range.high

-- the fact lies in the element; names are compared by their bytes
unfoldable pub IsIn : Fact → Element → Type 0
IsIn (Fact.Number number) (Element.Numbers range) = IsWithin number range
IsIn (Fact.Name name) (Element.Name own) = name ≡ own.items
IsIn fact element = ⊥

-- the fact lies in the union of the elements
abbrev pub IsMember : Fact → List Element → Type 0
IsMember fact elements = Any (IsIn fact) elements

-- some fact lies in both
unfoldable pub Share : Element → Element → Type 0
Share one other = (fact : Fact) × IsIn fact one × IsIn fact other

module _ {V : Type 0} where
  -- a key in which the fact lies has this verdict
  abbrev pub MapsTo : Fact → V → List (Pair V) → Type 0
  MapsTo fact verdict pairs = Any (λ pair. IsIn fact pair.key × (pair.verdict ≡ verdict)) pairs

  -- a key shares a fact with a later one
  abbrev pub Overlaps : List (Pair V) → Type 0
  Overlaps [] = ⊥
  Overlaps (first ∷ later) = Any (λ pair. Share first.key pair.key) later ⊎ Overlaps later
