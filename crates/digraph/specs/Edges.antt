-- A directed graph as rows: the row at a place has the places that a step leads to from there. Marks of places.
use Rattle.std.specs.Prelude.{◌≡◌, ◌<◌, ℕ, Bool, true, false, List, Some, slice_get, slice_index_or, length, All}
use Rattle.std.specs.List.{Contains}

-- the one row has the place of the other
abbrev pub HasEdge : List (List ℕ) → ℕ → ℕ → Type 0
HasEdge rows a b = (row : List ℕ) × (slice_get rows a ≡ Some row) × Contains row b

-- each number of a row is a place of a row
abbrev pub AreWithin : List (List ℕ) → Type 0
AreWithin rows = All (λ row. All (λ b. b < length rows) row) rows

-- the place has a mark
abbrev pub IsMarked : List Bool → ℕ → Type 0
IsMarked marks b = slice_index_or marks b false ≡ true
