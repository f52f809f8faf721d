-- What a contract sees of the rows.
use Rattle.std.specs.Prelude.{◌≡◌, ℕ, ◌<◌, nat_lt, List, [], ◌∷◌, cond, eqb, Option, Some, None}
use Rattle.std.specs.List.{AllPairs}
use Rattle.rows.specs.declared.Entry.{Entry}

-- the entries, rising by their keys, and how many more surely go in with no memory
pub record Entries : Type 0 where
  pub held : List Entry
  pub room : ℕ

-- the value of a key, where an entry has it
abbrev pub value_at : List Entry → ℕ → Option ℕ
value_at [] key = None
value_at (entry ∷ entries) key = cond (eqb key entry.key) (Some entry.value) (value_at entries key)

-- the value of each key of the rows
abbrev pub at : Entries → ℕ → Option ℕ
at rows key = value_at rows.held key

-- the entries that rise, from the first on whose key isn't below this one
abbrev pub entries_from : ℕ → List Entry → List Entry
entries_from key [] = []
entries_from key (entry ∷ entries) =
    cond (nat_lt entry.key key) (entries_from key entries) (entry ∷ entries)

-- the key has this value now, or none, and each other key the one that it had
abbrev pub Puts : List Entry → List Entry → ℕ → Option ℕ → Type 0
Puts old new key value = (other : ℕ) → value_at new other
    ≡ cond (eqb other key) value (value_at old other)

-- each key stands once, in rising order
abbrev pub AreRising : List Entry → Type 0
AreRising entries = AllPairs (λ a b. a.key < b.key) entries
