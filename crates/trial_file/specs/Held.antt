-- A file in memory: its bytes, what they were at the last sync, and whether its name leads to it. A crash leaves the
-- bytes, or those of the last sync.
use Rattle.std.specs.Prelude.{◌≡◌, ◌⊎◌, List, ℕ, Bool, IsTrue}

pub record Held : Type 0 where
  pub bytes : List ℕ
  pub synced : List ℕ
  pub in_place : Bool

abbrev pub MayLeave : Held → List ℕ → Type 0
MayLeave file left = (left ≡ file.bytes) ⊎ (left ≡ file.synced)

abbrev pub bytes_of : Held → List ℕ
bytes_of file = file.bytes

abbrev pub IsInPlace : Held → Type 0
IsInPlace file = IsTrue file.in_place
