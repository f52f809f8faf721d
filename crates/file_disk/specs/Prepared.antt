-- What an opening makes of the bytes of a file.
use Rattle.std.specs.Prelude.{◌≡◌, ◌<◌, ◌⊎◌, ℕ, List, [], ◌∷◌, ◌++◌, get_or, length, replicate}
use Rattle.file_disk.specs.OneFile.{NoMore}

-- an empty file becomes so many zeros, and a file that has bytes keeps them all
abbrev pub prepared : ℕ → List ℕ → List ℕ
prepared room [] = replicate room 0
prepared room (x ∷ more) = x ∷ more

-- the gate of these bytes is open
abbrev pub IsOpen : List ℕ → Type 0
IsOpen bytes = get_or bytes 0 0 ≡ 1

-- these bytes, perhaps with more behind them
abbrev pub IsLonger : List ℕ → List ℕ → Type 0
IsLonger old new = (more : List ℕ) × (new ≡ old ++ more)

module _ {F : Type 0} (honest : F → Type 0) (holds : F → List ℕ) (leaves : F → List ℕ → Type 0) where
  -- a crash leaves an open gate only if it could before, and with all bytes that stood there then
  abbrev pub OpensNone : F → F → Type 0
  OpensNone old new = (bytes : List ℕ) → leaves new bytes → IsOpen bytes
      → (before : List ℕ) × leaves old before × IsOpen before × IsLonger before bytes

  -- what a crash leaves is what a read gives
  abbrev pub IsSynced : F → Type 0
  IsSynced file = (bytes : List ℕ) → leaves file bytes → bytes ≡ holds file

  -- it has all of its bytes, and they are synced
  pub record IsWhole (room : ℕ) (old new : F) : Type 0 where
    pub stays_honest : honest new
    pub bytes : holds new ≡ prepared room (holds old)
    pub synced : IsSynced new

  -- only an empty one may lack its zeros, if there was no space for them
  abbrev pub IsWholeOrShort : (F → Type 0) → ℕ → F → F → Type 0
  IsWholeOrShort lacks_space room old new = IsWhole room old new
      ⊎ ((length (holds old) ≡ 0) × lacks_space new)

  -- A file as it was found, and as an opening left it that may have failed: no gate was opened. Of one that had bytes
  -- a crash leaves only what it could before, and what a read gives is of that kind.
  pub record IsLeft (old new : F) : Type 0 where
    pub was_honest : honest new → honest old
    pub closed : honest old → OpensNone old new
    pub kept : honest old → 0 < length (holds old) → NoMore honest holds leaves old new
    pub reads : honest old → 0 < length (holds old) → leaves old (holds new)

  -- a file as it was found, and prepared
  pub record IsPrepared (lacks_space : F → Type 0) (room : ℕ) (old new : F) : Type 0 where
    pub was_honest : honest new → honest old
    pub stays_honest : honest old → honest new
    pub whole : honest old → IsWholeOrShort lacks_space room old new
    pub closed : honest old → OpensNone old new
