-- Want of space, as the system tells of it.
use Rattle.std.specs.Prelude.{◌≡◌, ◌⊎◌}
use Rattle.std.specs.IoError.{error_kind}
use Rattle.std.specs.declared.io.Error.{Error}
use Rattle.std.specs.declared.io.ErrorKind.{ErrorKind}
use Rattle.std.specs.declared.io.ErrorKind.TheVariants.{QuotaExceeded, StorageFull}

-- the device is full, or its owner has as much of it as he may have
abbrev pub IsWantOfSpace : ErrorKind → Type 0
IsWantOfSpace kind = (kind ≡ StorageFull) ⊎ (kind ≡ QuotaExceeded)

-- an error of such a kind comes only if there is no space
abbrev pub TellsOfSpace : Type 0 → Error → Type 0
TellsOfSpace lacks_space error = IsWantOfSpace (error_kind error) → lacks_space

-- An error of such a kind does a file no harm: one that was honest still is.
abbrev pub DoesNoHarm : {F : Type 0} → (F → Type 0) → F → F → Error → Type 0
DoesNoHarm honest old new error = IsWantOfSpace (error_kind error) → honest old → honest new
