-- The versions of a file's form. They differ in the mark and in what is stored of a configuration; all else of a file
-- is the same in each.
use Rattle.std.specs.Prelude.{◌≡◌, ℕ, List, [], ◌∷◌, length}
use Rattle.packet.specs.declared.bounds.Filtering.TheVariants as filtering
use Rattle.packet.specs.Config.{Config}
use Rattle.durable.specs.declared.version.Version.{Version}
use Rattle.durable.specs.declared.version.Version.TheVariants.{First, Second}

-- the one that is written; files of the others are only read
abbrev pub latest : Version
latest = Second

-- NGW1, NGW2
abbrev pub mark_of : Version → List ℕ
mark_of First = 0x4e ∷ 0x47 ∷ 0x57 ∷ 0x31 ∷ []
mark_of Second = 0x4e ∷ 0x47 ∷ 0x57 ∷ 0x32 ∷ []

-- which configurations a version can store: the first one has one address, and no choice of filtering
abbrev pub IsOf : Version → Config → Type 0
IsOf First c = (length c.external ≡ 1) × (c.filtering ≡ filtering.Endpoint)
IsOf Second c = Unit {0}
