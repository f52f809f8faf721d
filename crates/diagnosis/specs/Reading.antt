-- What one file is by itself.
use Rattle.std.specs.Prelude.{◌≡◌, ◌≢◌, ◌↔◌, ℕ, ◌-◌, ◌^◌, IsTrue, List, [], ◌∷◌, ◌++◌, length}
use Rattle.packet.specs.Config.{Config}
use Rattle.durable.specs.Coding.{Heading}
use Rattle.durable.specs.declared.version.Version.{Version}
use Rattle.durable.specs.Versions.{mark_of}
use Rattle.durable.specs.Entering.{Durable, IsDurable}
use Rattle.durable.specs.Recovery.{IsOpen, IsHeaded, Holds, begun}
use Rattle.diagnosis.specs.declared.reading.Fault.{Fault}
use Rattle.diagnosis.specs.declared.reading.Fault.TheVariants.{Foreign, Front, Snapshot, Changes}
use Rattle.diagnosis.specs.declared.reading.Held.{Held}
use Rattle.diagnosis.specs.declared.reading.Reading.{Reading}
use Rattle.diagnosis.specs.declared.reading.Reading.TheVariants.{Empty, Closed, Faulty, Whole}

-- the mark of this version stands behind the file gate
abbrev pub IsMarked : Version → List ℕ → Type 0
IsMarked version file = (rest : List ℕ) × (file ≡ 1 ∷ (mark_of version ++ rest))

abbrev pub HasMark : List ℕ → Type 0
HasMark file = (version : Version) × IsMarked version file

-- the greatest generation, which no gateway lives to see
abbrev pub greatest : ℕ
greatest = 2 ^ 64 - 1

-- the snapshot is sound and its text loads
abbrev pub HasSoundSnapshot : Heading → Type 0
HasSoundSnapshot h = IsDurable h.config (begun h.snapshot)

-- no whole front, but perhaps one of the greatest generation
abbrev pub HasNoFront : List ℕ → Type 0
HasNoFront file = (h : Heading) → IsHeaded file h → h.generation ≡ greatest

-- Why a file holds no state.
abbrev pub IsFaultOf : List ℕ → Fault → Type 0
IsFaultOf file Foreign = IsOpen file × ¬ HasMark file
IsFaultOf file Front = IsOpen file × HasMark file × HasNoFront file
IsFaultOf file Snapshot = (h : Heading) × IsHeaded file h × ¬ HasSoundSnapshot h
IsFaultOf file Changes = (h : Heading) × IsHeaded file h × HasSoundSnapshot h
    × ((d : Durable) (end : ℕ) → ¬ Holds file h d end)

-- what is said of a state that a file holds, to one with this configuration
abbrev pub IsHeld : Config → List ℕ → Held → Type 0
IsHeld config file held = (h : Heading) × (d : Durable) × (end : ℕ) × Holds file h d end
    × (held.generation ≡ h.generation) × (held.sessions ≡ length d.sessions)
    × (IsTrue held.is_configured ↔ (h.config ≡ config))

abbrev pub IsReadAs : Config → List ℕ → Reading → Type 0
IsReadAs config file Empty = file ≡ []
IsReadAs config file Closed = (file ≢ []) × ¬ IsOpen file
IsReadAs config file (Faulty fault) = IsFaultOf file fault
    × ((h : Heading) (d : Durable) (end : ℕ) → ¬ Holds file h d end)
IsReadAs config file (Whole held) = IsHeld config file held
