-- How far a search for the end of a front has come. No public clause cites this module.
use Rattle.std.specs.Prelude.{◌≡◌, ℕ, ◌<◌, ◌≤◌, List, length, take, Bool, true, false, Option}
use Rattle.durable.specs.Coding.{Heading}
use Rattle.durable.specs.Entering.{empty}
use Rattle.durable.specs.Recovery.{Found, Finds, IsOpen, IsHeaded, Holds, behind}
use Rattle.disk_model.specs.Disk.{Files}
use Rattle.diagnosis.specs.Reading.{HasSoundSnapshot, greatest, HasNoFront}

-- whether two files stand for a state
abbrev pub Tells : Files → Bool → Type 0
Tells files true = (found : Option Found) × Finds files found
Tells files false = (found : Option Found) → ¬ Finds files found

-- a file of the greatest generation that holds nothing
abbrev pub IsProbe : List ℕ → Type 0
IsProbe file = (h : Heading) × (end : ℕ) × Holds file h empty end × (h.generation ≡ greatest)

-- a whole front, of no greatest generation
abbrev pub HasFront : List ℕ → Type 0
HasFront file = (h : Heading) × IsHeaded file h × (h.generation < greatest)

abbrev pub TellsFront : List ℕ → Bool → Type 0
TellsFront file true = IsOpen file → HasFront file
TellsFront file false = IsOpen file × HasNoFront file

-- a beginning of the file that has a whole front, and a shorter one that has none
pub record Brackets (file : List ℕ) (low high : ℕ) : Type 0 where
  pub order : low < high
  pub within : high ≤ length file
  pub front : HasFront (take high file)
  pub no_front : HasNoFront (take low file)

-- the place is that behind the front
abbrev pub IsFrontEnd : List ℕ → ℕ → Type 0
IsFrontEnd file end = (h : Heading) × IsHeaded file h × (end ≡ behind h)

abbrev pub TellsBegin : List ℕ → Bool → Type 0
TellsBegin file true = (h : Heading) × IsHeaded file h × HasSoundSnapshot h
TellsBegin file false = (h : Heading) × IsHeaded file h × ¬ HasSoundSnapshot h
