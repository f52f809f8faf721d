-- How two files are looked at while somebody else may be writing them.
use Rattle.std.specs.Prelude.{◌≡◌, ◌≢◌, ◌⊎◌, ℕ, zero, suc, List, take, ⊤}
use Rattle.packet.specs.Config.{Config}
use Rattle.disk_model.specs.Disk.{Files}
use Rattle.disk_model.specs.declared.disk.FileId.{FileId}
use Rattle.disk_model.specs.declared.disk.FileId.TheVariants.{A, B}
use Rattle.durable.specs.Coding.{Heading}
use Rattle.durable.specs.Entering.{Durable}
use Rattle.durable.specs.Recovery.{IsActive, IsConfigured, Recovers}
use Rattle.onlooker.specs.declared.fault.LookFault.{LookFault}
use Rattle.onlooker.specs.declared.fault.LookFault.TheVariants.{File, NoMemory, Changing, Damaged, Differs}

-- a gate, a mark and a generation: each time a file is made anew they change
abbrev pub front_length : ℕ
front_length = 13

-- no file is longer
abbrev pub whole_length : ℕ
whole_length = 67108864

-- the fronts of this file that were read before and behind are that of the file which was read in between
abbrev pub KeepsFront : Files → Files → Files → FileId → Type 0
KeepsFront before files behind file = (before file ≡ take front_length (files file))
    × (behind file ≡ take front_length (files file))

abbrev pub IsSteady : Files → Files → Files → Type 0
IsSteady before files behind = KeepsFront before files behind A × KeepsFront before files behind B

-- the files stand for this state, and the active one, if one is active, has this configuration
abbrev pub StandsFor : Config → Files → Durable → Type 0
StandsFor config files d = Recovers files d × IsConfigured config files

-- The files stand for a state, and the active one has another configuration, this one.
pub record HasOther (config : Config) (files : Files) (stored : Config) : Type 0 where
  pub file : FileId
  pub heading : Heading
  pub state : Durable
  pub end : ℕ
  pub active : IsActive files file heading state end
  pub kept : stored ≡ heading.config
  pub differs : stored ≢ config

-- why files are of no use to one with this configuration
abbrev pub IsUnfit : Config → Files → LookFault → Type 0
IsUnfit config files NoMemory = ⊤
IsUnfit config files Damaged = (d : Durable) → ¬ Recovers files d
IsUnfit config files (Differs stored) = HasOther config files stored
IsUnfit config files fault = ⊥

-- a further look may come to more
abbrev pub IsInVain : LookFault → Type 0
IsInVain Changing = ⊤
IsInVain Damaged = ⊤
IsInVain fault = ⊥

-- the system refused a file or memory
abbrev pub IsOfSystem : LookFault → Type 0
IsOfSystem (File file error) = ⊤
IsOfSystem NoMemory = ⊤
IsOfSystem fault = ⊥

module _ {F : Type 0} (gives : F → F → FileId → ℕ → List ℕ → Type 0) where
  -- A was read and then B, each from its start, at most so many bytes
  pub record ReadsBoth (most : ℕ) (old new : F) (files : Files) : Type 0 where
    pub between : F
    pub a : gives old between A most (files A)
    pub b : gives between new B most (files B)

  -- One look: both fronts, both files whole, both fronts once more.
  pub record Looks (old new : F) (before files behind : Files) : Type 0 where
    pub one : F
    pub two : F
    pub fronts : ReadsBoth front_length old one before
    pub whole : ReadsBoth whole_length one two files
    pub again : ReadsBoth front_length two new behind

  -- One look saw these files: no front changed over it.
  pub record Sees (old new : F) (files : Files) : Type 0 where
    pub before : Files
    pub behind : Files
    pub looks : Looks old new before files behind
    pub steady : IsSteady before files behind

  -- One look saw files that stand for this state, with this configuration.
  pub record SeesState (config : Config) (old new : F) (d : Durable) : Type 0 where
    pub files : Files
    pub sees : Sees old new files
    pub stands : StandsFor config files d

  -- one look saw nothing: a front changed over it
  abbrev pub SeesNothing : F → F → Type 0
  SeesNothing old new = (before : Files) × (files : Files) × (behind : Files)
      × Looks old new before files behind × ¬ IsSteady before files behind

  -- one look saw files that stand for no state
  abbrev pub SeesNoState : F → F → Type 0
  SeesNoState old new = (files : Files) × Sees old new files × ((d : Durable) → ¬ Recovers files d)

  -- why one look saw no files
  abbrev pub IsUnseen : F → F → LookFault → Type 0
  IsUnseen old new (File file error) = ⊤
  IsUnseen old new NoMemory = ⊤
  IsUnseen old new Changing = SeesNothing old new
  IsUnseen old new fault = ⊥

  -- what one look came to that tells nothing
  abbrev pub IsWhy : Config → F → F → LookFault → Type 0
  IsWhy config old new (File file error) = ⊤
  IsWhy config old new NoMemory = ⊤
  IsWhy config old new Changing = SeesNothing old new
  IsWhy config old new Damaged = SeesNoState old new
  IsWhy config old new (Differs stored) = (files : Files) × Sees old new files
      × HasOther config files stored

  -- one after the other so many looks were made in vain
  abbrev pub LooksInVain : ℕ → F → F → Type 0
  LooksInVain zero old new = old ≡ new
  LooksInVain (suc n) old new = (between : F) × (SeesNothing old between ⊎ SeesNoState old between)
      × LooksInVain n between new
