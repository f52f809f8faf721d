-- What two files are together.
use Rattle.std.specs.Prelude.{◌≡◌, ◌≢◌, ◌⊎◌, ℕ}
use Rattle.packet.specs.Config.{Config}
use Rattle.disk_model.specs.Disk.{Files}
use Rattle.disk_model.specs.declared.disk.FileId.{FileId}
use Rattle.disk_model.specs.declared.disk.FileId.TheVariants.{A, B}
use Rattle.durable.specs.Coding.{Heading}
use Rattle.durable.specs.Entering.{Durable}
use Rattle.durable.specs.Recovery.{IsActive, IsConfigured, Recovers}
use Rattle.diagnosis.specs.Reading.{IsReadAs}
use Rattle.diagnosis.specs.declared.reading.Fault.{Fault}
use Rattle.diagnosis.specs.declared.reading.Held.{Held}
use Rattle.diagnosis.specs.declared.reading.Reading.{Reading}
use Rattle.diagnosis.specs.declared.reading.Reading.TheVariants.{Faulty, Whole}
use Rattle.diagnosis.specs.declared.finding.Damage.{Damage}
use Rattle.diagnosis.specs.declared.finding.Finding.{Finding}
use Rattle.diagnosis.specs.declared.finding.Finding.TheVariants.{Sound, Damaged, Differs}

-- the file was read as faulty
abbrev pub HasFault : Reading → Type 0
HasFault reading = (fault : Fault) × (reading ≡ Faulty fault)

-- both files are whole, and have one generation
abbrev pub AreTwins : Reading → Reading → Type 0
AreTwins a b = (held : Held) × (other : Held) × (a ≡ Whole held) × (b ≡ Whole other)
    × (held.generation ≡ other.generation)

-- The files stand for no state; each is as it is told; and that one of them has a fault, or that both have one
-- generation, is why.
pub record IsDamaged (config : Config) (files : Files) (damage : Damage) : Type 0 where
  pub nothing : (d : Durable) → ¬ Recovers files d
  pub a : IsReadAs config (files A) damage.a
  pub b : IsReadAs config (files B) damage.b
  pub why : HasFault damage.a ⊎ HasFault damage.b ⊎ AreTwins damage.a damage.b

-- The files stand for a state, and the active one has another configuration, this one.
pub record HasOther (config : Config) (files : Files) (stored : Config) : Type 0 where
  pub file : FileId
  pub heading : Heading
  pub state : Durable
  pub end : ℕ
  pub active : IsActive files file heading state end
  pub kept : stored ≡ heading.config
  pub differs : stored ≢ config

abbrev pub IsFinding : Config → Files → Finding → Type 0
IsFinding config files Sound = ((d : Durable) × Recovers files d) × IsConfigured config files
IsFinding config files (Damaged damage) = IsDamaged config files damage
IsFinding config files (Differs x) = HasOther config files x.stored × (x.given.now ≡ config)
