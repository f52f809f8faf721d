-- Why no gateway is opened whose file is made anew.
use Rattle.std.specs.Prelude.{◌≡◌, ◌≢◌, ◌⊎◌, ◌-◌, ◌^◌, ℕ}
use Rattle.packet.specs.Config.{Config}
use Rattle.disk_model.specs.Disk.{Files, Grew, Leaves, Looks, Same}
use Rattle.disk_model.specs.declared.disk.FileId.{FileId}
use Rattle.durable.specs.Coding.{Heading}
use Rattle.durable.specs.Entering.{Durable}
use Rattle.durable.specs.Recovery.{IsActive, IsConfigured, Recovers}
use Rattle.durable.specs.Versions.{latest}
use Rattle.snapshot.specs.Store.{MayWrite}
use Rattle.snapshot.specs.declared.fault.OpenFault.{OpenFault}
use Rattle.snapshot.specs.declared.fault.OpenFault.TheVariants as open_fault
use Rattle.gateway.specs.Lives.{FaultHasCause}
use Rattle.gateway.specs.declared.fault.GatewayFault.{GatewayFault}
use Rattle.gateway.specs.declared.fault.GatewayFault.TheVariants as gateway_fault
use Rattle.commands.specs.declared.opening.AnewFault.{AnewFault}
use Rattle.commands.specs.declared.opening.AnewFault.TheVariants.{Opening, Making}

-- The active file is of the version that is written, and there is no generation behind its own.
pub record IsLastCurrent (files : Files) : Type 0 where
  pub file : FileId
  pub heading : Heading
  pub durable : Durable
  pub end : ℕ
  pub active : IsActive files file heading durable end
  pub current : heading.version ≡ latest
  pub last : heading.generation ≡ 2 ^ 64 - 1

module _ {D : Type 0} (honest : D → Type 0) (moment : D → ℕ) (left : D → ℕ → Files → Type 0)
    (seen : D → Files) (failed : D → ℕ) (config : Config) (old new : D) where
  -- No gateway opens over the files, as they read. Damaged, ConfigDiffers and Generations only look at them.
  pub record OpensNone (fault : OpenFault) : Type 0 where
    pub cause : honest old → FaultHasCause honest moment left seen config old fault
    pub looks : honest old → (fault ≡ open_fault.Damaged) ⊎ (fault ≡ open_fault.ConfigDiffers)
        ⊎ (fault ≡ open_fault.Generations) → Looks moment left seen old new
    pub unwritten : honest old → ¬ MayWrite config (seen old) → Leaves moment left old new Same
    pub device : fault ≡ open_fault.Device → Grew (failed old) (failed new)
    pub only_device : fault ≢ open_fault.Device → failed new ≡ failed old
    pub stays_honest : fault ≢ open_fault.Device → honest old → honest new

  -- One opens, and its file isn't made anew.
  pub record MakesNone (fault : GatewayFault) : Type 0 where
    pub causes : (fault ≡ gateway_fault.NoMemory) ⊎ (fault ≡ gateway_fault.Device)
        ⊎ (fault ≡ gateway_fault.Generations)
    pub opens : honest old → ((d : Durable) × Recovers (seen old) d)
        × IsConfigured config (seen old)
    pub generations : honest old → fault ≡ gateway_fault.Generations → IsLastCurrent (seen old)
    pub device : fault ≡ gateway_fault.Device → Grew (failed old) (failed new)
    pub only_device : fault ≢ gateway_fault.Device → failed new ≡ failed old
    pub stays_honest : fault ≢ gateway_fault.Device → honest old → honest new

  abbrev pub AnewHasCause : AnewFault → Type 0
  AnewHasCause (Opening fault) = OpensNone fault
  AnewHasCause (Making fault) = MakesNone fault
