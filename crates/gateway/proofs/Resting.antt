-- What the files stand for, and the entries that wait.
use Rattle.std.proofs.Common.{◌≡◌, inl, ℕ, List, [], refl, sym, subst}
use Rattle.packet.specs.Config.{Config}
use Rattle.disk_model.specs.Disk.{Files, LeavesNow, LeavesOnly}
use Rattle.disk_model.proofs.Moments.{idle}
use Rattle.durable.specs.Coding.{Entry, AreEntries, body_bytes}
use Rattle.durable.specs.Entering.{Durable, IsDurable, Enters, BodyEnters}
use Rattle.durable.specs.Recovery.{Recovers}
use Rattle.durable.proofs.Headed.{recovers_once}
use Rattle.durable.proofs.Storable.{recovers_sound}
use Rattle.machine.specs.Machine.{State}
use Rattle.machine.specs.Noted.{IsResumed, lasting}
use Rattle.entries.proofs.Again.{restart-sound}
use Rattle.snapshot.specs.Store.{Keeps, RecoversEither, Stored}
use Rattle.gateway.specs.Kept.{GroupsEndAt, LeadsToPresent}

-- where no entry waits, the files stand for the present state
pub nothing_waits : (config : Config) (files : Files) (entries : List Entry) (s : State) → LeadsToPresent config files entries s → entries ≡ [] → Recovers files (lasting s)
nothing_waits config files entries s is none =
    let enters : Enters config [] is.durable (lasting s) = subst (λ (es : List Entry). Enters config es is.durable (lasting s)) none is.enters in
    subst (λ (d : Durable). Recovers files d) (sym enters) is.recovers

-- and where they do, none is to be entered
pub stands_for : (config : Config) (files : Files) (s : State) → Recovers files (lasting s) → LeadsToPresent config files [] s
stands_for config files s recovers = record { durable = lasting s; recovers = recovers; enters = refl }

-- the body of the group that waits leads from what the files stand for to the present state
pub body_leads : (config own : Config) (files : Files) (entries : List Entry) (s : State) (body : List ℕ) (first : Durable) → own ≡ config → LeadsToPresent config files entries s
    → Recovers files first → AreEntries entries → body ≡ body_bytes entries → BodyEnters own body first (lasting s)
body_leads config own files entries s body first same is recovers coded are = (
  entries,
  coded,
  are,
  subst (λ (k : Config). Enters k entries first (lasting s)) (sym same)
      (subst (λ (d : Durable). Enters config entries d (lasting s)) (recovers_once.state files is.durable first is.recovers recovers) is.enters),
)

module _ {D : Type 0} (moment : D → ℕ) (left : D → ℕ → Files → Type 0) (seen : D → Files) where
  -- no call of the disk is made
  pub idle_either : (disk : D) (first next kept : Durable) → Recovers (seen disk) first → Recovers (seen disk) kept → LeavesNow moment left disk (λ files. Recovers files kept)
      → LeavesOnly moment left disk disk (RecoversEither first next)
  idle_either disk first next kept recovers also leaves =
      let same = recovers_once.state (seen disk) kept first also recovers in
      idle moment left disk (RecoversEither first next) (λ files now. inl (subst (λ (d : Durable). Recovers files d) same (leaves files now)))

  pub leaves_as : (disk : D) (first kept : Durable) → Recovers (seen disk) first → Recovers (seen disk) kept → LeavesNow moment left disk (λ files. Recovers files kept)
      → LeavesNow moment left disk (λ files. Recovers files first)
  leaves_as disk first kept recovers also leaves files now =
      subst (λ (d : Durable). Recovers files d) (recovers_once.state (seen disk) kept first also recovers) (leaves files now)

  -- where the store has its groups
  pub groups_end : (store : Stored D) (d : Durable) → Keeps moment left seen store d → GroupsEndAt (seen store.disk) store.generation store.grown store.end
  groups_end store d keeps = let rests = keeps.rests.1 in record {
    file = keeps.rests.0;
    heading = rests.heading;
    durable = d;
    active = rests.active;
    numbered = rests.numbered;
    grows = rests.grows;
  }

-- a gateway that begins again has nothing that waits
pub begun : (config own : Config) (files : Files) (entries : List Entry) (d : Durable) (moment : ℕ) (s : State) → entries ≡ [] → own ≡ config → IsDurable config d
    → IsResumed config d moment s → Recovers files d → LeadsToPresent own files entries s
begun config own files entries d moment s none same sound resumed recovers =
    let again = restart-sound config d moment s sound (recovers_sound.stilled files d recovers) resumed in
    record {
      durable = d;
      recovers = recovers;
      enters = subst (λ (es : List Entry). Enters own es d (lasting s)) (sym none) again.1;
    }
