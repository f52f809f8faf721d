-- A gateway was opened, and its file made anew behind that: the generation, and what a crash leaves.
use Rattle.std.proofs.Common.{◌≡◌, ◌≢◌, ◌≤◌, ◌-◌, ◌^◌, ◌∙◌, ℕ, Bool, true, false, ap, refl, subst, sym}
use Rattle.std.proofs.lemmas.Bool.{false≢true}
use Rattle.disk_model.specs.Disk.{Files, Leaves, LeavesNow, LeavesOnly, Same}
use Rattle.disk_model.proofs.Moments.{at_end, follows, only_now, only_then}
use Rattle.disk_model.specs.declared.disk.FileId.{FileId}
use Rattle.durable.specs.Coding.{Heading}
use Rattle.durable.specs.Entering.{Durable}
use Rattle.durable.specs.Recovery.{Alike, IsActive, IsConfigured, IsCurrent, NoneOpen, Recovers}
use Rattle.durable.specs.Versions.{latest}
use Rattle.durable.specs.declared.version.Version.{Version}
use Rattle.durable.specs.declared.version.Version.TheVariants.{First, Second}
use Rattle.durable.proofs.Headed.{headed_open, recovers_once}
use Rattle.packet.specs.Config.{Config}
use Rattle.machine.specs.Machine.{State}
use Rattle.machine.specs.Noted.{lasting}
use Rattle.gateway.specs.Kept.{GroupsEndAt}
use Rattle.snapshot.proofs.States.{active_same, none_open}
use Rattle.commands.specs.Causes.{IsLastCurrent}

pub is_open : (files : Files) (file : FileId) (h : Heading) (d : Durable) (end : ℕ) → IsActive files file h d end → ¬ NoneOpen files
is_open files file h d end active none = none_open files file none (headed_open (files file) h active.0.headed)

pub same_generation :
    (old new : Files) (file : FileId) (h : Heading) (d : Durable) (end generation grown place : ℕ)
    → Same old new → IsActive old file h d end → GroupsEndAt new generation grown place → generation ≡ h.generation
same_generation old new file h d end generation grown place same active groups =
    let once = recovers_once.active new groups.file file groups.heading h groups.durable d place end groups.active (active_same old new file h d end same active) in
    sym groups.numbered ∙ ap (λ (x : Heading). x.generation) once.1

is_second : Version → Bool
is_second First = false
is_second Second = true

the_latest : (version : Version) → ¬ (version ≢ latest) → version ≡ latest
unfolding is_second
the_latest First other = absurd (other (λ same. false≢true (ap is_second same)))
the_latest Second other = refl

pub is_current : (files : Files) → ¬ (¬ IsCurrent files) → IsCurrent files
is_current files no_other file h d end active = the_latest h.version (λ former. no_other (λ current. former (current file h d end active)))

-- the file that a gateway goes on writing is of the last generation
pub is_last : (old new : Files) (generation grown place : ℕ) → Same old new → IsCurrent old → GroupsEndAt new generation grown place → generation ≡ 2 ^ 64 - 1 → IsLastCurrent old
is_last old new generation grown place same current groups last =
    let active = active_same new old groups.file groups.heading groups.durable place (λ file. sym (same file)) groups.active in
    record {
      file = groups.file;
      heading = groups.heading;
      durable = groups.durable;
      end = place;
      active = active;
      current = current groups.file groups.heading groups.durable place active;
      last = groups.numbered ∙ last;
    }

-- what both stand for, if each stands for this
alike : (one other files : Files) (d : Durable) → Alike one other → Recovers other d → Recovers files d → Alike one files
alike one other files d same there here k = (
  (λ was. subst (λ (e : Durable). Recovers files e) (recovers_once.state other d k there ((same k).0 was)) here),
  (λ is. (same k).1 (subst (λ (e : Durable). Recovers other e) (recovers_once.state files d k here is) there)),
)

-- The opening leads from `old` to `mid`, whose files stand for `kept`, and the making from there to `new`.
module _ {D : Type 0} (moment : D → ℕ) (left : D → ℕ → Files → Type 0)
    (earlier : (disk : D) (s t : ℕ) (files : Files) → s ≤ t → left disk t files → left disk s files) (old mid new : D) where
  pub made_alike : (d : Durable) → Leaves moment left old mid Alike → LeavesNow moment left mid (λ files. Recovers files d)
      → LeavesOnly moment left mid new (λ files. Recovers files d) → Leaves moment left old new Alike
  made_alike d first stood next =
      follows moment left old mid new Alike (λ before files. Recovers files d) Alike first next
      (λ before files was same. same)
      (λ files from.
      let origin = at_end moment left old mid Alike (earlier mid) first from.0 from.1 in
      (origin.0, origin.1, alike origin.0 from.0 files d origin.2 (stood from.0 from.1) from.2))

  pub made_configured : (config : Config) → LeavesOnly moment left old mid (IsConfigured config) → LeavesOnly moment left mid new (IsConfigured config) → LeavesOnly moment left old new (IsConfigured config)
  made_configured config first next = only_then moment left old mid new (IsConfigured config) (IsConfigured config) (IsConfigured config) (earlier mid) first next (λ files is. is) (λ files is. is)

  pub made_now : (d : Durable) → LeavesOnly moment left mid new (λ files. Recovers files d) → LeavesNow moment left new (λ files. Recovers files d)
  made_now d next = only_now moment left mid new (λ files. Recovers files d) (earlier new) next

  -- what a crash leaves of the making is what the opening found
  pub remade : (seen : D → Files) (d : Durable) (s : State) → left mid (moment mid) (seen mid) → Recovers (seen mid) (lasting s) → LeavesNow moment left mid (λ files. Recovers files d)
      → LeavesOnly moment left mid new (λ files. Recovers files (lasting s)) → LeavesOnly moment left mid new (λ files. Recovers files d)
  remade seen d s reads present stood next =
      let same : lasting s ≡ d = recovers_once.state (seen mid) (lasting s) d present (stood (seen mid) reads) in
      subst (λ (e : Durable). LeavesOnly moment left mid new (λ files. Recovers files e)) same next

  pub alike_since : (seen : D → Files) (d : Durable) (s : State) → left mid (moment mid) (seen mid) → Recovers (seen mid) (lasting s) → LeavesNow moment left mid (λ files. Recovers files d)
      → Leaves moment left old mid Alike → LeavesOnly moment left mid new (λ files. Recovers files (lasting s)) → Leaves moment left old new Alike
  alike_since seen d s reads present stood first next = made_alike d first stood (remade seen d s reads present stood next)

  pub configured_since : (config own : Config) → own ≡ config → LeavesOnly moment left old mid (IsConfigured config) → LeavesOnly moment left mid new (IsConfigured own)
      → LeavesOnly moment left old new (IsConfigured config)
  configured_since config own same first next =
      made_configured config first (subst (λ (k : Config). LeavesOnly moment left mid new (IsConfigured k)) same next)
