-- What is found beside the file of the greatest generation.
use Rattle.std.proofs.Common.{◌≡◌, inl, inr, ℕ, List, refl, sym, ap, subst, ◌∙◌, arith}
use Rattle.std.proofs.lemmas.Bool.{cases_lt}
use Rattle.std.specs.Prelude.{Bool, true, false, Option, Some, None}
use Rattle.disk_model.specs.declared.disk.FileId.{FileId}
use Rattle.disk_model.specs.declared.disk.FileId.TheVariants.{A, B}
use Rattle.durable.specs.Coding.{Heading}
use Rattle.durable.specs.Entering.{Durable, empty}
use Rattle.disk_model.specs.Disk.{pair}
use Rattle.durable.specs.Recovery.{Found, Finds, IsActive, IsOlder, IsOpen, behind}
use Rattle.durable.proofs.Headed.{headed_open, headed_once}
use Rattle.diagnosis.specs.Reading.{greatest, HasNoFront}
use Rattle.diagnosis.specs.Probing.{HasFront, IsProbe, Tells, TellsFront}
use Rattle.diagnosis.proofs.Alone.{is_open}

-- no file is newer than that one
beside_active : (beside file : List ℕ) (probe : IsProbe beside) (f : FileId) (h : Heading) (d : Durable) (end : ℕ) → IsActive (pair beside file) f h d end → IsOpen file → HasFront file
beside_active beside file probe A h d end active opened =
    let older = active.1 opened in
    let same : h.generation ≡ greatest = ap (λ (x : Heading). x.generation) (headed_once beside h probe.0 active.0.headed probe.2.headed) ∙ probe.3 in
    (older.0, older.1, omega (arith, older.2, same))
beside_active beside file probe B h d end active opened =
    let older = active.1 (headed_open beside probe.0 probe.2.headed) in
    let same : older.0.generation ≡ greatest = ap (λ (x : Heading). x.generation) (headed_once beside older.0 probe.0 older.1 probe.2.headed) ∙ probe.3 in
    absurd (omega (arith, older.2, same, active.0.headed.whole.generation))

pub found_front : (beside file : List ℕ) → IsProbe beside → (found : Option Found) → Finds (pair beside file) found → IsOpen file → HasFront file
found_front beside file probe None none opened = absurd (none.1 opened)
found_front beside file probe (Some x) found opened = beside_active beside file probe x.file found.heading x.state x.end found.active opened

-- the file of the greatest generation is found where the other one is older
found_beside : (beside file : List ℕ) (probe : IsProbe beside) → IsOlder greatest file → (found : Option Found) × Finds (pair beside file) found
found_beside beside file probe older =
    let h = probe.0 in (
      Some (record { file = A; version = h.version; generation = h.generation; config = h.config; state = empty; start = behind h; end = probe.1 }),
      record { heading = h; active = (probe.2, subst (λ (n : ℕ). IsOlder n file) (sym probe.3) older); version = refl; generation = refl; config = refl; start = refl },
    )

pub nothing_front : (beside file : List ℕ) → IsProbe beside → ((found : Option Found) → ¬ Finds (pair beside file) found) → IsOpen file × HasNoFront file
nothing_front beside file probe none = (
  is_open file (λ closed. let found = found_beside beside file probe (λ opened. absurd (closed opened)) in none found.0 found.1),
  λ h headed. elim (cases_lt h.generation greatest) [
    | inl less ↦ let found = found_beside beside file probe (λ opened. (h, headed, less)) in absurd (none found.0 found.1)
    | inr least ↦ omega (arith, least, headed.whole.generation)
  ],
)

pub tells_front : (beside file : List ℕ) → IsProbe beside → (found : Bool) → Tells (pair beside file) found → TellsFront file found
tells_front beside file probe true told = λ opened. found_front beside file probe told.0 told.1 opened
tells_front beside file probe false told = nothing_front beside file probe told
