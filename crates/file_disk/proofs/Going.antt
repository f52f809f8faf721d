-- A call of one of two files goes as the disk model says.
use Rattle.std.proofs.Common.{◌≡◌, ◌≢◌, inl, inr, ℕ, zero, suc, ◌+◌, ◌≤◌, List, [], ◌∷◌, ◌++◌, length, refl, sym, ◌∙◌, ap, subst, arith, length-append}
use Rattle.std.specs.Prelude.{get_or}
use Rattle.std.proofs.lemmas.List.{get_or_past}
use Rattle.std.proofs.lemmas.Bool.{cases_lt}
use Rattle.disk_model.specs.declared.disk.FileId.{FileId}
use Rattle.disk_model.specs.declared.disk.FileId.TheVariants.{A, B}
use Rattle.disk_model.specs.Disk.{Files, Same, Torn, TornIn, Goes, other, pair}
use Rattle.disk_model.proofs.Moments.{written_nothing, written_same}
use Rattle.file_disk.specs.OneFile.{NoMore, LeavesBy}
use Rattle.file_disk.specs.Filed.{TwoFiles, Filed, Asks, file_of, at_moment, OfBoth, both_hold, moment_of, LeavesBoth, LeftSince}

module _ {P : Type 0} where
  before_push : (past : List P) (p d : P) (k : ℕ) → k ≤ length past → get_or (past ++ p ∷ []) k d ≡ get_or past k p
  before_push [] p d zero le = refl
  before_push [] p d (suc k) le = absurd (omega (arith, le))
  before_push (x ∷ past) p d zero le = refl
  before_push (x ∷ past) p d (suc k) le = before_push past p d k (omega (arith, le))

module _ {F : Type 0} (honest : F → Type 0) (holds : F → List ℕ) (leaves : F → List ℕ → Type 0) where
  abbrev now_of : Filed F → F × F
  now_of disk = (disk.files.a, disk.files.b)

  abbrev Pushed : Filed F → Filed F → Type 0
  Pushed old new = new.files.past ≡ old.files.past ++ now_of old ∷ []

  longer : (old new : Filed F) → Pushed old new → length new.files.past ≡ length old.files.past + 1
  longer old new pushed = ap length pushed ∙ length-append old.files.past (now_of old ∷ [])

  at_before : (old new : Filed F) → Pushed old new → (k : ℕ) → k ≤ length old.files.past → at_moment new.files k ≡ at_moment old.files k
  at_before old new pushed k le = ap (λ (l : List (F × F)). get_or l k (now_of new)) pushed ∙ before_push old.files.past (now_of old) (now_of new) k le

  at_last : (disk : Filed F) (k : ℕ) → length disk.files.past ≤ k → at_moment disk.files k ≡ now_of disk
  at_last disk k le = get_or_past disk.files.past k (now_of disk) le

  moved : (p q : F × F) (files : Files) → p ≡ q → LeavesBoth leaves p files → LeavesBoth leaves q files
  moved p q files is left = subst (λ (both : F × F). LeavesBoth leaves both files) is left

  -- a call goes by a step where what both may leave goes by it
  goes : (old new : Filed F) (Step : Files → Files → Type 0) → Pushed old new
      → ((files : Files) → LeavesBoth leaves (now_of new) files → (before : Files) × LeavesBoth leaves (now_of old) before × Step before files)
      → Goes moment_of (LeftSince leaves) old new Step
  goes old new Step pushed leads =
      let size = longer old new pushed in
      record {
        later = omega (arith, size);
        now = λ files left.
            let from = leads files (moved (at_moment new.files left.0) (now_of new) files (at_last new left.0 left.1) left.2) in
            (from.0, (length old.files.past, omega arith, moved (now_of old) (at_moment old.files (length old.files.past)) from.0 (sym (at_last old (length old.files.past) (omega arith))) from.1), from.2);
        nothing_else = λ t files le left. elim (cases_lt (length old.files.past) left.0) [
          | inl past ↦ inr (left.0, omega (arith, size, past), left.2)
          | inr within ↦ inl (left.0, left.1, moved (at_moment new.files left.0) (at_moment old.files left.0) files (at_before old new pushed left.0 within) left.2)
        ];
        keeps = λ t files le left. elim (cases_lt (length old.files.past) left.0) [
          | inl past ↦
              let last = length old.files.past in
              let is : at_moment old.files left.0 ≡ at_moment new.files last = at_last old left.0 (omega (arith, past)) ∙ sym (at_last old last (omega arith)) ∙ sym (at_before old new pushed last (omega arith)) in
              (last, le, moved (at_moment old.files left.0) (at_moment new.files last) files is left.2)
          | inr within ↦ (left.0, left.1, moved (at_moment old.files left.0) (at_moment new.files left.0) files (sym (at_before old new pushed left.0 within)) left.2)
        ];
      }

  both_same : (old new : Filed F) (file : FileId) → NoMore honest holds leaves (file_of old.files file) (file_of new.files file) → file_of new.files (other file) ≡ file_of old.files (other file)
      → (files : Files) → LeavesBoth leaves (now_of new) files → (before : Files) × LeavesBoth leaves (now_of old) before × Same before files
  both_same old new A more stays files left = (files, (more (files A) left.0, subst (λ (f : F). leaves f (files B)) stays left.1), λ file. refl)
  both_same old new B more stays files left = (files, (subst (λ (f : F). leaves f (files A)) stays left.0, more (files B) left.1), λ file. refl)

  both_torn : (old new : Filed F) (file : FileId) (at : ℕ) (bytes : List ℕ) → LeavesBy honest holds leaves (Torn at bytes) (file_of old.files file) (file_of new.files file)
      → file_of new.files (other file) ≡ file_of old.files (other file)
      → (files : Files) → LeavesBoth leaves (now_of new) files → (before : Files) × LeavesBoth leaves (now_of old) before × TornIn file at bytes before files
  both_torn old new A at bytes by stays files left =
      let from = by (files A) left.0 in
      (pair from.0 (files B), (from.1, subst (λ (f : F). leaves f (files B)) stays left.1), record { here = from.2; elsewhere = others })
    where
      others : (another : FileId) → another ≢ A → files another ≡ pair (by (files A) left.0).0 (files B) another
      others A ne = absurd (ne refl)
      others B ne = refl
  both_torn old new B at bytes by stays files left =
      let from = by (files B) left.1 in
      (pair (files A) from.0, (subst (λ (f : F). leaves f (files A)) stays left.0, from.1), record { here = from.2; elsewhere = others })
    where
      others : (another : FileId) → another ≢ B → files another ≡ pair (files A) (by (files B) left.1).0 another
      others A ne = refl
      others B ne = absurd (ne refl)

  is_honest : (disk : Filed F) (file : FileId) → OfBoth honest disk → honest (file_of disk.files file)
  is_honest disk A is = is.0
  is_honest disk B is = is.1

  room : (disk : Filed F) (file : FileId) (at : ℕ) → at ≤ length (both_hold holds disk file) → at ≤ length (holds (file_of disk.files file))
  room disk A at le = le
  room disk B at le = le

  pub goes_looks : (old new : Filed F) (file : FileId) → Asks (λ (o n : F). honest o → NoMore honest holds leaves o n) file old.files new.files → OfBoth honest old
      → Goes moment_of (LeftSince leaves) old new Same
  goes_looks old new file asked is = goes old new Same asked.past (both_same old new file (asked.here (is_honest old file is)) asked.elsewhere)

  pub goes_writes : (old new : Filed F) (file : FileId) (at : ℕ) (bytes : List ℕ)
      → Asks (λ (o n : F). honest o → at ≤ length (holds o) → LeavesBy honest holds leaves (Torn at bytes) o n) file old.files new.files
      → (OfBoth honest old → at ≤ length (both_hold holds old file)) → OfBoth honest old
      → Goes moment_of (LeftSince leaves) old new (TornIn file at bytes)
  goes_writes old new file at bytes asked within is =
      goes old new (TornIn file at bytes) asked.past (both_torn old new file at bytes (asked.here (is_honest old file is) (room old file at (within is))) asked.elsewhere)

  -- ---- no file was asked

  abbrev LeftOf : TwoFiles F → ℕ → Files → Type 0
  LeftOf two t files = (k : ℕ) × (t ≤ k) × LeavesBoth leaves (at_moment two k) files

  pub goes_nowhere : (old new : Filed F) (Step : Files → Files → Type 0) → new.files ≡ old.files → ((files : Files) → Step files files) → Goes moment_of (LeftSince leaves) old new Step
  goes_nowhere old new Step same stays =
      let size : length new.files.past ≡ length old.files.past = ap (λ (two : TwoFiles F). length two.past) same in
      record {
        later = omega (arith, size);
        now = λ files left.
            (files, subst (λ (two : TwoFiles F). LeftOf two (length two.past) files) same left, stays files);
        nothing_else = λ t files le left. inl (subst (λ (two : TwoFiles F). LeftOf two t files) same left);
        keeps = λ t files le left. subst (λ (two : TwoFiles F). LeftOf two t files) (sym same) left;
      }

  pub same_holds : (old new : Filed F) → new.files ≡ old.files → Same (both_hold holds old) (both_hold holds new)
  same_holds old new same A = ap (λ (two : TwoFiles F). holds two.a) same
  same_holds old new same B = ap (λ (two : TwoFiles F). holds two.b) same

  pub torn_nowhere : (old new : Filed F) (file : FileId) (at : ℕ) (bytes : List ℕ) → new.files ≡ old.files → TornIn file at bytes (both_hold holds old) (both_hold holds new)
  torn_nowhere old new file at bytes same =
      written_same file at bytes (both_hold holds old) (both_hold holds old) (both_hold holds new) (written_nothing file at bytes (both_hold holds old)) (same_holds old new same)

  -- ---- what a read gives behind a sync

  pub outcome_left : (reads : (f : F) → honest f → leaves f (holds f)) (old new : Filed F) (file : FileId)
      → Asks (λ (o n : F). honest o → leaves o (holds n)) file old.files new.files → OfBoth honest old
      → LeftSince leaves old (moment_of old) (both_hold holds new)
  outcome_left reads old new A asked is =
      let last = length old.files.past in (
        last,
        omega arith,
        moved (now_of old) (at_moment old.files last) (both_hold holds new) (sym (at_last old last (omega arith)))
            (asked.here is.0, subst (λ (f : F). leaves old.files.b (holds f)) (sym asked.elsewhere) (reads old.files.b is.1)),
      )
  outcome_left reads old new B asked is =
      let last = length old.files.past in (
        last,
        omega arith,
        moved (now_of old) (at_moment old.files last) (both_hold holds new) (sym (at_last old last (omega arith)))
            (subst (λ (f : F). leaves old.files.a (holds f)) (sym asked.elsewhere) (reads old.files.a is.0), asked.here is.1),
      )
