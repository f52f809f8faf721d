-- What is said of a call by its answer is said of it by that answer without the cause.
use Rattle.std.specs.Prelude.{◌≡◌, ℕ, List, length, take, drop, Result, Ok, Err, OnOk, IfOk}
use Rattle.disk_model.specs.Disk.{put}
use Rattle.std.proofs.Common.{sym, subst}
use Rattle.disk_model.specs.declared.disk.DiskFault.{DiskFault}
use Rattle.disk_model.specs.declared.disk.FileId.{FileId}
use Rattle.file_disk.specs.Filed.{TwoFiles, Asks}
use Rattle.file_disk.specs.OneFile.{KeepsHonest, Looks, Measures, Fills, Puts, Syncs}
use Rattle.file_disk.specs.WithoutCause.{WithoutCause}

module _ {T E : Type 0} where
  on_ok : (r : Result T E) (s : Result T DiskFault) (P : Type 0) → WithoutCause r s → OnOk r P → OnOk s P
  on_ok (Ok x) (Ok y) P is holds = holds
  on_ok (Ok x) (Err f) P is holds = absurd is
  on_ok (Err e) (Ok y) P is holds = absurd is
  on_ok (Err e) (Err f) P is holds = tt

  if_ok : (r : Result T E) (s : Result T DiskFault) (P : T → Type 0) → WithoutCause r s → IfOk r P → IfOk s P
  if_ok (Ok x) (Ok y) P is holds = subst P (sym is) holds
  if_ok (Ok x) (Err f) P is holds = absurd is
  if_ok (Err e) (Ok y) P is holds = absurd is
  if_ok (Err e) (Err f) P is holds = tt

module _ {F : Type 0} (honest : F → Type 0) (holds : F → List ℕ) (leaves : F → List ℕ → Type 0) where
  keeps : {T E : Type 0} (r : Result T E) (s : Result T DiskFault) (old new : F) → WithoutCause r s → KeepsHonest honest holds leaves r old new → KeepsHonest honest holds leaves s old new
  keeps r s old new is k = record { was = k.was; stays = on_ok r s (honest old → honest new) is k.stays }

  looks : {T E : Type 0} (r : Result T E) (s : Result T DiskFault) (old new : F) → WithoutCause r s → Looks honest holds leaves r old new → Looks honest holds leaves s old new
  looks r s old new is l = record { keeps = keeps r s old new is l.keeps; stays = l.stays; crash = l.crash }

  pub measures : {E : Type 0} (r : Result ℕ E) (s : Result ℕ DiskFault) (old new : F) → WithoutCause r s → Measures honest holds leaves r old new → Measures honest holds leaves s old new
  measures r s old new is m = record { looks = looks r s old new is m.looks; measured = λ h. if_ok r s (λ n. n ≡ length (holds old)) is (m.measured h) }

  pub fills : {E : Type 0} (at : ℕ) (into now : List ℕ) (r : Result (Unit {0}) E) (s : Result (Unit {0}) DiskFault) (old new : F) → WithoutCause r s → Fills honest holds leaves at into now r old new
      → Fills honest holds leaves at into now s old new
  fills at into now r s old new is f = record { looks = looks r s old new is f.looks; filled = λ h within. on_ok r s (now ≡ take (length into) (drop at (holds old))) is (f.filled h within) }

  pub puts : {E : Type 0} (at : ℕ) (bytes : List ℕ) (r : Result (Unit {0}) E) (s : Result (Unit {0}) DiskFault) (old new : F) → WithoutCause r s → Puts honest holds leaves at bytes r old new
      → Puts honest holds leaves at bytes s old new
  puts at bytes r s old new is p = record {
    keeps = keeps r s old new is p.keeps;
    written = λ h within. on_ok r s (holds new ≡ put at bytes (holds old)) is (p.written h within);
    torn = p.torn;
    crash = p.crash;
  }

  pub syncs : {E : Type 0} (r : Result (Unit {0}) E) (s : Result (Unit {0}) DiskFault) (old new : F) → WithoutCause r s → Syncs honest holds leaves r old new → Syncs honest holds leaves s old new
  syncs r s old new is p = record {
    keeps = keeps r s old new is p.keeps;
    synced = λ h. on_ok r s ((bytes : List ℕ) → leaves new bytes → bytes ≡ holds new) is (p.synced h);
    stays = λ h. on_ok r s (holds new ≡ holds old) is (p.stays h);
    outcome = p.outcome;
    crash = p.crash;
  }

-- one file was asked, and of the answer more is known then
pub asks_on : {F : Type 0} (P Q : F → F → Type 0) (file : FileId) (old mid new : TwoFiles F) → new ≡ mid → ((o n : F) → P o n → Q o n) → Asks P file old mid → Asks Q file old new
asks_on {F = F} P Q file old mid new same on asked =
    subst (λ (two : TwoFiles F). Asks Q file old two) (sym same) (record { here = on _ _ asked.here; elsewhere = asked.elsewhere; past = asked.past })
