-- Proofs, no definitions: what a read gives may be left by a crash, and what a crash since a moment might have left,
-- one since an earlier moment might have left too. They stand here since an `impl` of `Disk` can name nothing of
-- proofs/.
use Rattle.std.specs.Prelude.{ℕ, ◌≤◌, List, length}
use Rattle.std.proofs.Common.{sym, subst, arith}
use Rattle.std.proofs.lemmas.List.{get_or_past}
use Rattle.disk_model.specs.Disk.{Files}
use Rattle.file_disk.specs.Filed.{Filed, OfBoth, both_hold, moment_of, LeavesBoth, LeftSince}

module _ {F : Type 0} (honest : F → Type 0) (holds : F → List ℕ) (leaves : F → List ℕ → Type 0) where
  pub reads_left : ((file : F) → honest file → leaves file (holds file)) → (disk : Filed F) → OfBoth honest disk
      → LeftSince leaves disk (moment_of disk) (both_hold holds disk)
  reads_left reads disk is =
      (length disk.files.past, omega arith, subst (λ (both : F × F). LeavesBoth leaves both (both_hold holds disk)) (sym (get_or_past disk.files.past (length disk.files.past) (disk.files.a, disk.files.b) (omega arith))) (reads disk.files.a is.0, reads disk.files.b is.1))

  pub left_earlier : (disk : Filed F) (s t : ℕ) (files : Files) → s ≤ t → LeftSince leaves disk t files → LeftSince leaves disk s files
  left_earlier disk s t files le left = (left.0, omega (arith, le, left.1), left.2)
