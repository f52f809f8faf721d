-- What an opening does to two files, in lives.
use Rattle.std.proofs.Common.{ℕ, List, subst, sym}
use Rattle.std.proofs.lemmas.List.{get_or_past}
use Rattle.packet.specs.Config.{Config}
use Rattle.disk_model.specs.Disk.{Files, pair}
use Rattle.disk_model.specs.declared.disk.FileId.TheVariants.{A, B}
use Rattle.durable.specs.Entering.{Durable}
use Rattle.file_disk.specs.Becoming.{BothMayBecome, MayBecome, OpeningsKeepFiles}
use Rattle.file_disk.specs.Filed.{Filed, LeavesBoth, both_hold}
use Rattle.file_disk.specs.Prepared.{IsSynced}
use Rattle.file_disk.proofs.Becomes.{stays}
use Rattle.gateway.specs.Lives.{Life}
use Rattle.commands.specs.Found.{MayBeFound, OpeningsFind}

each-became : (a b : List ℕ) (files : Files) → MayBecome a (files A) → MayBecome b (files B) → BothMayBecome (pair a b) files
each-became a b files first second A = first
each-became a b files first second B = second

module _ {F : Type 0} (honest : F → Type 0) (holds : F → List ℕ) (leaves : F → List ℕ → Type 0) (config : Config) where
  become : (lacks_space : F → Type 0) → OpeningsKeepFiles honest holds leaves lacks_space → (first : Durable) (earlier : List (Life (Filed F))) (before files : Files) → BothMayBecome before files
      → MayBeFound honest holds leaves config first earlier before → MayBeFound honest holds leaves config first earlier files
  become lacks_space keep first earlier before files may found = (found.0, found.1, keep.further found.0 before files found.2 may)

  -- what a crash leaves of synced files is what they read as
  as-read : (disk : Filed F) (files : Files) → IsSynced honest holds leaves disk.files.a → IsSynced honest holds leaves disk.files.b → LeavesBoth leaves (disk.files.a, disk.files.b) files
      → BothMayBecome (both_hold holds disk) files
  as-read disk files a b now A = subst (λ (l : List ℕ). MayBecome (holds disk.files.a) l) (sym (a (files A) now.0)) (stays (holds disk.files.a))
  as-read disk files a b now B = subst (λ (l : List ℕ). MayBecome (holds disk.files.b) l) (sym (b (files B) now.1)) (stays (holds disk.files.b))

  pub found-again : (lacks_space : F → Type 0) → OpeningsKeepFiles honest holds leaves lacks_space → OpeningsFind honest holds leaves config lacks_space
  found-again lacks_space keep = record {
    prepared = λ first earlier room found disk is also a b over files now.
        let was = keep.both room found disk is also a b files now in
        become lacks_space keep first earlier was.0 files was.2 (over was.0 was.1);
    left = λ first earlier found now is also a b over files leave.
        let one = keep.left found.0 now.0 is a (files A) leave.0 in
        let other = keep.left found.1 now.1 also b (files B) leave.1 in
        become lacks_space keep first earlier (pair one.0 other.0) files (each-became one.0 other.0 files one.2 other.2) (over (pair one.0 other.0) (one.1, other.1));
    read = λ room found disk first a b recovers configured files left. (
      both_hold holds disk,
      (recovers, configured),
      as-read disk files a.synced b.synced
          (subst (λ (both : F × F). LeavesBoth leaves both files) (get_or_past disk.files.past left.0 (disk.files.a, disk.files.b) left.1) left.2),
    );
  }
