-- What an opening asks of a directory: the first file, and then the second, each once.
use Rattle.std.specs.Prelude.{◌≡◌, ℕ, List}
use Rattle.disk_model.specs.declared.disk.FileId.{FileId}
use Rattle.disk_model.specs.declared.disk.FileId.TheVariants.{A, B}
use Rattle.file_disk.specs.declared.directory.Left.{Left}
use Rattle.file_disk.specs.declared.directory.Left.TheVariants as left
use Rattle.file_disk.specs.Prepared.{IsLeft, IsPrepared}

module _ {D F : Type 0} (gives : D → FileId → F → D → Type 0) where
  -- It gave these two files, and no other.
  pub record GivesBoth (old new : D) (a b : F) : Type 0 where
    pub between : D
    pub first : gives old A a between
    pub second : gives between B b new

  module _ (honest : F → Type 0) (holds : F → List ℕ) (leaves : F → List ℕ → Type 0) where
    -- It gave two files, and both were prepared.
    pub record GivesPrepared (lacks_space : F → Type 0) (room : ℕ) (old new : D) (a b : F) : Type 0 where
      pub found_a : F
      pub found_b : F
      pub gave : GivesBoth old new found_a found_b
      pub first : IsPrepared honest holds leaves lacks_space room found_a a
      pub second : IsPrepared honest holds leaves lacks_space room found_b b

    -- It gave as many files as are handed back, and each of them is left so.
    abbrev pub GivesLeft : D → D → Left F → Type 0
    GivesLeft old new left.Neither = new ≡ old
    GivesLeft old new (left.First a) = (found : F) × gives old A found new
        × IsLeft honest holds leaves found a
    GivesLeft old new (left.Both a b) = (found_a : F) × (found_b : F) × GivesBoth old new found_a found_b
        × IsLeft honest holds leaves found_a a × IsLeft honest holds leaves found_b b
