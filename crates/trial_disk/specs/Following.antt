-- The invariant of a loop: how far a reading of a record has come. No public clause cites this module.
use Rattle.std.specs.Prelude.{◌≡◌, ℕ, ◌%◌, List, length}
use Rattle.trial_disk.specs.Recorded.{Since, read_after}
use Rattle.trial_disk.specs.Choices.{chosen}

-- for one file and one choice: what a read gives, what a crash leaves, and the number of the next write, modulo 64
pub record Follows (choice : ℕ) (since : Since) (read left : List ℕ) (number : ℕ) : Type 0 where
  pub read_is : read ≡ read_after since.writes since.base
  pub left_is : left ≡ chosen choice since.writes since.base
  pub number_is : number ≡ length since.writes % 64
