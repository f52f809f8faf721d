-- Calls of the disk that only look, one behind the other.
use Rattle.std.proofs.Common.{ℕ, ◌≤◌}
use Rattle.disk_model.specs.Disk.{Files, Same, Goes, Looks}
use Rattle.disk_model.proofs.Moments.{not_yet, looks_on}

module _ {D : Type 0} (honest : D → Type 0) (seen : D → Files) (moment : D → ℕ) (left : D → ℕ → Files → Type 0)
    (earlier : (disk : D) (s t : ℕ) (files : Files) → s ≤ t → left disk t files → left disk s files) where
  -- one call that only looks
  pub record Look (old new : D) : Type 0 where
    pub stays : honest old → Same (seen old) (seen new)
    pub goes : honest old → Goes moment left old new Same

  look_on : (first old new : D) → (honest first → Looks moment left seen first old) → (honest first → honest old) → Look old new → honest first → Looks moment left seen first new
  look_on first old new looked still look is =
      let there = still is in
      looks_on moment left seen first old new (earlier old) (looked is) (look.stays there) (look.goes there)

  pub looks_once : (d0 d1 : D) → Look d0 d1 → honest d0 → Looks moment left seen d0 d1
  looks_once d0 d1 first is = look_on d0 d0 d1 (λ i. not_yet moment left seen d0) (λ i. i) first is

  pub looks_twice : (d0 d1 d2 : D) → Look d0 d1 → (honest d0 → honest d1) → Look d1 d2 → honest d0 → Looks moment left seen d0 d2
  looks_twice d0 d1 d2 first still second is = look_on d0 d1 d2 (λ h. looks_once d0 d1 first h) still second is

  pub looks_thrice : (d0 d1 d2 d3 : D) → Look d0 d1 → (honest d0 → honest d1) → Look d1 d2 → (honest d1 → honest d2) → Look d2 d3 → honest d0 → Looks moment left seen d0 d3
  looks_thrice d0 d1 d2 d3 first still second then third is =
      look_on d0 d2 d3 (λ h. looks_twice d0 d1 d2 first still second h) (λ h. then (still h)) third is
