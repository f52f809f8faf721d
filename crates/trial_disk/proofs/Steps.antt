-- One call more of a record, as the replay hears it.
use Rattle.std.proofs.Common.{◌≡◌, ℕ, suc, ◌+◌, ◌%◌, Bool, true, false, List, [], ◌∷◌, length, sym, ◌∙◌, ap, subst, arith}
use Rattle.std.specs.Prelude.{Result, Ok, Err, OnOk, if◌then◌else◌}
use Rattle.disk_model.specs.declared.disk.FileId.{FileId}
use Rattle.disk_model.specs.Disk.{put}
use Rattle.trial_disk.specs.Recorded.{Since, Wrote, Synced, heard, is_same, read_after}
use Rattle.trial_disk.specs.Choices.{comes, laid}
use Rattle.trial_disk.specs.Following.{Follows}

pub after_write : {T E : Type 0} (choice : ℕ) (file of : FileId) (at : ℕ) (bytes read left new_read new_left : List ℕ) (number new_number : ℕ) → is_same file of ≡ true
    → (r : Result T E) → OnOk r (new_read ≡ put at bytes read)
    → ((n : ℕ) → number ≡ n % 64 → OnOk r (new_left ≡ laid at (comes choice n (record { at = at; bytes = bytes }) left) left))
    → OnOk r (new_number ≡ (number + 1) % 64)
    → OnOk r ((since : Since) → Follows choice since read left number → Follows choice (heard file (Wrote of at bytes) since) new_read new_left new_number)
after_write choice file of at bytes read left new_read new_left number new_number same (Err e) reads leaves counts = tt
after_write choice file of at bytes read left new_read new_left number new_number same (Ok x) reads leaves counts = λ since follows.
    let n = length since.writes in
    subst (λ (b : Bool). Follows choice (if b then record { base = since.base; writes = record { at = at; bytes = bytes } ∷ since.writes } else since) new_read new_left new_number) (sym same) (record {
      read_is = reads ∙ ap (λ l. put at bytes l) follows.read_is;
      left_is = leaves n follows.number_is ∙ ap (λ l. laid at (comes choice n (record { at = at; bytes = bytes }) l) l) follows.left_is;
      number_is = counts ∙ (let e : (number + 1) % 64 ≡ suc n % 64 = omega (arith, follows.number_is) in e);
    })

pub after_sync : {T E : Type 0} (choice : ℕ) (file of : FileId) (read left new_read new_left : List ℕ) (number new_number : ℕ) → is_same file of ≡ true
    → (r : Result T E) → OnOk r (new_read ≡ read) → OnOk r (new_left ≡ read) → OnOk r (new_number ≡ 0)
    → OnOk r ((since : Since) → Follows choice since read left number → Follows choice (heard file (Synced of) since) new_read new_left new_number)
after_sync choice file of read left new_read new_left number new_number same (Err e) reads leaves counts = tt
after_sync choice file of read left new_read new_left number new_number same (Ok x) reads leaves counts = λ since follows.
    subst (λ (b : Bool). Follows choice (if b then record { base = read_after since.writes since.base; writes = [] } else since) new_read new_left new_number) (sym same) (record {
      read_is = reads ∙ follows.read_is;
      left_is = leaves ∙ follows.read_is;
      number_is = counts;
    })

pub after_other : (choice : ℕ) (file of : FileId) (read left : List ℕ) (number : ℕ) → is_same file of ≡ false → (since : Since) → Follows choice since read left number
    → (at : ℕ) (bytes : List ℕ) → Follows choice (heard file (Wrote of at bytes) since) read left number × Follows choice (heard file (Synced of) since) read left number
after_other choice file of read left number other since follows at bytes = (
  subst (λ (b : Bool). Follows choice (if b then record { base = since.base; writes = record { at = at; bytes = bytes } ∷ since.writes } else since) read left number) (sym other) follows,
  subst (λ (b : Bool). Follows choice (if b then record { base = read_after since.writes since.base; writes = [] } else since) read left number) (sym other) follows,
)
