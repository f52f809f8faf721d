-- Bytes that are put into a file, wherever their place lies.
use Rattle.std.proofs.Common.{◌≡◌, inl, inr, ℕ, ◌+◌, ◌-◌, ◌≤◌, min, List, [], ◌++◌, length, drop, replicate, sym, ◌∙◌, ap, arith}
use Rattle.std.proofs.lemmas.List.{take_all, drop_all, append-nil}
use Rattle.std.proofs.lemmas.Bool.{cases_lt}
use Rattle.disk_model.specs.Disk.{put}
use Rattle.trial_disk.specs.Choices.{placed}

pub placed_within : (at : ℕ) (bytes old : List ℕ) → at ≤ length old → placed at bytes old ≡ put at bytes old
placed_within at bytes old within =
    let none : at - length old ≡ 0 = omega (arith, within) in
    ap (λ n. put at bytes (old ++ replicate n 0)) none ∙ ap (λ l. put at bytes l) (append-nil old)

pub put_past : (at : ℕ) (bytes old : List ℕ) → length old ≤ at → put at bytes old ≡ old ++ bytes ++ []
put_past at bytes old past = ap (λ l. l ++ bytes ++ drop (at + length bytes) old) (take_all at old past) ∙ ap (λ l. old ++ bytes ++ l) (drop_all (at + length bytes) old (omega (arith, past)))

pub put_min : (at : ℕ) (bytes old : List ℕ) → placed (min at (length old)) bytes old ≡ put at bytes old
put_min at bytes old = elim (cases_lt at (length old)) [
  | inl within ↦
      let is : min at (length old) ≡ at = omega (arith, within) in
      ap (λ k. placed k bytes old) is ∙ placed_within at bytes old (omega (arith, within))
  | inr past ↦
      let is : min at (length old) ≡ length old = omega (arith, past) in
      ap (λ k. placed k bytes old) is ∙ placed_within (length old) bytes old (omega arith) ∙ put_past (length old) bytes old (omega arith) ∙ sym (put_past at bytes old past)
]
