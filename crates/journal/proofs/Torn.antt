-- What a torn write leaves, as parts of lists.
use Rattle.std.proofs.Common.{◌≡◌, inl, inr, ℕ, ◌+◌, ◌-◌, ◌<◌, ◌≤◌, List, ◌++◌, length, get_or, take, drop, sym, ◌∙◌, ap, arith, length-append, length-take, length-drop, append_assoc, get_or-take, get_or-drop}
use Rattle.std.proofs.lemmas.List.{ext_get_or, get_or_append_left, get_or-append_right, drop_at, take-append-le, take-take, length-take-le}
use Rattle.std.proofs.lemmas.Bool.{cases_lt}
use Rattle.disk_model.specs.Disk.{Torn, put}

-- the bytes before the range
pub torn_before : (at n : ℕ) (bytes old new : List ℕ) → Torn at bytes old new → n ≤ at → n ≤ length old → take n new ≡ take n old
torn_before at n bytes old new torn le short =
    let long = torn.no_shorter in
    ext_get_or
    0
    (take n new)
    (take n old)
    (omega (arith, length-take n new, length-take n old))
    (λ i lt.
    let below : i < n = omega (arith, length-take n new, lt) in
    get_or-take n new i 0 below ∙ torn.outside i (omega arith) (inl (omega arith)) ∙ sym (get_or-take n old i 0 below))

-- the bytes behind it, and what a crash adds at the end
pub torn_behind : (at n : ℕ) (bytes old new : List ℕ) → Torn at bytes old new → at + length bytes ≤ n → n ≤ length old → drop n new ≡ drop n old ++ drop (length old) new
torn_behind at n bytes old new torn le short =
    let long = torn.no_shorter in
    let size : length (drop n old) ≡ length old - n = length-drop n old in
    ext_get_or
    0
    (drop n new)
    (drop n old ++ drop (length old) new)
    (omega (arith, length-drop n new, size, length-drop (length old) new, length-append (drop n old) (drop (length old) new)))
    (λ i lt. elim (cases_lt (n + i) (length old)) [
      | inl within ↦
          get_or-drop n new i 0 ∙ torn.outside (n + i) within (inr (omega arith)) ∙ sym (get_or-drop n old i 0) ∙ sym (get_or_append_left (drop n old) (drop (length old) new) 0 i (omega (arith, size, within)))
      | inr past ↦
          get_or-drop n new i 0
          ∙ ap (λ k. get_or new k 0) (omega (arith, past, size))
          ∙ sym (get_or-drop (length old) new (i - (length old - n)) 0)
          ∙ sym (get_or-append_right (drop n old) (drop (length old) new) (length old - n) i 0 size (omega (arith, past)))
    ])

pub take-put : (at n : ℕ) (bytes old : List ℕ) → n ≤ at → at ≤ length old → take n (put at bytes old) ≡ take n old
take-put at n bytes old le within =
    let size = length-take-le at old within in
    ap (λ l. take n l) (append_assoc (take at old) bytes (drop (at + length bytes) old))
    ∙ take-append-le n (take at old) (bytes ++ drop (at + length bytes) old) (omega (arith, size, le))
    ∙ take-take n at old le

pub drop-put : (at : ℕ) (bytes old : List ℕ) → at ≤ length old → drop at (put at bytes old) ≡ bytes ++ drop (at + length bytes) old
drop-put at bytes old within =
    ap (λ l. drop at l) (append_assoc (take at old) bytes (drop (at + length bytes) old)) ∙ drop_at (take at old) (bytes ++ drop (at + length bytes) old) at (length-take-le at old within)

pub length-put : (at : ℕ) (bytes old : List ℕ) → at ≤ length old → (length old ≤ length (put at bytes old)) × (at + length bytes ≤ length (put at bytes old))
length-put at bytes old within =
    let total = length-append (take at old ++ bytes) (drop (at + length bytes) old) in
    let front = length-append (take at old) bytes in
    (omega (arith, total, front, length-take-le at old within, length-drop (at + length bytes) old), omega (arith, total, front, length-take-le at old within))
