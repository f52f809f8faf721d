-- Proofs, no definitions: for a disk that keeps a record of its calls, what a read gives may be left by a crash, and
-- what a crash since a moment might have left, one since an earlier moment might have left too.
-- They stand here since an `impl` of `Disk` can name nothing of proofs/. No public clause cites this module.
use Rattle.std.specs.Prelude.{◌≡◌, ◌⊎◌, ℕ, ◌+◌, ◌-◌, ◌<◌, ◌≤◌, List, [], ◌∷◌, ◌++◌, length, take, drop, get_or, refl}
use Rattle.std.proofs.Common.{inl, inr, sym, ◌∙◌, ap, subst, arith, length-append, length-take, length-drop, append_assoc}
use Rattle.std.proofs.lemmas.List.{take_all, length-take-le, get_or_at, get_or_append_left, get_or-append_right, get_or-take, get_or-drop, get_or_past}
use Rattle.std.proofs.lemmas.Bool.{cases_lt}
use Rattle.disk_model.specs.Disk.{Files, Torn, put}
use Rattle.trial_disk.specs.Recorded.{Patch, Done, History, MayLeave, LeftAfter, LeftSince, since, reads, read_after}

pub put_outside : (at : ℕ) (bytes old : List ℕ) (k : ℕ) → k < length old
    → (k < at) ⊎ (at + length bytes ≤ k) → get_or (put at bytes old) k 0 ≡ get_or old k 0
put_outside at bytes old k lt where_is =
    let front = take at old in
    let rest = drop (at + length bytes) old in
    let size_front = length-take at old in
    let size = length-append front bytes in
    elim where_is [
      | inl below ↦ get_or_append_left (front ++ bytes) rest 0 k (omega (arith, size, size_front, lt, below)) ∙ get_or_append_left front bytes 0 k (omega (arith, size_front, lt, below)) ∙ get_or-take at old k 0 below
      | inr beyond ↦ get_or-append_right (front ++ bytes) rest (at + length bytes) k 0 (omega (arith, size, size_front, lt, beyond)) beyond ∙ get_or-drop (at + length bytes) old (k - (at + length bytes)) 0 ∙ ap (λ i. get_or old i 0) (omega (arith, beyond))
    ]

pub put_longer : (at : ℕ) (bytes old : List ℕ) → length old ≤ length (put at bytes old)
put_longer at bytes old =
    let front = take at old in
    omega (arith, length-append (front ++ bytes) (drop (at + length bytes) old), length-append front bytes, length-take at old, length-drop (at + length bytes) old)

pub put_first : (at : ℕ) (byte : ℕ) (old : List ℕ) → at ≤ length old
    → get_or (put at (byte ∷ []) old) at 0 ≡ byte
put_first at byte old within =
    ap (λ l. get_or l at 0) (append_assoc (take at old) (byte ∷ []) (drop (at + 1) old)) ∙ get_or_at (take at old) byte (drop (at + 1) old) 0 at (length-take-le at old within)

put_past_end : (at : ℕ) (byte : ℕ) (old : List ℕ) → length old < at
    → get_or (put at (byte ∷ []) old) at 0 ≡ 0
put_past_end at byte old past = get_or_past (put at (byte ∷ []) old) at 0 (omega (arith, past, length-append (take at old ++ byte ∷ []) (drop (at + 1) old), length-append (take at old) (byte ∷ []), length-take at old, length-drop (at + 1) old))

-- what a write makes is one of its outcomes
pub torn_put : (at : ℕ) (bytes old : List ℕ) → Torn at bytes old (put at bytes old)
torn_put at bytes old = record {
  no_shorter = put_longer at bytes old;
  outside = λ k lt where_is. put_outside at bytes old k lt where_is;
  closing = λ is one. absurd (zero_there is one);
}
  where
    zero_there : bytes ≡ 0 ∷ [] → get_or (put at bytes old) at 0 ≡ 1 → ⊥
    zero_there is one =
        let e : get_or (put at (0 ∷ []) old) at 0 ≡ 1 = subst (λ (b : List ℕ). get_or (put at b old) at 0 ≡ 1) is one in
        elim (cases_lt at (length old + 1)) [
          | inl within ↦ let z : get_or (put at (0 ∷ []) old) at 0 ≡ 0 = put_first at 0 old (omega (arith, within)) in omega (arith, z, e)
          | inr past ↦ let z : get_or (put at (0 ∷ []) old) at 0 ≡ 0 = put_past_end at 0 old (omega (arith, past)) in omega (arith, z, e)
        ]

pub may_read : (writes : List Patch) (base : List ℕ) → MayLeave writes base (read_after writes base)
may_read [] base = refl
may_read (w ∷ earlier) base =
    (read_after earlier base, may_read earlier base, torn_put w.at w.bytes (read_after earlier base))

pub now_is : (h : History) (files : Files) → LeftAfter h h.done files
    → LeftSince h (length h.done) files
now_is h files left = (length h.done, omega arith, omega arith, subst (λ (l : List Done). LeftAfter h l files) (sym (take_all (length h.done) h.done (omega arith))) left)

pub reads_left : (h : History) → LeftSince h (length h.done) (reads h)
reads_left h =
    now_is h (reads h) (λ file. may_read (since h h.done file).writes (since h h.done file).base)

pub left_earlier : (h : History) (s t : ℕ) (files : Files) → s ≤ t → LeftSince h t files
    → LeftSince h s files
left_earlier h s t files le left = (left.0, omega (arith, le, left.1), left.2, left.3)
