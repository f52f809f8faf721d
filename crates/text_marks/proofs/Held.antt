-- The line that holds a place is a part of the text between newlines.
use Rattle.std.proofs.Common.{◌≡◌, ◌∙◌, ℕ, ◌+◌, ◌-◌, ◌<◌, ◌≤◌, Bool, true, false, not, List, ◌++◌, length, take, drop, get_or, reverse, refl, sym, ap, inl, inr, append_assoc, length-append, length-drop, arith}
use Rattle.std.specs.List.{after_last, before_first, position_or_len, suffix_len}
use Rattle.std.proofs.lemmas.List.{take-append-drop, length-take-le, get_or-drop, get_or-take, get_or_append_left, get_or-append-add, get_or-reverse, length-reverse}
use Rattle.std.proofs.lemmas.List.Sums.{fails_before_first, passes_at_first, prefix_len_passes, prefix_len_stops, suffix_len-le-length}
use Rattle.std.proofs.lemmas.List.Folds.{length-prefix_len}
use Rattle.std.proofs.lemmas.Bool.{cases_lt}
use Rattle.text_marks.specs.Lines.{Text, is_newline, line_front, line_rest}
use Rattle.text_marks.specs.Laws.{IsWithinLine}

not_true : (b : Bool) → not b ≡ true → b ≡ false
not_true true h = sym h
not_true false h = refl

-- what stands behind the last that passes fails
fails_behind_last : (p : ℕ → Bool) (bytes : List ℕ) (k : ℕ) → k < length (after_last p bytes) → p (get_or (after_last p bytes) k 0) ≡ false
fails_behind_last p bytes k h =
    let n = suffix_len (λ x. not (p x)) bytes in
    let most = suffix_len-le-length (λ x. not (p x)) bytes in
    let start = length bytes - n in
    let long = length-drop start bytes in
    let place : ℕ = length bytes - 1 - (start + k) in
    let within : place < n = omega (arith, long, most) in
    let passes = prefix_len_passes (λ x. not (p x)) (reverse bytes) place 0 within in
    let inside : place < length bytes = omega (arith, within, most) in
    let mirrored = get_or-reverse bytes place 0 inside in
    let back : length bytes - 1 - place ≡ start + k = omega (arith, long, most) in
    let same : get_or (reverse bytes) place 0 ≡ get_or (drop start bytes) k 0 = mirrored ∙ ap (λ i. get_or bytes i 0) back ∙ sym (get_or-drop start bytes k 0) in
    not_true (p (get_or (after_last p bytes) k 0)) (ap (λ b. not (p b)) (sym same) ∙ passes)

-- what stands before the first that passes fails
fails_in_front : (p : ℕ → Bool) (bytes : List ℕ) (k : ℕ) → k < length (before_first p bytes) → p (get_or (before_first p bytes) k 0) ≡ false
fails_in_front p bytes k h =
    let below : k < position_or_len p bytes = omega (arith, length-prefix_len (λ x. not (p x)) bytes) in
    ap p (get_or-take (position_or_len p bytes) bytes k 0 below) ∙ fails_before_first p bytes k 0 below

fails_along :
    (p : ℕ → Bool) (front rest : List ℕ)
    → ((k : ℕ) → k < length front → p (get_or front k 0) ≡ false) → ((k : ℕ) → k < length rest → p (get_or rest k 0) ≡ false)
    → (k : ℕ) → k < length (front ++ rest) → p (get_or (front ++ rest) k 0) ≡ false
fails_along p front rest f r k h =
    elim (cases_lt k (length front)) [
      | inl lt ↦ ap p (get_or_append_left front rest 0 k lt) ∙ f k lt
      | inr le ↦
          let far : k - length front < length rest = omega (arith, length-append front rest) in
          let there : k ≡ length front + (k - length front) = omega arith in
          ap (λ i. p (get_or (front ++ rest) i 0)) there ∙ ap p (get_or-append-add front rest (k - length front) 0) ∙ r (k - length front) far
    ]

not_false : (b : Bool) → not b ≡ false → b ≡ true
not_false true h = refl
not_false false h = sym h

-- the last that passes stands in front of what is behind it
passes_last :
    (p : ℕ → Bool) (bytes : List ℕ) (start : ℕ) → start ≡ length bytes - suffix_len (λ x. not (p x)) bytes → 0 < length (take start bytes)
    → p (get_or (take start bytes) (length (take start bytes) - 1) 0) ≡ true
passes_last p bytes start is some =
    let n = suffix_len (λ x. not (p x)) bytes in
    let most = suffix_len-le-length (λ x. not (p x)) bytes in
    let long : length (take start bytes) ≡ start = length-take-le start bytes (omega (arith, is)) in
    let early : n < length bytes = omega (arith, is, long, most) in
    let turned : n < length (reverse bytes) = omega (arith, early, length-reverse bytes) in
    let stops = prefix_len_stops (λ x. not (p x)) (reverse bytes) 0 turned in
    let mirrored = get_or-reverse bytes n 0 early in
    let back : length bytes - 1 - n ≡ length (take start bytes) - 1 = omega (arith, is, long, early) in
    let low : length (take start bytes) - 1 < start = omega (arith, long, some) in
    let same : get_or (reverse bytes) n 0 ≡ get_or (take start bytes) (length (take start bytes) - 1) 0 =
    mirrored ∙ ap (λ i. get_or bytes i 0) back ∙ sym (get_or-take start bytes (length (take start bytes) - 1) 0 low) in
    not_false (p (get_or (take start bytes) (length (take start bytes) - 1) 0)) (ap (λ b. not (p b)) (sym same) ∙ stops)

-- the first that passes stands behind what is in front of it
passes_first :
    (p : ℕ → Bool) (bytes : List ℕ) → 0 < length (drop (position_or_len p bytes) bytes) → p (get_or (drop (position_or_len p bytes) bytes) 0 0) ≡ true
passes_first p bytes some =
    let within : position_or_len p bytes < length bytes = omega (arith, length-drop (position_or_len p bytes) bytes) in
    let there : position_or_len p bytes + 0 ≡ position_or_len p bytes = omega arith in
    ap p (get_or-drop (position_or_len p bytes) bytes 0 0 ∙ ap (λ i. get_or bytes i 0) there) ∙ passes_at_first p bytes 0 within

pub held :
    (text : Text) (at : ℕ) → at ≤ length text
    → (before : Text) × (behind : Text) × IsWithinLine text (line_front text at) (line_rest text at) before behind at
held text at h =
    let ahead = take at text in
    let behind = drop at text in
    let start = length ahead - suffix_len (λ x. not (is_newline x)) ahead in
    let end = position_or_len is_newline behind in
    let left : take start ahead ++ drop start ahead ≡ ahead = take-append-drop start ahead in
    let right : take end behind ++ drop end behind ≡ behind = take-append-drop end behind in
    let whole : text ≡ take start ahead ++ line_front text at ++ line_rest text at ++ drop end behind =
    sym (take-append-drop at text) ∙ ap (λ t. t ++ behind) (sym left) ∙ ap (λ t. (take start ahead ++ drop start ahead) ++ t) (sym right)
    ∙ sym (append_assoc (take start ahead ++ drop start ahead) (take end behind) (drop end behind)) in
    let place : length (take start ahead) + length (line_front text at) ≡ at =
    sym (length-append (take start ahead) (drop start ahead)) ∙ ap length left ∙ length-take-le at text h in (
      take start ahead,
      drop end behind,
      record {
        whole = whole;
        place = place;
        one_line = fails_along is_newline (line_front text at) (line_rest text at) (fails_behind_last is_newline ahead) (fails_in_front is_newline behind);
        begins = passes_last is_newline ahead start refl;
        ends = passes_first is_newline behind;
      },
    )
