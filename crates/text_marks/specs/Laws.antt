-- What holds of every report.
use Rattle.std.specs.Prelude.{◌≡◌, ℕ, ◌+◌, ◌-◌, ◌<◌, ◌≤◌, ◌^◌, ◌++◌, false, true, length, slice_index}
use Rattle.text_marks.specs.Lines.{Text, is_newline, line_front, line_rest, marked}

-- however long a line is, it takes few bytes to show it with its mark
abbrev pub MarksAreShort : Type 0
MarksAreShort = (text : Text) (at : ℕ) → length text < 2 ^ 63 → length (marked text at) ≤ 306

-- this part of the text, in which the place stands, has no newline, and stands between newlines or ends of the text
pub record IsWithinLine (text front rest before behind : Text) (at : ℕ) : Type 0 where
  pub whole : text ≡ before ++ front ++ rest ++ behind
  pub place : length before + length front ≡ at
  pub one_line : (k : ℕ) → k < length (front ++ rest)
      → is_newline (slice_index (front ++ rest) k) ≡ false
  pub begins : 0 < length before → is_newline (slice_index before (length before - 1)) ≡ true
  pub ends : 0 < length behind → is_newline (slice_index behind 0) ≡ true

-- what is shown is a whole line of the text, and the place is in it
abbrev pub TheLineHoldsThePlace : Type 0
TheLineHoldsThePlace =
    (text : Text) (at : ℕ) → at ≤ length text
    → (before : Text) × (behind : Text)
    × IsWithinLine text (line_front text at) (line_rest text at) before behind at
