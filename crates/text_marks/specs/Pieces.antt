-- What stands at a place, as it is named in a report.
use Rattle.std.specs.Prelude.{ℕ, Bool, ◌+◌, ◌==◌, ◌||◌, nat_lt, [], ◌∷◌, ◌++◌, length, map, take, slice_index, codes, if◌then◌else◌}
use Rattle.std.specs.List.{prefix_len}
use Rattle.std.specs.Char.{is_ascii_digit}
use Rattle.ruletokens.specs.Tokens.{is_start, is_word, is_numeral, is_inner}
use Rattle.text_marks.specs.Lines.{Text, visible, dots_if}
use Rattle.text_marks.specs.declared.piece.Run.{Run}
use Rattle.text_marks.specs.declared.piece.Run.TheVariants as run

-- the byte goes on with a name, a number or an address, or what stands between quotes
abbrev pub goes_on : Run → ℕ → Bool
goes_on run.Word b = is_word b
goes_on run.Numeral b = is_numeral b
goes_on run.Inner b = is_inner b

-- how many bytes at the front go on
abbrev pub run_length : Run → Text → ℕ
run_length r bytes = prefix_len (goes_on r) bytes

-- one more where this byte stands behind n others
abbrev pub with_one : ℕ → ℕ → Text → ℕ
with_one wanted n bytes = if slice_index bytes n == wanted then n + 1 else n

-- how many bytes the token has that begins with b, and goes on with some of these: a name, a number or an address,
-- quotes with what they hold, `==` and `!=`, or one byte
abbrev pub length_from : ℕ → Text → ℕ
length_from b bs =
    if is_start b then run_length run.Word bs + 1
    else if is_ascii_digit b then run_length run.Numeral bs + 1
    else if b == 34 then with_one 34 (run_length run.Inner bs) bs + 1
    else if b == 61 || b == 33 then with_one 61 0 bs + 1
    else 1

-- of the token at the front
abbrev pub token_length : Text → ℕ
token_length [] = 0
token_length (b ∷ bs) = length_from b bs

-- the most bytes of a token that are shown
abbrev pub most_shown : ℕ
most_shown = 40

unfoldable pub shortened : Text → Text
shortened token = map visible (take most_shown token) ++ dots_if (nat_lt most_shown (length token))

-- between backquotes
abbrev pub quoted : Text → Text
quoted token = codes "`" ++ shortened token ++ codes "`"

-- the token at the front, or the end that stands there
abbrev pub named : Text → Text
named [] = codes "the end of the text"
named (b ∷ bs) =
    if b == 10 then codes "the end of the line"
    else quoted (take (length_from b bs) (b ∷ bs))
