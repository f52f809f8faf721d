-- The line of a text that holds a place, as it is shown, and a mark under the place.
use Rattle.std.specs.Prelude.{ℕ, Bool, ◌+◌, ◌-◌, ◌==◌, ◌||◌, ◌&&◌, nat_lt, nat_le, min, List, [], ◌++◌, length, map, take, drop, count_by, codes, decimal, if◌then◌else◌}
use Rattle.std.specs.List.{after_last, before_first}

abbrev pub Text : Type 0
Text = List ℕ

abbrev pub is_newline : ℕ → Bool
is_newline b = b == 10

-- ---- where a place is

-- the number of its line, from 1
abbrev pub line_number : Text → ℕ → ℕ
line_number text at = count_by is_newline (take at text) + 1

-- what stands before it in its line
abbrev pub line_front : Text → ℕ → Text
line_front text at = after_last is_newline (take at text)

-- what stands from it on in its line, without the newline
abbrev pub line_rest : Text → ℕ → Text
line_rest text at = before_first is_newline (drop at text)

-- ---- what is shown

-- the most bytes of a line that are shown
abbrev pub width : ℕ
width = 120

-- how many bytes at the front of a long line aren't shown: the place stands in the middle of what is shown,
-- unless an end of the line is nearer
abbrev pub hidden : Text → Text → ℕ
hidden front rest = min (length front - 60) (length front + length rest - width)

-- printable ASCII and tabs; anything else as `?`
unfoldable pub visible : ℕ → ℕ
visible b = if b == 9 || (nat_le 32 b && nat_le b 126) then b else 63

-- a tab under a tab, and a space under anything else
unfoldable pub under : ℕ → ℕ
under b = if b == 9 then 9 else 32

-- where something is left out
abbrev pub dots_if : Bool → Text
dots_if cut = if cut then codes "..." else []

-- how many bytes are shown from the place on, at most
abbrev pub room : Text → Text → ℕ
room front rest = width - (length front - hidden front rest)

-- what is shown before the place
unfoldable pub lead : ℕ → Text → Text → Text
lead number front rest =
    codes "line " ++ decimal number ++ codes ": " ++ dots_if (nat_lt 0 (hidden front rest))
    ++ map visible (drop (hidden front rest) front)

-- what is shown from the place on
unfoldable pub trail : Text → Text → Text
trail front rest =
    map visible (take (room front rest) rest) ++ dots_if (nat_lt (room front rest) (length rest))

-- the line, and below it the mark, as far from the left as the place
abbrev pub marked_line : Text → Text → Text
marked_line before behind = before ++ behind ++ codes "\n" ++ map under before ++ codes "^\n"

-- of the line that holds the place
abbrev pub marked : Text → ℕ → Text
marked text at =
    marked_line
    (lead (line_number text at) (line_front text at) (line_rest text at))
    (trail (line_front text at) (line_rest text at))
