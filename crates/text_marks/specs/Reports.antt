-- What a report is.
use Rattle.std.specs.Prelude.{◌≡◌, ℕ, ◌≤◌, ◌++◌, length, drop, codes}
use Rattle.text_marks.specs.Lines.{Text, marked}
use Rattle.text_marks.specs.Pieces.{named}

-- what stands at the place
unfoldable pub found : Text → Text
found behind = codes "found: " ++ named behind

-- it shows the line of a place of the text with the mark, and then names what stands at that very place
abbrev pub IsReport : Text → Text → Type 0
IsReport text shown =
    (at : ℕ) × (more : Text) × (at ≤ length text)
    × (shown ≡ marked text at ++ found (drop at text) ++ more)
