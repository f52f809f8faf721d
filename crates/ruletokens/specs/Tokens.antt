-- The tokens of a text, by longest match.
use Rattle.std.specs.Prelude.{◌≡◌, ◌+◌, ◌-◌, ◌*◌, ℕ, Bool, true, false, not, ◌||◌, ◌&&◌, ◌==◌, nat_le, List, [], ◌∷◌, ◌++◌, length, map, Option, Some, None, IsSome, if◌then◌else◌}
use Rattle.std.specs.List.{list_all}
use Rattle.std.specs.Char.{is_ascii_alphabetic, is_ascii_alphanumeric, is_ascii_digit}
use Rattle.ruletokens.specs.declared.lex.Shape.{Shape}
use Rattle.ruletokens.specs.declared.lex.Shape.TheVariants as shape
use Rattle.ruletokens.specs.declared.lex.Class.{Class}
use Rattle.ruletokens.specs.declared.lex.Class.TheVariants as class
use Rattle.ruletokens.specs.declared.token.Token.{Token}
use Rattle.ruletokens.specs.declared.token.Token.TheVariants.{Name, Number, Address, Quoted, Symbol, NewLine, Wrong}
use Rattle.ruletokens.specs.declared.token.Symbol.TheVariants.{Open, Close, Comma, Semicolon, Colon, Slash, Minus, Plus, Equal, Equals, Differs, At}
use denote.Bor.{Bor}

abbrev pub Text : Type 0
Text = List ℕ

-- what bytes are: a token, or a space or comment
pub data Kind : Type 0 where
  token : Token → Kind
  blank : Kind

-- ---- classes of bytes

abbrev pub is_start : ℕ → Bool
is_start b = is_ascii_alphabetic b || b == 95

-- of a name behind its start: letters, digits and `_-./`
abbrev pub is_word : ℕ → Bool
is_word b = is_ascii_alphanumeric b || b == 95 || b == 45 || b == 46 || b == 47

-- of what begins with a digit: letters, digits and `_.`
abbrev pub is_numeral : ℕ → Bool
is_numeral b = is_ascii_alphanumeric b || b == 95 || b == 46

abbrev pub is_line : ℕ → Bool
is_line b = not (b == 10)

-- between quotes
abbrev pub is_inner : ℕ → Bool
is_inner b = not (b == 34) && not (b == 10)

abbrev pub is_part : ℕ → Bool
is_part b = not (b == 46)

-- ---- numbers and addresses

-- the number that digits stand for, behind those of n
abbrev pub decimal_from : ℕ → Text → ℕ
decimal_from n [] = n
decimal_from n (b ∷ bs) = decimal_from (n * 10 + (b - 48)) bs

-- no zero leads but that of `0` itself
abbrev pub is_plain : Text → Bool
is_plain [] = false
is_plain (b ∷ []) = true
is_plain (b ∷ c ∷ bs) = not (b == 48)

-- the decimal number that the bytes, all of them, are
unfoldable pub decimal : ℕ → Text → Option ℕ
decimal most bs =
    if is_plain bs && list_all is_ascii_digit bs && nat_le (decimal_from 0 bs) most
    then Some (decimal_from 0 bs)
    else None

-- in front of the first part
abbrev pub with_byte : ℕ → List Text → List Text
with_byte b [] = []
with_byte b (part ∷ parts) = (b ∷ part) ∷ parts

-- what stands between dots
unfoldable pub parts_of : Text → List Text
parts_of [] = [] ∷ []
parts_of (b ∷ bs) = if is_part b then with_byte b (parts_of bs) else ([] ∷ parts_of bs)

abbrev pub four : List (Option ℕ) → Option ℕ
four (Some a ∷ Some b ∷ Some c ∷ Some d ∷ []) = Some (((a * 256 + b) * 256 + c) * 256 + d)
four _ = None

unfoldable pub address : Text → Option ℕ
address bs = four (map (decimal 255) (parts_of bs))

abbrev pub number_or : Option ℕ → Option ℕ → Token
number_or (Some n) a = Number n
number_or None (Some a) = Address a
number_or None None = Wrong

abbrev pub numeral : Text → Token
numeral bs = number_or (decimal 18446744073709551615 bs) (address bs)

-- ---- pieces

-- by its first byte
abbrev pub shape_of : ℕ → Shape
shape_of b =
    if is_start b then shape.Word
    else if is_ascii_digit b then shape.Numeral
    else if b == 35 then shape.Comment
    else if b == 34 then shape.Quote
    else if b == 92 then shape.Escape
    else if b == 61 then shape.Equal
    else if b == 33 then shape.Bang
    else shape.Single

-- of one byte
unfoldable pub single : ℕ → Kind
single b =
    if b == 10 then token NewLine
    else if b == 32 || b == 9 || b == 13 then blank
    else if b == 123 then token (Symbol Open)
    else if b == 125 then token (Symbol Close)
    else if b == 44 then token (Symbol Comma)
    else if b == 59 then token (Symbol Semicolon)
    else if b == 58 then token (Symbol Colon)
    else if b == 47 then token (Symbol Slash)
    else if b == 45 then token (Symbol Minus)
    else if b == 43 then token (Symbol Plus)
    else if b == 64 then token (Symbol At)
    else token Wrong

-- one byte, or two of which this is the second
abbrev pub two : Kind → ℕ → Kind → Text → Option Kind
two one second both [] = Some one
two one second both (b ∷ []) = if b == second then Some both else None
two one second both (b ∷ c ∷ bs) = None

abbrev pub with_inner : ℕ → Option Text → Option Text
with_inner b None = None
with_inner b (Some text) = Some (b ∷ text)

-- the bytes before the one quote at the end
unfoldable pub before_quote : Text → Option Text
before_quote [] = None
before_quote (b ∷ bs) =
    if is_inner b then with_inner b (before_quote bs)
    else (if b == 34 && length bs == 0 then Some [] else None)

abbrev pub quoted : Option Text → Option Kind
quoted None = None
quoted (Some text) = Some (token (Quoted text))

-- Each shape's bytes behind the first. A quote that isn't closed is wrong.
unfoldable pub kind_by : Shape → ℕ → Text → Option Kind
kind_by shape.Word b bs = if list_all is_word bs then Some (token (Name (b ∷ bs))) else None
kind_by shape.Numeral b bs =
    if list_all is_numeral bs then Some (token (numeral (b ∷ bs)))
    else None
kind_by shape.Comment b bs = if list_all is_line bs then Some blank else None
kind_by shape.Quote b bs =
    if list_all is_inner bs then Some (token Wrong)
    else quoted (before_quote bs)
kind_by shape.Escape b bs = two (token Wrong) 10 blank bs
kind_by shape.Equal b bs = two (token (Symbol Equal)) 61 (token (Symbol Equals)) bs
kind_by shape.Bang b bs = two (token Wrong) 61 (token (Symbol Differs)) bs
kind_by shape.Single b bs = if length bs == 0 then Some (single b) else None

-- what the bytes, all of them, are
abbrev pub kind_of : Text → Option Kind
kind_of [] = None
kind_of (b ∷ bs) = kind_by (shape_of b) b bs

-- ---- longest match

-- no longer front of the text is anything
abbrev pub IsLongest : Text → Text → Type 0
IsLongest front rest = (more behind : Text) → rest ≡ more ++ behind
    → IsSome (kind_of (front ++ more)) → more ≡ []

-- the text begins with this piece, by longest match
pub record Begins (text front : Text) (kind : Kind) (rest : Text) : Type 0 where
  pub parts : text ≡ front ++ rest
  pub is : kind_of front ≡ Some kind
  pub longest : IsLongest front rest

abbrev pub with_kind : Kind → List Token → List Token
with_kind (token t) ts = t ∷ ts
with_kind blank ts = ts

-- the text is cut into these pieces
abbrev pub IsCut : List (Text × Kind) → Text → Type 0
IsCut [] text = text ≡ []
IsCut (p ∷ ps) text = (rest : Text) × Begins text p.0 p.1 rest × IsCut ps rest

abbrev pub tokens_of : List (Text × Kind) → List Token
tokens_of [] = []
tokens_of (p ∷ ps) = with_kind p.1 (tokens_of ps)

abbrev pub AreTokens : List Token → Text → Type 0
AreTokens ts text = (pieces : List (Text × Kind)) × IsCut pieces text × (ts ≡ tokens_of pieces)

-- ---- what the lexer's functions return

abbrev pub is_in : Class → ℕ → Bool
is_in class.Word b = is_word b
is_in class.Numeral b = is_numeral b
is_in class.Line b = is_line b
is_in class.Inner b = is_inner b
is_in class.Part b = is_part b

abbrev pub begins_with : (ℕ → Bool) → Text → Bool
begins_with test [] = false
begins_with test (b ∷ bs) = test b

abbrev pub found_kind : Option Token → Kind
found_kind None = blank
found_kind (Some t) = token t

abbrev pub IsPiece : Text → Option Token × Bor Text → Type 0
IsPiece text x = (front : Text) × Begins text front (found_kind x.0) x.1.now

-- it begins with a byte of that shape
abbrev pub IsShaped : Shape → Text → Text → Type 0
IsShaped s text behind = (b : ℕ) × (text ≡ b ∷ behind) × (shape_of b ≡ s)

abbrev pub with_digit : ℕ → ℕ → ℕ → Option ℕ
with_digit most n b =
    if is_ascii_digit b && nat_le (n * 10 + (b - 48)) most then Some (n * 10 + (b - 48))
    else None

unfoldable pub digits_from : ℕ → ℕ → Text → Option ℕ
digits_from most n [] = Some n
digits_from most n (b ∷ bs) =
    if is_ascii_digit b && nat_le (n * 10 + (b - 48)) most
    then digits_from most (n * 10 + (b - 48)) bs
    else None

abbrev pub octets : Text → List (Option ℕ)
octets bs = map (decimal 255) (parts_of bs)

-- no number up to 255, or nothing behind it
abbrev pub Stops : List (Option ℕ) → Type 0
Stops (Some n ∷ o ∷ more) = ⊥
Stops _ = Unit {0}

-- more than one number up to 255, or none
abbrev pub GoesOn : List (Option ℕ) → Type 0
GoesOn (Some n ∷ []) = ⊥
GoesOn _ = Unit {0}
