-- What a text spells.
use Rattle.std.specs.Prelude.{◌≡◌, ◌≤◌, ◌<◌, ℕ, List, length, Result, Ok, Err}
use Rattle.ruletokens.specs.declared.token.Token.{Token}
use Rattle.ruletree.specs.declared.tree.Spelled.{Spelled}
use Rattle.ruletree.specs.declared.fault.Kind.{Kind}
use Rattle.ruletree.specs.declared.fault.Kind.TheVariants.{TooLong, Syntax, Unsupported, Family, NoMemory}
use Rattle.ruletree.specs.declared.fault.LoadFault.{LoadFault}
use Rattle.rulesyntax.specs.declared.error.ReadError.{ReadError}
use Rattle.rulesyntax.specs.declared.error.ReadError.TheVariants as read_error
use Rattle.ruletokens.specs.Tokens.{AreTokens}
use Rattle.rulesyntax.specs.Grammar.{Spells}

-- the most bytes of a text
abbrev pub greatest_length : ℕ
greatest_length = 262144

-- the text isn't too long
abbrev pub IsShort : List ℕ → Type 0
IsShort text = length text ≤ greatest_length

-- the tokens of the text spell the ruleset
abbrev pub IsSpelledBy : Spelled → List ℕ → Type 0
IsSpelledBy rules text = (tokens : List Token) × AreTokens tokens text × Spells rules tokens

-- it spells no rules
abbrev pub IsSenseless : List ℕ → Type 0
IsSenseless text = (rules : Spelled) → ¬ IsSpelledBy rules text

abbrev pub IsOkOrNoMemory : Spelled → Result Spelled LoadFault → Type 0
IsOkOrNoMemory rules (Ok found) = found ≡ rules
IsOkOrNoMemory rules (Err fault) = fault.kind ≡ NoMemory

-- no ruleset is spelled
abbrev pub IsUnspelled : Kind → Type 0
IsUnspelled Syntax = Unit {0}
IsUnspelled Unsupported = Unit {0}
IsUnspelled Family = Unit {0}
IsUnspelled _ = ⊥

abbrev pub IsUnread : Kind → Type 0
IsUnread NoMemory = Unit {0}
IsUnread kind = IsUnspelled kind

abbrev pub IsOfSyntax : Kind → Type 0
IsOfSyntax TooLong = Unit {0}
IsOfSyntax kind = IsUnread kind

-- the kind is why the text isn't read; memory may be lacking for any text that isn't too long
abbrev pub IsUnreadFor : List ℕ → Kind → Type 0
IsUnreadFor text TooLong = greatest_length < length text
IsUnreadFor text NoMemory = IsShort text
IsUnreadFor text kind = IsUnspelled kind × IsShort text × IsSenseless text

-- the fault that tells of the error
abbrev pub IsFault : LoadFault → ReadError → Type 0
IsFault fault read_error.Memory = fault.kind ≡ NoMemory
IsFault fault (read_error.Syntax spot) = IsUnspelled fault.kind
