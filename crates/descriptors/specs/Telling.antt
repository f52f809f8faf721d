-- What Linux tells of a descriptor: lines (proc(5), /proc/PID/fdinfo; a TUN device's has one that begins with "iff:").
use Rattle.std.specs.Prelude.{◌≡◌, ◌≢◌, ◌⊎◌, ℕ, ◌/◌, ◌%◌, List, [], ◌∷◌, ◌++◌, ◌<◌, Ok, codes, length, slice_index}
use Rattle.std.specs.Str.Parse.{ParsesUnsigned}
use Rattle.descriptors.specs.declared.device.Unfit.{Unfit}
use Rattle.descriptors.specs.declared.device.Unfit.TheVariants.{NoTun, Unattached, Untold, Blocks, OneWay}

-- no byte ends a line
abbrev pub LacksEnd : List ℕ → Type 0
LacksEnd line = (k : ℕ) → k < length line → slice_index line k ≢ 10

-- nothing, or the text up to the end of a line
abbrev pub EndsLine : List ℕ → Type 0
EndsLine before = (before ≡ []) ⊎ ((more : List ℕ) × (before ≡ more ++ 10 ∷ []))

-- one of the lines of the text is this one
pub record HasLine (text line : List ℕ) : Type 0 where
  pub before : List ℕ
  pub after : List ℕ
  pub text_is : text ≡ before ++ (line ++ 10 ∷ after)
  pub begins : EndsLine before
  pub one : LacksEnd line

-- no line begins with this key
abbrev pub LacksKey : List ℕ → List ℕ → Type 0
LacksKey text key = (value : List ℕ) → ¬ HasLine text (key ++ value)

abbrev pub SpellsOctal : List ℕ → ℕ → Type 0
SpellsOctal digits n = ParsesUnsigned {E = Unit {0}} 32 8 digits (Ok n)

-- Of flags of open(2): O_NONBLOCK is 04000, and O_RDWR is 2 of the last two bits.
pub record IsOpenBothWays (flags : ℕ) : Type 0 where
  pub non_blocking : (flags / 2048) % 2 ≡ 1
  pub both_ways : flags % 4 ≡ 2

-- it is told of the descriptor of a TUN device to which the device of this name is attached
pub record IsDevice (told name : List ℕ) : Type 0 where
  pub named : HasLine told (codes "iff:\t" ++ name)
  pub attached : name ≢ []
  pub digits : List ℕ
  pub flags : ℕ
  pub flagged : HasLine told (codes "flags:\t" ++ digits)
  pub spelled : SpellsOctal digits flags
  pub opened : IsOpenBothWays flags

-- a line tells these flags of open(2)
pub record TellsFlags (told : List ℕ) (flags : ℕ) : Type 0 where
  pub digits : List ℕ
  pub flagged : HasLine told (codes "flags:\t" ++ digits)
  pub spelled : SpellsOctal digits flags

-- no line tells any flags, or one tells what is no number
abbrev pub TellsNoFlags : List ℕ → Type 0
TellsNoFlags told = LacksKey told (codes "flags:\t")
    ⊎ ((digits : List ℕ) × HasLine told (codes "flags:\t" ++ digits)
    × ((n : ℕ) → ¬ SpellsOctal digits n))

-- what the descriptor lacks of which this is told
abbrev pub Lacks : List ℕ → Unfit → Type 0
Lacks told NoTun = LacksKey told (codes "iff:\t")
Lacks told Unattached = HasLine told (codes "iff:\t")
Lacks told Untold = TellsNoFlags told
Lacks told Blocks = (flags : ℕ) × TellsFlags told flags × ((flags / 2048) % 2 ≢ 1)
Lacks told OneWay = (flags : ℕ) × TellsFlags told flags × (flags % 4 ≢ 2)
