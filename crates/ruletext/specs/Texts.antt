-- Which texts load, and why the others are refused.
use Rattle.std.specs.Prelude.{◌<◌, ℕ, List, length, Some}
use Rattle.packet.specs.Config.{Config}
use Rattle.ruletree.specs.declared.tree.Spelled.{Spelled}
use Rattle.ruletree.specs.declared.fault.Kind.{Kind}
use Rattle.ruletree.specs.declared.fault.Kind.TheVariants.{TooLong, Syntax, Unsupported, Family, NoMemory}
use Rattle.rulesyntax.specs.Text.{greatest_length, IsShort, IsSpelledBy, IsSenseless}
use Rattle.rulesets.specs.Faults.{FaultHolds, IsLeast, MayRun}

-- a text that isn't too long, spells these rules, and has no kind of fault
abbrev pub Loads : Config → List ℕ → Spelled → Type 0
Loads config text rules = IsShort text × IsSpelledBy rules text × MayRun config rules

-- the kind is why the text doesn't load; memory may be lacking for any text that isn't too long
abbrev pub IsRefused : Config → List ℕ → Kind → Type 0
IsRefused config text TooLong = greatest_length < length text
IsRefused config text Syntax = IsShort text × IsSenseless text
IsRefused config text Unsupported = IsShort text × IsSenseless text
IsRefused config text Family = IsShort text × IsSenseless text
IsRefused config text NoMemory = IsShort text
IsRefused config text kind = IsShort text
    × ((rules : Spelled) × IsSpelledBy rules text × IsLeast (FaultHolds config rules) (Some kind))
