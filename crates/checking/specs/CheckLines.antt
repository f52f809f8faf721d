-- What is said of a ruleset's text.
use Rattle.std.specs.Prelude.{◌≡◌, ◌≢◌, ℕ, Bool, true, false, List, [], ◌++◌, codes}
use Rattle.packet.specs.Config.{Config}
use Rattle.ruletree.specs.Reasons.{reason_name}
use Rattle.ruletree.specs.declared.fault.Kind.{Kind}
use Rattle.ruletree.specs.declared.fault.Kind.TheVariants.{NoMemory}
use Rattle.ruletree.specs.declared.tree.Spelled.{Spelled}
use Rattle.ruletext.specs.Texts.{Loads, IsRefused}
use Rattle.text_marks.specs.Reports.{IsReport}

-- a line with some number, and the name of the kind of fault
abbrev pub TellsOf : Kind → List ℕ → Type 0
TellsOf kind line =
    (number : List ℕ)
    × (line ≡ codes "line " ++ number ++ codes ": " ++ reason_name kind ++ codes "\n")

-- it says ok of a text that loads, and of another one a kind of fault that the text has
abbrev pub IsCheckLine : Config → List ℕ → Bool → List ℕ → Type 0
IsCheckLine config text true line =
    (line ≡ codes "ok\n") × ((rules : Spelled) × Loads config text rules)
IsCheckLine config text false line =
    (kind : Kind) × (kind ≢ NoMemory) × IsRefused config text kind × TellsOf kind line

-- nothing is shown of a text that loads, and of another one a place in it
abbrev pub IsShown : List ℕ → Bool → List ℕ → Type 0
IsShown text true marks = marks ≡ []
IsShown text false marks = IsReport text marks
