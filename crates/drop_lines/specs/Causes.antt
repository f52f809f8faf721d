-- The names of the causes of drops (docs/frames.md).
use Rattle.std.specs.Prelude.{ℕ, List, [], ◌∷◌, codes, slice_index_or}

-- by their numbers; 0 is none
abbrev pub names : List (List ℕ)
names = []
    ∷ codes "Short"
    ∷ codes "Version"
    ∷ codes "HeaderLength"
    ∷ codes "Length"
    ∷ codes "HeaderSum"
    ∷ codes "Fragment"
    ∷ codes "Protocol"
    ∷ codes "Transport"
    ∷ codes "PortZero"
    ∷ codes "Ttl"
    ∷ codes "Spoofed"
    ∷ codes "NoRoute"
    ∷ codes "NoMapping"
    ∷ codes "Filtered"
    ∷ codes "NoSession"
    ∷ codes "Rule"
    ∷ codes "Clash"
    ∷ codes "SelfMapped"
    ∷ codes "NoPort"
    ∷ codes "TableFull"
    ∷ []

-- the name of the cause with this number; of any other number the empty one
abbrev pub name_of : ℕ → List ℕ
name_of cause = slice_index_or names cause []
