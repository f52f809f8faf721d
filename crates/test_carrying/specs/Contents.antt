-- What is in memory.
use Rattle.std.specs.Prelude.{◌⊎◌, ℕ, ◌<◌, List, [], ◌∷◌, length, map, ⊤, Vec}
use Rattle.std.specs.declared.alloc.Global.{Global}

abbrev pub bodies_of : List (Vec ℕ Global) → List (List ℕ)
bodies_of bodies = map (λ (v : Vec ℕ Global). v.items) bodies

-- nothing is at the front that could be a header and a packet
abbrev pub HasNoFrame : List (List ℕ) → Type 0
HasNoFrame [] = ⊤
HasNoFrame (body ∷ bodies) = (length body < 10) ⊎ (65545 < length body)
