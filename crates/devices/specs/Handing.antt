-- What a device gives and what it is handed, where either is known: lists of headers with their packets.
use Rattle.std.specs.Prelude.{◌≡◌, ℕ, ◌+◌, List, [], ◌∷◌, ◌++◌, take, ⊤, Option, None, Some}

abbrev pub Frames : Type 0
Frames = Option (List (List ℕ))

-- what was to come began with these, and goes on behind them
abbrev pub Gives : Frames → Frames → List (List ℕ) → Type 0
Gives None new given = ⊤
Gives (Some xs) None given = ⊥
Gives (Some xs) (Some ys) given = xs ≡ given ++ ys

-- what was handed grows by these, as far as it stays known; what isn't known won't be
abbrev pub Hands : Frames → Frames → List (List ℕ) → Type 0
Hands None None more = ⊤
Hands None (Some ys) more = ⊥
Hands (Some xs) None more = ⊤
Hands (Some xs) (Some ys) more = ys ≡ xs ++ more

-- the next one stands at the front of the room, in so many bytes; or there was none
abbrev pub Gave : Frames → Frames → Option ℕ → List ℕ → Type 0
Gave old new None room = new ≡ old
Gave old new (Some n) room = Gives old new (take n room ∷ [])

-- it was waited for so often since, as far as that is known
abbrev pub Waits : ℕ → Option ℕ → Option ℕ → Type 0
Waits often None new = ⊤
Waits often (Some n) new = new ≡ Some (n + often)

-- A device gave these from here on, and then it had none, when it had been waited for so often since.
abbrev pub GaveAll : {D : Type 0} → (D → Frames) → (D → Option ℕ) → (D → Type 0) → D → ℕ → List (List ℕ) → Type 0
GaveAll {D = D} coming waited has_none old often given = (device : D) × has_none device
    × Gives (coming old) (coming device) given × Waits often (waited old) (waited device)
