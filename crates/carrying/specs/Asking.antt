-- The turns that a pace asks for.
use Rattle.std.specs.Prelude.{◌≡◌, ℕ, List, [], ◌++◌, ⊤, Option, None, Some, Vec}
use Rattle.std.specs.declared.alloc.Global.{Global}

-- a turn: its moment, in seconds, and the text of the ruleset that is to be loaded in it
pub record Asked : Type 0 where
  pub moment : ℕ
  pub text : Option (List ℕ)

-- what is asked for from here on, where that is known
abbrev pub Asks : Type 0
Asks = Option (List Asked)

-- what was to be asked for began with these, and goes on behind them
abbrev pub AsksFor : Asks → Asks → List Asked → Type 0
AsksFor None new asked = ⊤
AsksFor (Some xs) None asked = ⊥
AsksFor (Some xs) (Some ys) asked = xs ≡ asked ++ ys

-- nothing more is asked for
abbrev pub IsOver : Asks → Type 0
IsOver None = ⊤
IsOver (Some asked) = asked ≡ []

abbrev pub text_of : Option (Vec ℕ Global) → Option (List ℕ)
text_of None = None
text_of (Some text) = Some text.items

-- by a moment and a text
abbrev pub asked_by : ℕ → Option (Vec ℕ Global) → Asked
asked_by moment text = record { moment = moment; text = text_of text }
