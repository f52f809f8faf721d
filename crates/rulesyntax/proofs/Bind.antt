-- One reading after another.
use Rattle.std.proofs.Common.{◌≡◌, Option, Some, None, refl}
use Rattle.rulesyntax.specs.Reading.{◌>>=◌}

pub in_turn : {A B C : Type 0} (read : Option A) (f : A → Option B) (g : B → Option C) → (read >>= λ x. f x >>= g) ≡ (read >>= f) >>= g
in_turn (Some x) f g = refl
in_turn None f g = refl
