-- What a test of an item answers. No public clause cites this module.
use Rattle.std.specs.Prelude.{◌≡◌, Bool}
use denote.Ref.{Bor}
use Rattle.std.specs.Fn.{FnReturnsAt, Shared}

-- what the test returns of an item is what p says of it
abbrev pub IsTestFor : {F X : Type 0} → Shared F (Bor X × Unit {0}) Bool → F → (X → Bool) → Type 0
IsTestFor {F} {X} g f p = (x : X) (r : Bool) → FnReturnsAt g f x r → r ≡ p x
