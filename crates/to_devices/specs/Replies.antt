-- The frames of answers: kind, number of the event, length of the body, and the body.
use Rattle.std.specs.Prelude.{◌≢◌, ℕ, ◌<◌, ◌^◌, List, ◌∷◌, ◌++◌, length}
use Rattle.byteorder.specs.Endian.{big_bytes}

pub record Reply : Type 0 where
  pub kind : ℕ
  pub number : ℕ
  pub body : List ℕ

unfoldable pub reply_frame : Reply → List ℕ
reply_frame r = (r.kind ∷ big_bytes 8 r.number ++ big_bytes 4 (length r.body)) ++ r.body

-- a frame can tell the length of the body
abbrev pub FitsReply : Reply → Type 0
FitsReply r = length r.body < 2 ^ 32

-- no whole answer stands at the front
abbrev pub HasNoReply : List ℕ → Type 0
HasNoReply bytes = (r : Reply) (more : List ℕ) → FitsReply r → bytes ≢ reply_frame r ++ more
