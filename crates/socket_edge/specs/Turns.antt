-- What goes between a run and its peer, turn by turn.
use Rattle.std.specs.Prelude.{◌≡◌, ◌≢◌, ◌⊎◌, ◌+◌, ℕ, List, [], ◌∷◌, ◌++◌, take, Result, Ok, Err}

-- One turn: the peer was asked for more and gave these bytes, which are none at its end; or it was handed bytes and took
-- these; or such a call failed, and it gave none, or took none.
pub data Turn : Type 0 where
  Gave : List ℕ → Turn
  ReadFailed : Turn
  Took : List ℕ → Turn
  WriteFailed : Turn

-- all bytes that it gave
abbrev pub given : List Turn → List ℕ
given [] = []
given (Gave bytes ∷ turns) = bytes ++ given turns
given (ReadFailed ∷ turns) = given turns
given (Took bytes ∷ turns) = given turns
given (WriteFailed ∷ turns) = given turns

-- all bytes that it took
abbrev pub taken : List Turn → List ℕ
taken [] = []
taken (Gave bytes ∷ turns) = taken turns
taken (ReadFailed ∷ turns) = taken turns
taken (Took bytes ∷ turns) = bytes ++ taken turns
taken (WriteFailed ∷ turns) = taken turns

-- the turn of a read that put so many bytes at the front of these
abbrev pub read_turn : {E : Type 0} → Result ℕ E → List ℕ → Turn
read_turn (Ok n) bytes = Gave (take n bytes)
read_turn (Err e) bytes = ReadFailed

-- the turn of a write that took so many of these bytes
abbrev pub write_turn : {E : Type 0} → Result ℕ E → List ℕ → Turn
write_turn (Ok n) bytes = Took (take n bytes)
write_turn (Err e) bytes = WriteFailed

-- the peer was asked for more
abbrev pub Asks : Turn → Type 0
Asks (Gave bytes) = Unit {0}
Asks ReadFailed = Unit {0}
Asks (Took bytes) = ⊥
Asks WriteFailed = ⊥

-- how often it was
abbrev pub times_asked : List Turn → ℕ
times_asked [] = 0
times_asked (Gave bytes ∷ turns) = times_asked turns + 1
times_asked (ReadFailed ∷ turns) = times_asked turns + 1
times_asked (Took bytes ∷ turns) = times_asked turns
times_asked (WriteFailed ∷ turns) = times_asked turns

-- bytes went
abbrev pub Passes : Turn → Type 0
Passes (Gave bytes) = bytes ≢ []
Passes ReadFailed = ⊥
Passes (Took bytes) = bytes ≢ []
Passes WriteFailed = ⊥

-- bytes went at each of the turns
abbrev pub AllPass : List Turn → Type 0
AllPass [] = Unit {0}
AllPass (turn ∷ turns) = Passes turn × AllPass turns

-- this is the last of the turns, and bytes went at each before it
pub record LastIs (last : Turn) (turns : List Turn) : Type 0 where
  pub before : List Turn
  pub are : turns ≡ before ++ last ∷ []
  pub passed : AllPass before

-- the last of the turns is a write that failed or took nothing, and bytes went at each before it
abbrev pub LastTookNone : List Turn → Type 0
LastTookNone turns = LastIs WriteFailed turns ⊎ LastIs (Took []) turns
