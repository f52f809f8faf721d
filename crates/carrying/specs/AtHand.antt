-- How requests that are at hand are read. No public clause cites this module.
use Rattle.std.specs.Prelude.{List, [], ◌∷◌, ◌++◌}
use Rattle.socket_edge.specs.Turns.{Turn, Gave, ReadFailed, Took, WriteFailed}

-- no read of these turns failed
abbrev pub NoReadFails : List Turn → Type 0
NoReadFails [] = Unit {0}
NoReadFails (Gave bytes ∷ turns) = NoReadFails turns
NoReadFails (ReadFailed ∷ turns) = ⊥
NoReadFails (Took bytes ∷ turns) = NoReadFails turns
NoReadFails (WriteFailed ∷ turns) = NoReadFails turns

-- a proof; it stands here since an `impl` of `Peer` can name nothing of proofs/
pub none_then : (turns more : List Turn) → NoReadFails turns → NoReadFails more → NoReadFails (turns ++ more)
none_then [] more p q = q
none_then (Gave bytes ∷ turns) more p q = none_then turns more p q
none_then (ReadFailed ∷ turns) more p q = absurd p
none_then (Took bytes ∷ turns) more p q = none_then turns more p q
none_then (WriteFailed ∷ turns) more p q = none_then turns more p q
