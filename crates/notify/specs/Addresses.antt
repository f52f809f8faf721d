-- The addresses of Unix sockets (unix(7) of Linux).
use Rattle.std.specs.Prelude.{ℕ, List, [], ◌∷◌, cond, ◌==◌}

-- behind an @ stands a name of the abstract namespace, which has a byte 0 there
abbrev pub socket_name : List ℕ → List ℕ
socket_name [] = []
socket_name (byte ∷ rest) = cond (byte == 0x40) 0 byte ∷ rest

-- the family AF_UNIX, which is 1, and the name
abbrev pub address_bytes : List ℕ → List ℕ
address_bytes name = 1 ∷ 0 ∷ socket_name name
