-- How long the texts of endpoints are.
use Rattle.std.proofs.Common.{◌≡◌, ℕ, ◌+◌, ◌/◌, ◌%◌, ◌^◌, ◌<◌, ◌≤◌, List, [], ◌∷◌, ◌++◌, length, decimal, length-append, arith}
use Rattle.std.proofs.lemmas.Fmt.{length-decimal-le}
use Rattle.std.proofs.lemmas.List.{length-replicate}
use Rattle.packet.specs.declared.endpoint.Endpoint.{Endpoint}
use Rattle.session_lines.specs.Lines.{column, endpoint_text, filled}

octet : (n : ℕ) → n < 256 → length (decimal n) ≤ 3
octet n h = length-decimal-le 3 n (omega arith) (omega arith) (omega arith)

port : (n : ℕ) → n < 65536 → length (decimal n) ≤ 5
port n h = length-decimal-le 5 n (omega arith) (omega arith) (omega arith)

parts : (a b c d p dot colon : List ℕ) → length (((a ++ dot ++ b ++ dot ++ c ++ dot ++ d) ++ colon) ++ p) ≡ length a + length b + length c + length d + length p + (length dot + length dot + length dot + length colon)
parts a b c d p dot colon = simp length-append (omega arith)

-- at most 21
short : (e : Endpoint) → e.addr < 2 ^ 32 → e.port < 2 ^ 16 → length (endpoint_text e) ≤ 21
unfolding endpoint_text
short e small low =
    let a = octet (e.addr / 16777216) (omega arith) in
    let b = octet (e.addr / 65536 % 256) (omega arith) in
    let c = octet (e.addr / 256 % 256) (omega arith) in
    let d = octet (e.addr % 256) (omega arith) in
    let p = port e.port (omega arith) in
    omega (arith, parts (decimal (e.addr / 16777216)) (decimal (e.addr / 65536 % 256)) (decimal (e.addr / 256 % 256)) (decimal (e.addr % 256)) (decimal e.port) (46 ∷ []) (58 ∷ []))

-- filled to its width
full : (width : ℕ) (text space : List ℕ) → length text ≤ width → length (filled width text ++ space) ≡ width + length space
full width text space h =
    simp (length-append, length-replicate) (omega arith)

pub aligned : (e : Endpoint) → e.addr < 2 ^ 32 → e.port < 2 ^ 16 → length (column e) ≡ 21 + 1
unfolding column
aligned e small low = full 21 (endpoint_text e) (32 ∷ []) (short e small low)
