-- How much is shown of a line.
use Rattle.std.proofs.Common.{◌≡◌, ℕ, ◌+◌, ◌-◌, ◌^◌, ◌<◌, ◌≤◌, Bool, true, false, nat_lt, ◌++◌, length, map, take, drop, codes, decimal, length-append, length-drop, arith}
use Rattle.std.proofs.lemmas.Fmt.{length-decimal-le}
use Rattle.std.proofs.lemmas.List.{length-map, length-take}
use Rattle.std.proofs.lemmas.List.Sums.{count_by-le-length}
use Rattle.text_marks.specs.Lines.{Text, dots_if, hidden, is_newline, lead, line_front, line_number, line_rest, marked, marked_line, room, trail, visible}

dots : (cut : Bool) → length (dots_if cut) ≤ 3
dots true = omega arith
dots false = omega arith

-- how much of a line is shown before the place
before : (front rest : Text) → length front - hidden front rest ≤ 120
before front rest = omega arith

five : (a b c d e : Text) → length (a ++ b ++ c ++ d ++ e) ≡ length a + length b + length c + length d + length e
five a b c d e = simp length-append (omega arith)

lead_length : (number : ℕ) (front rest : Text) → number < 2 ^ 64 → length (lead number front rest) ≤ 30 + (length front - hidden front rest)
unfolding lead
lead_length number front rest small =
    let cut = nat_lt 0 (hidden front rest) in
    let shown = drop (hidden front rest) front in
    let whole = five (codes "line ") (decimal number) (codes ": ") (dots_if cut) (map visible shown) in
    let digits = length-decimal-le 20 number (omega arith) (omega arith) small in
    omega (arith, whole, digits, dots cut, length-map shown visible, length-drop (hidden front rest) front)

trail_length : (front rest : Text) → length (trail front rest) ≤ room front rest + 3
unfolding trail
trail_length front rest =
    let cut = nat_lt (room front rest) (length rest) in
    let shown = take (room front rest) rest in
    omega (arith, length-append (map visible shown) (dots_if cut), dots cut, length-map shown visible, length-take (room front rest) rest)

two_lines : (a b : Text) → length (marked_line a b) ≡ length a + length b + 1 + length a + 2
two_lines a b = simp (length-append, length-map) (omega arith)

both : (number : ℕ) (front rest : Text) → number < 2 ^ 64 → length (marked_line (lead number front rest) (trail front rest)) ≤ 306
both number front rest small =
    let lines = two_lines (lead number front rest) (trail front rest) in
    let ahead = lead_length number front rest small in
    let behind = trail_length front rest in
    let most = before front rest in
    omega (arith, lines, ahead, behind, most)

pub short : (text : Text) (at : ℕ) → length text < 2 ^ 63 → length (marked text at) ≤ 306
short text at small =
    let lines = count_by-le-length is_newline (take at text) in
    let few : line_number text at < 2 ^ 64 = omega (arith, lines, length-take at text) in
    both (line_number text at) (line_front text at) (line_rest text at) few
