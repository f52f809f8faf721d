-- Octal digits are ASCII, so they are a text.
use Rattle.std.proofs.Common.{◌≡◌, ◌==◌, ℕ, suc, zero, ◌<◌, Bool, true, false, List, [], ◌∷◌, drop, cond, arith, refl}
use Rattle.std.specs.Str.{IsAscii}
use Rattle.std.specs.Str.Parse.{AllDigits, without_leading_plus}
use Rattle.std.proofs.lemmas.Bool.{eqb-true}
use Rattle.std.proofs.lemmas.Fmt.{IsAscii-from_digits}
use Rattle.std.proofs.lemmas.Str.Ascii.{IsAscii-nil}

more_digits : (ds : List ℕ) → AllDigits 8 ds → AllDigits 10 ds
more_digits [] d = d
more_digits (c ∷ cs) d = (omega (arith, d.0), more_digits cs d.1)

digits_are_ascii : (ds : List ℕ) → AllDigits 8 ds → IsAscii ds
digits_are_ascii ds d = IsAscii-from_digits ds (more_digits ds d)

ascii_behind : (c : ℕ) (cs : List ℕ) → c ≡ 43 → IsAscii cs → IsAscii (c ∷ cs)
ascii_behind c cs plus a zero = omega (arith, plus)
ascii_behind c cs plus a (suc i) = a i

behind_plus : (c : ℕ) (cs : List ℕ) (plus : Bool) → (c == 43) ≡ plus → AllDigits 8 (drop (cond plus 1 0) (c ∷ cs)) → IsAscii (c ∷ cs)
behind_plus c cs true e d = ascii_behind c cs (eqb-true _ _ e) (digits_are_ascii cs d)
behind_plus c cs false e d = digits_are_ascii (c ∷ cs) d

pub spelled_is_ascii : (bs : List ℕ) → AllDigits 8 (without_leading_plus bs) → IsAscii bs
spelled_is_ascii [] d = IsAscii-nil
spelled_is_ascii (c ∷ cs) d = behind_plus c cs (c == 43) refl d
