-- Where lines begin and end, and where runs of bytes do.
use Rattle.std.proofs.Common.{◌≡◌, ℕ, ◌-◌, ◌<◌, ◌≤◌, Bool, true, false, not, List, length, take, drop, get_or, ap, sym, arith}
use Rattle.std.specs.List.{after_last, before_first, prefix_len, suffix_len}
use Rattle.std.proofs.lemmas.List.Sums.{position_or_len_is, prefix_len_is, suffix_len_is}

-- each of the first bytes fails the test
pub record NoneBefore (p : ℕ → Bool) (bytes : List ℕ) (end : ℕ) : Type 0 where
  pub within : end ≤ length bytes
  pub none : (k : ℕ) → k < end → p (get_or bytes k 0) ≡ false

-- each of the last bytes fails the test
pub record NoneBehind (p : ℕ → Bool) (bytes : List ℕ) (start : ℕ) : Type 0 where
  pub within : start ≤ length bytes
  pub none : (k : ℕ) → start ≤ k → k < length bytes → p (get_or bytes k 0) ≡ false

pub first_end :
    (p : ℕ → Bool) (bytes : List ℕ) (end : ℕ) → NoneBefore p bytes end → (end < length bytes → p (get_or bytes end 0) ≡ true)
    → take end bytes ≡ before_first p bytes
first_end p bytes end before stops = ap (λ n. take n bytes) (sym (position_or_len_is p bytes end 0 before.within before.none stops))

pub last_start :
    (p : ℕ → Bool) (bytes : List ℕ) (start : ℕ) → NoneBehind p bytes start → (0 < start → p (get_or bytes (start - 1) 0) ≡ true)
    → drop start bytes ≡ after_last p bytes
last_start p bytes start behind stops =
    let all : (k : ℕ) → start ≤ k → k < length bytes → not (p (get_or bytes k 0)) ≡ true = λ k low high. ap not (behind.none k low high) in
    let stop : 0 < start → not (p (get_or bytes (start - 1) 0)) ≡ false = λ some. ap not (stops some) in
    let count = suffix_len_is (λ x. not (p x)) bytes start 0 behind.within all stop in
    let within = behind.within in
    let place : start ≡ length bytes - suffix_len (λ x. not (p x)) bytes = omega arith in
    ap (λ n. drop n bytes) place

-- each of the first bytes passes the test
pub record AllBefore (p : ℕ → Bool) (bytes : List ℕ) (end : ℕ) : Type 0 where
  pub within : end ≤ length bytes
  pub all : (k : ℕ) → k < end → p (get_or bytes k 0) ≡ true

pub run_end :
    (p : ℕ → Bool) (bytes : List ℕ) (end : ℕ) → AllBefore p bytes end → (end < length bytes → p (get_or bytes end 0) ≡ false)
    → end ≡ prefix_len p bytes
run_end p bytes end before stops = sym (prefix_len_is p bytes end 0 before.within before.all stops)
