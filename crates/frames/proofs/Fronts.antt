-- What stands at the front stays there, whatever follows.
use Rattle.std.proofs.Common.{◌≡◌, ℕ, ◌+◌, ◌<◌, ◌≤◌, Bool, true, false, cond, ltb, List, ◌++◌, length, take, drop, refl, arith, length-append, length-drop}
use Rattle.std.specs.Prelude.{slice_index}
use Rattle.byteorder.specs.Endian.{big_number}
use Rattle.byteorder.specs.Numbers.{big_from-append}
use Rattle.std.proofs.lemmas.Bool.{ltb-false, le-ltb}
use Rattle.std.proofs.lemmas.List.{take-append-le, drop-append-le, get_or_append_left}
use Rattle.machine.specs.declared.event.Event.{Event}
use Rattle.frames.specs.declared.request.Head.{Head}
use Rattle.frames.specs.declared.request.Head.TheVariants as head
use Rattle.frames.specs.Requests.{Next, Whole, Cut, what_of, head_of, with_body, next}

-- a front of a range that lies within
range_stays : (k n : ℕ) (a b : List ℕ) → n + k ≤ length a → take n (drop k (a ++ b)) ≡ take n (drop k a)
range_stays k n a b h =
    let le : k ≤ length a = omega arith in
    let short : n ≤ length (drop k a) = omega (arith, length-drop k a) in
    rw (drop-append-le k a b le) (take-append-le n (drop k a) b short)

-- a number that lies within
number_stays : (k n : ℕ) (a b : List ℕ) → k + n ≤ length a → big_number n (drop k (a ++ b)) ≡ big_number n (drop k a)
number_stays k n a b h =
    let le : k ≤ length a = omega arith in
    let short : n ≤ length (drop k a) = omega (arith, length-drop k a) in
    rw (drop-append-le k a b le) (big_from-append n (drop k a) b short)

pub head_stays : (a b : List ℕ) → 14 ≤ length a → head_of (a ++ b) ≡ head_of a
unfolding head_of
head_stays a b h =
    let long : ltb (length (a ++ b)) 14 ≡ false = le-ltb _ _ (omega (arith, length-append a b)) in
    let long_a : ltb (length a) 14 ≡ false = le-ltb _ _ h in
    let k : slice_index (a ++ b) 0 ≡ slice_index a 0 = get_or_append_left a b 0 0 (omega arith) in
    let i : slice_index (a ++ b) 1 ≡ slice_index a 1 = get_or_append_left a b 0 1 (omega arith) in
    rw (long, long_a, number_stays 2 4 a b (omega arith), number_stays 6 8 a b (omega arith), k, i) refl

-- what a whole frame is
pub record IsWhole (h : Head) (bytes : List ℕ) (rest : List ℕ) : Type 0 where
  pub len : ℕ
  pub long : 14 + len ≤ length bytes
  pub rest_is : rest ≡ drop (14 + len) bytes

pub test_long : {e : Next} (c : Bool) (n len : ℕ) (event : Event) (rest : List ℕ) → ltb n len ≡ c → cond c Cut e ≡ Whole event rest → (len ≤ n) × (e ≡ Whole event rest)
test_long true n len event rest t e = absurd cc
test_long false n len event rest t e = (ltb-false _ _ t, e)

whole_is : (h : Head) (bytes : List ℕ) (event : Event) (rest : List ℕ) → with_body h bytes ≡ Whole event rest → IsWhole h bytes rest
whole_is head.Cut bytes event rest e = absurd cc
whole_is (head.Bad fault) bytes event rest e = absurd cc
whole_is (head.Frame s m len) bytes event rest e =
    let p = test_long (ltb (length bytes) (14 + len)) (length bytes) (14 + len) event rest refl e in
    let f : Whole (record { moment = m; what = what_of s (take len (drop 14 bytes)) }) (drop (14 + len) bytes) ≡ Whole event rest = p.1 in
    record { len = len; long = p.0; rest_is = cc }

with_more : (h : Head) (a b : List ℕ) (event : Event) (rest : List ℕ) → with_body h a ≡ Whole event rest → with_body h (a ++ b) ≡ Whole event (rest ++ b)
with_more head.Cut a b event rest e = absurd cc
with_more (head.Bad fault) a b event rest e = absurd cc
with_more (head.Frame s m len) a b event rest e =
    let p = test_long (ltb (length a) (14 + len)) (length a) (14 + len) event rest refl e in
    let long : 14 + len ≤ length a = p.0 in
    let not_cut_more : ltb (length (a ++ b)) (14 + len) ≡ false = le-ltb _ _ (omega (arith, length-append a b)) in
    let f : Whole (record { moment = m; what = what_of s (take len (drop 14 a)) }) (drop (14 + len) a) ≡ Whole event rest = p.1 in
    let g : rest ≡ drop (14 + len) a = cc in
    let k : event ≡ record { moment = m; what = what_of s (take len (drop 14 a)) } = cc in
    rw (not_cut_more, range_stays 14 len a b (omega arith), drop-append-le (14 + len) a b long, g, k) refl

-- a whole frame takes a byte at least
pub next_shorter : (bytes : List ℕ) (event : Event) (rest : List ℕ) → next bytes ≡ Whole event rest → length rest < length bytes
unfolding next
next_shorter bytes event rest e =
    let w = whole_is (head_of bytes) bytes event rest e in
    rw w.rest_is (omega (arith, length-drop (14 + w.len) bytes, w.long))

-- a whole frame stays whole, whatever follows
pub next_more : (a b : List ℕ) (event : Event) (rest : List ℕ) → next a ≡ Whole event rest → next (a ++ b) ≡ Whole event (rest ++ b)
unfolding next
next_more a b event rest e =
    let w = whole_is (head_of a) a event rest e in
    rw (head_stays a b (omega (arith, w.long))) (with_more (head_of a) a b event rest e)
