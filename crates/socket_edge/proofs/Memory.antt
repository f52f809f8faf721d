-- Bytes that are written over others, and moved among them.
use Rattle.std.proofs.Common.{◌≡◌, ℕ, ◌+◌, ◌-◌, ◌≤◌, List, ◌++◌, length, take, drop, refl, sym, ap, ◌∙◌, arith, length-drop, take-take, drop-drop, length-take-le}
use Rattle.std.specs.List.{copy_within}
use Rattle.std.proofs.lemmas.List.{take-append-le, drop-append-le, drop-take}
use Rattle.std.proofs.lemmas.Slice.{between_is, between-put_mid, drop-put_mid, take-put_mid_below}
use Rattle.socket_edge.specs.Exchange.{Exchange}
use borrow.Rule.Slice.PartMut.{put_mid, same_len_mid}

-- what the bytes are seen as: frames up to a, those of held answers from there to h, and from r to e those that wait
abbrev pub view : ℕ → ℕ → ℕ → ℕ → List ℕ → Exchange
view a h r e xs = record { answered = take a xs; held = drop a (take h xs); unanswered = drop r (take e xs) }

-- what is seen depends on the bytes up to the end of those that wait
pub alike : (a h r e n : ℕ) (xs ys more : List ℕ) → a ≤ h → h ≤ r → r ≤ e → e ≤ length xs → take (e + n) ys ≡ take e xs ++ more
    → view a h r (e + n) ys ≡ record { answered = take a xs; held = drop a (take h xs); unanswered = drop r (take e xs) ++ more }
alike a h r e n xs ys more first second third fits is =
    let size : length (take e xs) ≡ e = length-take-le e xs fits in
    let same : (k : ℕ) → k ≤ e → take k ys ≡ take k xs = λ k within.
    sym (take-take k (e + n) ys (omega (arith, within))) ∙ ap (take k) is ∙ take-append-le k (take e xs) more (omega (arith, size, within)) ∙ take-take k e xs within in
    rw (same a (omega (arith, first, second, third)), same h (omega (arith, second, third)), ap (drop r) is ∙ drop-append-le r (take e xs) more (omega (arith, size, third))) refl

pub part_size : (w r : ℕ) (xs : List ℕ) → w ≤ r → r ≤ length xs → length (take (r - w) (drop w xs)) ≡ r - w
part_size w r xs within fits = length-take-le (r - w) (drop w xs) (omega (arith, length-drop w xs, within, fits))

pub between_size : (w r : ℕ) (xs ys : List ℕ) → w ≤ r → r ≤ length xs → length ys ≡ r - w → length (put_mid w (r - w) xs ys) ≡ length xs
between_size w r xs ys first fits as_many = same_len_mid w (r - w) xs ys (as_many ∙ sym (part_size w r xs first fits))

-- the bytes that wait are moved to the front, where no frames are
pub moved : (r e : ℕ) (xs : List ℕ) → r ≤ e → e ≤ length xs → take (e - r) (copy_within xs r e 0) ≡ drop r (take e xs)
moved r e xs within fits =
    let n = e - r in
    let size : length (take n (drop r xs)) ≡ n = part_size r e xs within fits in
    take-append-le n (take n (drop r xs)) (drop (0 + n) xs) (omega (arith, size)) ∙ take-take n n (drop r xs) (omega arith) ∙ between_is xs r e

-- a part was written over, and its first bytes moved behind the frames
pub seen_passed : (w r k n e : ℕ) (xs two ys : List ℕ) → w ≤ r → r + n ≤ e → e ≤ length xs → length ys ≡ n → k ≤ n
    → take (w + k) two ≡ take w (put_mid r (r + n - r) xs ys) ++ take k (drop r (put_mid r (r + n - r) xs ys))
    → drop (r + k) two ≡ drop (r + k) (put_mid r (r + n - r) xs ys)
    → (take (w + k) two ≡ take w xs ++ take k ys) × (drop (r + n) (take e two) ≡ drop (r + n) (take e xs))
seen_passed w r k n e xs two ys first then fits as_many few there behind =
    let m : r + n - r ≡ n = omega arith in
    let one : List ℕ = put_mid r (r + n - r) xs ys in
    let within : r ≤ length xs = omega (arith, then, fits) in
    let part : take n (drop r one) ≡ ys = ap (λ (i : ℕ). take i (drop r one)) (sym m) ∙ between-put_mid r (r + n - r) xs ys (r + n) within (as_many ∙ sym m) in
    let more : r + n ≡ r + k + (n - k) = omega (arith, few) in
    let later : (zs : List ℕ) → drop (r + n) zs ≡ drop (n - k) (drop (r + k) zs) = λ zs. ap (λ (i : ℕ). drop i zs) more ∙ sym (drop-drop (n - k) (r + k) zs) in (
      there ∙ ap (λ (zs : List ℕ). zs ++ take k (drop r one)) (take-put_mid_below r (r + n - r) xs ys w first within)
          ∙ ap (λ (zs : List ℕ). take w xs ++ zs) (sym (take-take k n (drop r one) few) ∙ ap (take k) part),
      sym (between_is two (r + n) e)
          ∙ ap (take (e - (r + n))) (later two ∙ ap (drop (n - k)) behind ∙ sym (later one) ∙ drop-put_mid r (r + n - r) xs ys (r + n) (omega arith) within (as_many ∙ sym m))
          ∙ between_is xs (r + n) e,
    )

-- what stands in the part behind its first bytes
part_behind : (r k len e : ℕ) (xs : List ℕ) → r + (k + len) ≤ e → drop k (take (r + (k + len) - r) (drop r xs)) ≡ take len (drop k (drop r (take e xs)))
part_behind r k len e xs within =
    let ys : List ℕ = drop r xs in
    let m = e - r - k in
    let whole : r + (k + len) - r ≡ k + len = omega arith in
    let more : k + m ≡ e - r = omega (arith, within) in
    ap (λ (n : ℕ). drop k (take n ys)) whole ∙ drop-take k len ys
    ∙ sym (take-take len m (drop k ys) (omega (arith, within)))
    ∙ ap (take len) (sym (drop-take k m ys) ∙ ap (λ (n : ℕ). drop k (take n ys)) more ∙ ap (drop k) (between_is xs r e))

-- the packet of a frame that stands in front of those that wait
pub packet_in : (r len e : ℕ) (xs bytes : List ℕ) → 14 ≤ len → r + len ≤ e → drop r (take e xs) ≡ bytes
    → drop 14 (take (r + len - r) (drop r xs)) ≡ take (len - 14) (drop 14 bytes)
packet_in r len e xs bytes some within waits =
    let whole : len ≡ 14 + (len - 14) = omega (arith, some) in
    ap (λ (m : ℕ). drop 14 (take (r + m - r) (drop r xs))) whole ∙ part_behind r 14 (len - 14) e xs (omega (arith, within, whole))
    ∙ ap (λ (zs : List ℕ). take (len - 14) (drop 14 zs)) waits

-- so many bytes wait
pub ends_within : (r e n : ℕ) (xs bytes : List ℕ) → r ≤ e → e ≤ length xs → bytes ≡ drop r (take e xs) → n ≤ length bytes → r + n ≤ e
ends_within r e n xs bytes within fits is many =
    omega (arith, many, ap (λ (zs : List ℕ). length zs) is, length-drop r (take e xs), length-take-le e xs fits, within)
