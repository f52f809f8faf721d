-- The frame of an answer, apart and put together.
use Rattle.std.proofs.Common.{◌≡◌, ◌≢◌, ℕ, ◌+◌, ◌-◌, ◌<◌, ◌≤◌, ◌^◌, ◌==◌, zero, suc, Bool, true, false, if◌then◌else◌, List, [], ◌∷◌, ◌++◌, length, take, drop, refl, sym, ap, subst, ◌∙◌, arith, append_assoc, length-append, length-drop, length-take}
use Rattle.std.specs.Prelude.{nat_le, slice_index}
use Rattle.std.specs.Int.{w32, w64, from_be_bytes}
use Rattle.std.specs.List.{AllByRecursion, flat_map}
use Rattle.std.proofs.lemmas.Bool.{eqb-true}
use Rattle.std.proofs.lemmas.Nat.{be_bytes_4, be_bytes_8}
use Rattle.std.proofs.lemmas.List.{drop-drop, take-append-drop, get_or-drop, nil_from_length}
use Rattle.std.proofs.lemmas.List.Concat.{flat_map-cons}
use Rattle.std.proofs.Math.Seq.{take-append-add, take-append_seam, take-length, drop-append_seam}
use Rattle.byteorder.specs.Endian.{big_number, big_bytes}
use Rattle.byteorder.specs.Numbers.{big_from-take, big_from-lt, big_number-reads_back}
use Rattle.packet.specs.Laws.{AreBytes}
use Rattle.to_devices.specs.Counting.{AreCounted, counted, leaves_one}
use Rattle.to_devices.specs.Replies.{Reply, FitsReply, HasNoReply, reply_frame}
use Rattle.to_devices.specs.declared.counts.Counts.{Counts}
use Rattle.to_devices.specs.Leaving.{leaving_by, leaving_on}
use Rattle.to_devices.specs.Laws.{LeavesAlike}

drop_bytes : (n : ℕ) (xs : List ℕ) → AreBytes xs → AreBytes (drop n xs)
drop_bytes n xs h = λ i. rw (get_or-drop n xs i 0) (h (n + i))

first_byte : (x : ℕ) (xs : List ℕ) → x < 256 → AreBytes xs → AreBytes (x ∷ xs)
first_byte x xs h t = each
  where
    each : (i : ℕ) → slice_index (x ∷ xs) i < 256
    each zero = h
    each (suc i) = t i

take_bytes : (n : ℕ) (xs : List ℕ) → AreBytes xs → AreBytes (take n xs)
take_bytes zero xs h = λ i. omega arith
take_bytes (suc n) [] h = λ i. omega arith
take_bytes (suc n) (x ∷ xs) h = first_byte x (take n xs) (h 0) (take_bytes n xs (λ j. h (suc j)))

number_4 : (xs : List ℕ) → AreBytes xs → 4 ≤ length xs → big_bytes 4 (big_number 4 xs) ≡ take 4 xs
number_4 xs h l =
    let e : big_number 4 xs ≡ big_number 4 (take 4 xs) = sym (big_from-take 0 4 4 xs (omega arith)) in
    let n : length (take 4 xs) ≡ 4 = omega (arith, length-take 4 xs) in
    let f : big_number 4 (take 4 xs) ≡ from_be_bytes w32 (take 4 xs) = omega arith in
    be_bytes_4 (take 4 xs) (big_number 4 xs) n (take_bytes 4 xs h) (e ∙ f)

number_8 : (xs : List ℕ) → AreBytes xs → 8 ≤ length xs → big_bytes 8 (big_number 8 xs) ≡ take 8 xs
number_8 xs h l =
    let e : big_number 8 xs ≡ big_number 8 (take 8 xs) = sym (big_from-take 0 8 8 xs (omega arith)) in
    let n : length (take 8 xs) ≡ 8 = omega (arith, length-take 8 xs) in
    let f : big_number 8 (take 8 xs) ≡ from_be_bytes w64 (take 8 xs) = omega arith in
    be_bytes_8 (take 8 xs) (big_number 8 xs) n (take_bytes 8 xs h) (e ∙ f)

-- all that is behind a place
pub rest_whole : (at : ℕ) (xs : List ℕ) → take (length xs - at) (drop at xs) ≡ drop at xs
rest_whole at xs = rw (← length-drop at xs) (take-length (drop at xs))

-- the answer whose head stands at the front
abbrev pub reply_at : List ℕ → Reply
reply_at b = record { kind = slice_index b 0; number = big_number 8 (drop 1 b); body = take (big_number 4 (drop 9 b)) (drop 13 b) }

one : (b : List ℕ) → 1 ≤ length b → b ≡ slice_index b 0 ∷ drop 1 b
one [] l = absurd (omega arith)
one (a ∷ b) l = refl

head_is : (b : List ℕ) → AreBytes b → 13 ≤ length b
    → b ≡ (slice_index b 0 ∷ big_bytes 8 (big_number 8 (drop 1 b)) ++ big_bytes 4 (big_number 4 (drop 9 b))) ++ drop 13 b
head_is b h l =
    let n = big_bytes 8 (big_number 8 (drop 1 b)) in
    let m = big_bytes 4 (big_number 4 (drop 9 b)) in
    let a : take 8 (drop 1 b) ≡ n = sym (number_8 (drop 1 b) (drop_bytes 1 b h) (omega (arith, length-drop 1 b))) in
    let c : take 4 (drop 9 b) ≡ m = sym (number_4 (drop 9 b) (drop_bytes 9 b h) (omega (arith, length-drop 9 b))) in
    let d : drop 1 b ≡ n ++ drop 9 b =
    sym (take-append-drop 8 (drop 1 b)) ∙ ap (λ (x : List ℕ). x ++ drop 8 (drop 1 b)) a ∙ ap (λ (x : List ℕ). n ++ x) (drop-drop 8 1 b) in
    let e : drop 9 b ≡ m ++ drop 13 b =
    sym (take-append-drop 4 (drop 9 b)) ∙ ap (λ (x : List ℕ). x ++ drop 4 (drop 9 b)) c ∙ ap (λ (x : List ℕ). m ++ x) (drop-drop 4 9 b) in
    one b (omega arith) ∙ ap (λ (x : List ℕ). slice_index b 0 ∷ x) (d ∙ ap (λ (x : List ℕ). n ++ x) e)

pub reply_fits : (b : List ℕ) → AreBytes b → 13 + big_number 4 (drop 9 b) ≤ length b → FitsReply (reply_at b)
reply_fits b h l =
    let small : big_number 4 (drop 9 b) < 2 ^ 32 = big_from-lt 0 4 (drop 9 b) (drop_bytes 9 b h) in
    omega (arith, small, length-take (big_number 4 (drop 9 b)) (drop 13 b))

pub reply_is : (b : List ℕ) → AreBytes b → 13 + big_number 4 (drop 9 b) ≤ length b → take (13 + big_number 4 (drop 9 b)) b ≡ reply_frame (reply_at b)
unfolding reply_frame
reply_is b h l =
    let len = big_number 4 (drop 9 b) in
    let front = slice_index b 0 ∷ big_bytes 8 (big_number 8 (drop 1 b)) ++ big_bytes 4 len in
    let body : length (take len (drop 13 b)) ≡ len = omega (arith, length-take len (drop 13 b), length-drop 13 b) in
    let whole : b ≡ front ++ drop 13 b = head_is b h (omega arith) in
    ap (take (13 + len)) whole ∙ take-append-add front (drop 13 b) len ∙ rw body refl

front_size : (r : Reply) → length (reply_frame r) ≡ 13 + length r.body
unfolding reply_frame
front_size r = omega arith

length_reads : (r : Reply) (more : List ℕ) → FitsReply r → big_number 4 (drop 9 (reply_frame r ++ more)) ≡ length r.body
unfolding reply_frame
length_reads r more fits = big_number-reads_back 4 (length r.body) (r.body ++ more) fits

pub too_few : (b : List ℕ) → length b < 13 → HasNoReply b
too_few b short = λ r more fits e. absurd (omega (arith, ap length e, front_size r, length-append (reply_frame r) more, short))

pub too_short : (b : List ℕ) → length b - 13 < big_number 4 (drop 9 b) → HasNoReply b
too_short b short = λ r more fits e. (
    let n : big_number 4 (drop 9 b) ≡ length r.body = ap (λ (x : List ℕ). big_number 4 (drop 9 x)) e ∙ length_reads r more fits in
    absurd (omega (arith, ap length e, front_size r, length-append (reply_frame r) more, short, n)))

-- ---- what leaves by the bytes of an answer

pub kind_read : (r : Reply) (b : List ℕ) → b ≡ reply_frame r → slice_index b 0 ≡ r.kind
unfolding reply_frame
kind_read r b e = rw e refl

pub body_read : (r : Reply) (b : List ℕ) → b ≡ reply_frame r → drop 13 b ≡ r.body
unfolding reply_frame
body_read r b e = rw e refl

one_more : (n : ℕ) (b : List ℕ) → n < length b → drop n b ≡ slice_index b n ∷ drop (suc n) b
one_more n [] l = absurd (omega arith)
one_more zero (x ∷ b) l = refl
one_more (suc n) (x ∷ b) l = one_more n b (omega arith)

pub leaves : (side : ℕ) (header b : List ℕ) (r : Reply) → b ≡ reply_frame r → slice_index b 0 ≡ 1 → 14 ≤ length b
    → leaving_by side header r ≡ leaving_on side header (slice_index b 13 ∷ drop 14 b)
leaves side header b r e kind long =
    let k : r.kind ≡ 1 = sym (kind_read r b e) ∙ kind in
    let body : r.body ≡ slice_index b 13 ∷ drop 14 b = sym (body_read r b e) ∙ one_more 13 b (omega arith) in
    rw (k, body) refl

pub other_kind : (side : ℕ) (header b : List ℕ) (r : Reply) → b ≡ reply_frame r → slice_index b 0 ≢ 1 → leaving_by side header r ≡ []
other_kind side header b r e kind = tested (r.kind == 1) refl
  where
    tested : (t : Bool) → (r.kind == 1) ≡ t → (if t then leaving_on side header r.body else []) ≡ []
    tested true t = absurd (kind (kind_read r b e ∙ eqb-true r.kind 1 t))
    tested false t = refl

either_none : (t : Bool) → if◌then◌else◌ {A = List (List ℕ)} t [] [] ≡ []
either_none true = refl
either_none false = refl

pub no_body : (side : ℕ) (header b : List ℕ) (r : Reply) → b ≡ reply_frame r → length b < 14 → leaving_by side header r ≡ []
no_body side header b r e short =
    let none : r.body ≡ [] = nil_from_length r.body (omega (arith, ap length e, front_size r, short)) in
    rw none (either_none (r.kind == 1))

-- ---- what is counted

pub counts_other : (from_wan : Bool) (b : List ℕ) (r : Reply) (c c' : Counts) → b ≡ reply_frame r → c' ≡ counted from_wan false (slice_index b 0) (drop 13 b) c
    → (out : Bool) × (c' ≡ counted from_wan out r.kind r.body c)
counts_other from_wan b r c c' e is = (
  false,
  is ∙ ap (λ (k : ℕ). counted from_wan false k (drop 13 b) c) (kind_read r b e) ∙ ap (λ (x : List ℕ). counted from_wan false r.kind x c) (body_read r b e),
)

pub counts_none : (from_wan : Bool) (b : List ℕ) (r : Reply) (c : Counts) → b ≡ reply_frame r → slice_index b 0 ≡ 1 → length b < 14
    → (out : Bool) × (c ≡ counted from_wan out r.kind r.body c)
counts_none from_wan b r c e kind short =
    let k : r.kind ≡ 1 = sym (kind_read r b e) ∙ kind in
    let none : r.body ≡ [] = nil_from_length r.body (omega (arith, ap length e, front_size r, short)) in
    (false, rw (k, none) refl)

pub counts_left : (from_wan : Bool) (b : List ℕ) (r : Reply) (c c' : Counts) → b ≡ reply_frame r → slice_index b 0 ≡ 1 → 14 ≤ length b
    → (out : Bool) × (c' ≡ leaves_one out (slice_index b 13 ∷ drop 14 b) c) → (out : Bool) × (c' ≡ counted from_wan out r.kind r.body c)
counts_left from_wan b r c c' e kind long is =
    let k : r.kind ≡ 1 = sym (kind_read r b e) ∙ kind in
    let body : r.body ≡ slice_index b 13 ∷ drop 14 b = sym (body_read r b e) ∙ one_more 13 b (omega arith) in
    (is.0, rw (k, body) is.1)

-- ---- the same bytes, told apart otherwise

kind_same : (r s : Reply) (x y : List ℕ) → reply_frame r ++ x ≡ reply_frame s ++ y → r.kind ≡ s.kind
unfolding reply_frame
kind_same r s x y e = ap (λ (b : List ℕ). slice_index b 0) e

length_same : (r s : Reply) (x y : List ℕ) → FitsReply r → FitsReply s → reply_frame r ++ x ≡ reply_frame s ++ y → length r.body ≡ length s.body
length_same r s x y p q e = sym (length_reads r x p) ∙ ap (λ (b : List ℕ). big_number 4 (drop 9 b)) e ∙ length_reads s y q

behind_head : (r : Reply) (x : List ℕ) → drop 13 (reply_frame r ++ x) ≡ r.body ++ x
unfolding reply_frame
behind_head r x = refl

body_same : (r s : Reply) (x y : List ℕ) → FitsReply r → FitsReply s → reply_frame r ++ x ≡ reply_frame s ++ y → (r.body ≡ s.body) × (x ≡ y)
body_same r s x y p q e =
    let n : length r.body ≡ length s.body = length_same r s x y p q e in
    let b : r.body ++ x ≡ s.body ++ y = sym (behind_head r x) ∙ ap (drop 13) e ∙ behind_head s y in
    let front : r.body ≡ s.body = sym (take-append_seam r.body x) ∙ ap (take (length r.body)) b ∙ ap (λ (k : ℕ). take k (s.body ++ y)) n ∙ take-append_seam s.body y in
    let back : x ≡ y = sym (drop-append_seam r.body x) ∙ ap (drop (length r.body)) b ∙ ap (λ (k : ℕ). drop k (s.body ++ y)) n ∙ drop-append_seam s.body y in
    (front, back)

pub leaves_alike : LeavesAlike
leaves_alike side headers [] [] rest more p q n m e = refl
leaves_alike side headers [] (s ∷ two) rest more p q n m e =
    absurd (n s (flat_map reply_frame two ++ more) q.0 (e ∙ ap (λ (x : List ℕ). x ++ more) (flat_map-cons reply_frame s two) ∙ append_assoc (reply_frame s) (flat_map reply_frame two) more))
leaves_alike side headers (r ∷ one) [] rest more p q n m e =
    absurd (m r (flat_map reply_frame one ++ rest) p.0 (sym e ∙ ap (λ (x : List ℕ). x ++ rest) (flat_map-cons reply_frame r one) ∙ append_assoc (reply_frame r) (flat_map reply_frame one) rest))
leaves_alike side headers (r ∷ one) (s ∷ two) rest more p q n m e =
    let x = flat_map reply_frame one ++ rest in
    let y = flat_map reply_frame two ++ more in
    let e' : reply_frame r ++ x ≡ reply_frame s ++ y =
    sym (ap (λ (z : List ℕ). z ++ rest) (flat_map-cons reply_frame r one) ∙ append_assoc (reply_frame r) (flat_map reply_frame one) rest) ∙ e
    ∙ (ap (λ (z : List ℕ). z ++ more) (flat_map-cons reply_frame s two) ∙ append_assoc (reply_frame s) (flat_map reply_frame two) more) in
    let kind = kind_same r s x y e' in
    let body = body_same r s x y p.0 q.0 e' in
    let others = leaves_alike side (drop 1 headers) one two rest more p.1 q.1 n m body.1 in
    rw (kind, body.0, others) refl

-- what was counted of frames is so however they are told apart
pub counts_alike : (wan_from number : ℕ) (one two : List Reply) (rest more : List ℕ) (c c' : Counts) → AllByRecursion FitsReply one → AllByRecursion FitsReply two → HasNoReply rest → HasNoReply more → flat_map reply_frame one ++ rest ≡ flat_map reply_frame two ++ more
    → AreCounted wan_from number one c c' → AreCounted wan_from number two c c'
counts_alike wan_from number [] [] rest more c c' p q n m e are = are
counts_alike wan_from number [] (s ∷ two) rest more c c' p q n m e are =
    absurd (n s (flat_map reply_frame two ++ more) q.0 (e ∙ ap (λ (x : List ℕ). x ++ more) (flat_map-cons reply_frame s two) ∙ append_assoc (reply_frame s) (flat_map reply_frame two) more))
counts_alike wan_from number (r ∷ one) [] rest more c c' p q n m e are =
    absurd (m r (flat_map reply_frame one ++ rest) p.0 (sym e ∙ ap (λ (x : List ℕ). x ++ rest) (flat_map-cons reply_frame r one) ∙ append_assoc (reply_frame r) (flat_map reply_frame one) rest))
counts_alike wan_from number (r ∷ one) (s ∷ two) rest more c c' p q n m e are =
    let x = flat_map reply_frame one ++ rest in
    let y = flat_map reply_frame two ++ more in
    let e' : reply_frame r ++ x ≡ reply_frame s ++ y =
    sym (ap (λ (z : List ℕ). z ++ rest) (flat_map-cons reply_frame r one) ∙ append_assoc (reply_frame r) (flat_map reply_frame one) rest) ∙ e
    ∙ (ap (λ (z : List ℕ). z ++ more) (flat_map-cons reply_frame s two) ∙ append_assoc (reply_frame s) (flat_map reply_frame two) more) in
    let kind = kind_same r s x y e' in
    let body = body_same r s x y p.0 q.0 e' in
    let wan = nat_le wan_from number in
    let same : counted wan are.0 r.kind r.body c ≡ counted wan are.0 s.kind s.body c =
    ap (λ (k : ℕ). counted wan are.0 k r.body c) kind ∙ ap (λ (b : List ℕ). counted wan are.0 s.kind b c) body.0 in
    (are.0, counts_alike wan_from (number + 1) one two rest more (counted wan are.0 s.kind s.body c) c' p.1 q.1 n m body.1 (subst (λ (d : Counts). AreCounted wan_from (number + 1) one d c') same are.1))
