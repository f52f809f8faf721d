-- What a stream reads as is what it was put together from.
use Rattle.std.proofs.Common.{◌≡◌, ◌≢◌, ℕ, zero, suc, ◌+◌, ◌-◌, ◌<◌, ◌≤◌, ◌^◌, Bool, true, false, cond, ltb, List, [], ◌∷◌, ◌++◌, length, take, drop, replicate, Result, Ok, Err, refl, sym, ap, ◌∙◌, arith, append_assoc, length-append, length-drop, length-take, nat_eq, subst, inl, inr}
use Rattle.std.specs.Prelude.{slice_index}
use Rattle.std.specs.Int.{w32, w64, from_be_bytes}
use Rattle.std.specs.List.{flat_map}
use Rattle.std.proofs.lemmas.Bool.{cases_cond, cases_lt, le-ltb, ltb-true, eqb-true}
use Rattle.std.proofs.lemmas.Nat.{be_bytes_4, be_bytes_8}
use Rattle.std.proofs.lemmas.List.{append-nil, drop-drop, take-append-drop, get_or-drop, length-replicate, drop-take}
use Rattle.std.proofs.Math.Seq.{drop-append_seam}
use Rattle.std.proofs.lemmas.List.Concat.{flat_map-cons}
use Rattle.byteorder.specs.Endian.{big_number, big_bytes}
use Rattle.byteorder.specs.Numbers.{big_from-take, big_from-lt}
use Rattle.packet.specs.declared.endpoint.Iface.TheVariants.{Lan, Wan}
use Rattle.machine.specs.declared.event.Event.{Event}
use Rattle.frames.specs.declared.fault.HeaderFault.{HeaderFault}
use Rattle.frames.specs.declared.fault.HeaderFault.TheVariants.{BadKind, BadInterface, TooLong}
use Rattle.frames.specs.declared.request.Kind.{Kind}
use Rattle.frames.specs.declared.request.Kind.TheVariants as kind
use Rattle.frames.specs.declared.request.Head.{Head}
use Rattle.frames.specs.declared.request.Head.TheVariants as head
use Rattle.frames.specs.Answers.{iface_byte}
use Rattle.frames.specs.Requests.{Next, Whole, Cut, Bad, announced, longest, head_with, head_of, what_of, with_body, next}
use Rattle.frames.specs.Framing.{EventsAndRest, whole_frames}
use Rattle.packet.specs.Laws.{AreBytes}
use Rattle.frames.specs.Streams.{kind_of, interface_of, request_body, longest_body, header, request, FitsFrame, IsNoFrame, IsFaulty, IsStream}
use Rattle.frames.proofs.Frames.{framed_whole, framed_cut, framed_bad}
use Rattle.frames.proofs.Fronts.{head_stays, next_shorter, test_long}
use Rattle.frames.proofs.Heads.{fault_is, faulted, good_with, interface_at, kind_at, length_at, long_head, moment_at}

-- ---- bytes of bytes

drop_bytes : (n : ℕ) (xs : List ℕ) → AreBytes xs → AreBytes (drop n xs)
drop_bytes n xs h = λ i. rw (get_or-drop n xs i 0) (h (n + i))

first_byte : (x : ℕ) (xs : List ℕ) → x < 256 → AreBytes xs → AreBytes (x ∷ xs)
first_byte x xs h t = each
  where
    each : (i : ℕ) → slice_index (x ∷ xs) i < 256
    each zero = h
    each (suc i) = t i

take_bytes : (n : ℕ) (xs : List ℕ) → AreBytes xs → AreBytes (take n xs)
take_bytes zero xs h = λ i. omega arith
take_bytes (suc n) [] h = λ i. omega arith
take_bytes (suc n) (x ∷ xs) h = first_byte x (take n xs) (h 0) (take_bytes n xs (λ j. h (suc j)))

-- the first bytes are those of the number that they are
number_front : (n : ℕ) (xs : List ℕ) → ((ys : List ℕ) (x : ℕ) → length ys ≡ n → AreBytes ys → x ≡ big_number n ys → big_bytes n x ≡ ys) → AreBytes xs → n ≤ length xs → big_bytes n (big_number n xs) ≡ take n xs
number_front n xs back h l = back (take n xs) (big_number n xs) (omega (arith, length-take n xs)) (take_bytes n xs h) (sym (big_from-take 0 n n xs (omega arith)))

number_4 : (ys : List ℕ) (x : ℕ) → length ys ≡ 4 → AreBytes ys → x ≡ big_number 4 ys → big_bytes 4 x ≡ ys
number_4 ys x n h e = be_bytes_4 ys x n h (let f : big_number 4 ys ≡ from_be_bytes w32 ys = omega arith in e ∙ f)

number_8 : (ys : List ℕ) (x : ℕ) → length ys ≡ 8 → AreBytes ys → x ≡ big_number 8 ys → big_bytes 8 x ≡ ys
number_8 ys x n h e = be_bytes_8 ys x n h (let f : big_number 8 ys ≡ from_be_bytes w64 ys = omega arith in e ∙ f)

two : (bytes : List ℕ) → 2 ≤ length bytes → bytes ≡ kind_at bytes ∷ interface_at bytes ∷ drop 2 bytes
two [] l = absurd (omega arith)
two (a ∷ []) l = absurd (omega arith)
two (a ∷ b ∷ bytes) l = refl

header_is : (bytes : List ℕ) → AreBytes bytes → 14 ≤ length bytes → bytes ≡ header (kind_at bytes) (interface_at bytes) (length_at bytes) (moment_at bytes) ++ drop 14 bytes
header_is bytes h l =
    let a : take 4 (drop 2 bytes) ≡ big_bytes 4 (length_at bytes) = sym (number_front 4 (drop 2 bytes) number_4 (drop_bytes 2 bytes h) (omega (arith, length-drop 2 bytes))) in
    let b : take 8 (drop 6 bytes) ≡ big_bytes 8 (moment_at bytes) = sym (number_front 8 (drop 6 bytes) number_8 (drop_bytes 6 bytes h) (omega (arith, length-drop 6 bytes))) in
    let c : drop 2 bytes ≡ big_bytes 4 (length_at bytes) ++ drop 6 bytes =
    sym (take-append-drop 4 (drop 2 bytes)) ∙ ap (λ (x : List ℕ). x ++ drop 4 (drop 2 bytes)) a ∙ ap (λ (x : List ℕ). big_bytes 4 (length_at bytes) ++ x) (drop-drop 4 2 bytes) in
    let d : drop 6 bytes ≡ big_bytes 8 (moment_at bytes) ++ drop 14 bytes =
    sym (take-append-drop 8 (drop 6 bytes)) ∙ ap (λ (x : List ℕ). x ++ drop 8 (drop 6 bytes)) b ∙ ap (λ (x : List ℕ). big_bytes 8 (moment_at bytes) ++ x) (drop-drop 8 6 bytes) in
    two bytes (omega arith) ∙ ap (λ (x : List ℕ). kind_at bytes ∷ interface_at bytes ∷ x) (c ∙ ap (λ (x : List ℕ). big_bytes 4 (length_at bytes) ++ x) d)

small_length : (bytes : List ℕ) → AreBytes bytes → length_at bytes < 2 ^ 32
small_length bytes h = big_from-lt 0 4 (drop 2 bytes) (drop_bytes 2 bytes h)

small_moment : (bytes : List ℕ) → AreBytes bytes → moment_at bytes < 2 ^ 64
small_moment bytes h = big_from-lt 0 8 (drop 6 bytes) (drop_bytes 6 bytes h)

-- ---- a kind's numbers

abbrev number_of : Kind → ℕ
number_of (kind.Packet iface) = 1
number_of kind.Load = 2
number_of kind.Moment = 3

abbrev byte_of : Kind → ℕ
byte_of (kind.Packet iface) = iface_byte iface
byte_of kind.Load = 0
byte_of kind.Moment = 0

by_tests : (a b c z o : Bool) (k i : ℕ) (kd : Kind) → nat_eq k 1 ≡ a → nat_eq k 2 ≡ b → nat_eq k 3 ≡ c → nat_eq i 0 ≡ z → nat_eq i 1 ≡ o
    → cond a (cond z (Ok (kind.Packet Lan)) (cond o (Ok (kind.Packet Wan)) (Err BadInterface))) (cond b (cond z (Ok kind.Load) (Err BadInterface)) (cond c (cond z (Ok kind.Moment) (Err BadInterface)) (Err BadKind))) ≡ Ok kd
    → (k ≡ number_of kd) × (i ≡ byte_of kd)
by_tests true b c true o k i kd h1 h2 h3 h4 h5 e = let x : kind.Packet Lan ≡ kd = cc in rw (← x) (eqb-true k 1 h1, eqb-true i 0 h4)
by_tests true b c false true k i kd h1 h2 h3 h4 h5 e = let x : kind.Packet Wan ≡ kd = cc in rw (← x) (eqb-true k 1 h1, eqb-true i 1 h5)
by_tests true b c false false k i kd h1 h2 h3 h4 h5 e = absurd cc
by_tests false true c true o k i kd h1 h2 h3 h4 h5 e = let x : kind.Load ≡ kd = cc in rw (← x) (eqb-true k 2 h2, eqb-true i 0 h4)
by_tests false true c false o k i kd h1 h2 h3 h4 h5 e = absurd cc
by_tests false false true true o k i kd h1 h2 h3 h4 h5 e = let x : kind.Moment ≡ kd = cc in rw (← x) (eqb-true k 3 h3, eqb-true i 0 h4)
by_tests false false true false o k i kd h1 h2 h3 h4 h5 e = absurd cc
by_tests false false false z o k i kd h1 h2 h3 h4 h5 e = absurd cc

numbers_are : (k i : ℕ) (kd : Kind) → announced k i ≡ Ok kd → (k ≡ number_of kd) × (i ≡ byte_of kd)
numbers_are k i kd e = by_tests (nat_eq k 1) (nat_eq k 2) (nat_eq k 3) (nat_eq i 0) (nat_eq i 1) k i kd refl refl refl refl refl e

-- ---- a header without a fault

body_is : (kd : Kind) (body : List ℕ) → length body ≤ longest kd → request_body (what_of kd body) ≡ body
body_is (kind.Packet iface) body l = refl
body_is kind.Load body l = refl
body_is kind.Moment [] l = refl
body_is kind.Moment (b ∷ body) l = absurd (omega arith)

-- its kind, its interface, and how long a body may be
kind_is : (kd : Kind) (body : List ℕ) → (kind_of (what_of kd body) ≡ number_of kd) × (interface_of (what_of kd body) ≡ byte_of kd) × (longest_body (number_of kd) ≡ longest kd)
kind_is (kind.Packet iface) body = (refl, refl, refl)
kind_is kind.Load body = (refl, refl, refl)
kind_is kind.Moment body = (refl, refl, refl)

request_is : (k i moment : ℕ) (kd : Kind) (body : List ℕ) → announced k i ≡ Ok kd → length body ≤ longest kd → request (record { moment = moment; what = what_of kd body }) ≡ header k i (length body) moment ++ body
request_is k i moment kd body a l =
    let n = numbers_are k i kd a in
    let is = kind_is kd body in
    rw (is.0, is.1, body_is kd body l, n.0, n.1) refl

fits_is : (moment : ℕ) (kd : Kind) (body : List ℕ) → moment < 2 ^ 64 → length body ≤ longest kd → FitsFrame (record { moment = moment; what = what_of kd body })
fits_is moment kd body m l = record { moment = m; body = rw (body_is kd body l, (kind_is kd body).0, (kind_is kd body).2) l }

-- ---- what stands at the front

never_cut : (r : Result Kind HeaderFault) (len moment : ℕ) → head_with r len moment ≢ head.Cut
never_cut (Err fault) len moment = λ e. absurd cc
never_cut (Ok k) len moment = λ e. elim (cases_cond (ltb (longest k) len) (head.Bad TooLong) (head.Frame k moment len) head.Cut (sym e)) [ inl bad ↦ absurd cc | inr taken ↦ absurd cc ]

long_not_cut : (bytes : List ℕ) → 14 ≤ length bytes → head_of bytes ≢ head.Cut
unfolding head_of
long_not_cut bytes l = λ e. (let t : ltb (length bytes) 14 ≡ false = le-ltb _ _ l in never_cut (announced (kind_at bytes) (interface_at bytes)) (length_at bytes) (moment_at bytes) (rw t at e))

-- a header without a fault, and a body of its length, of which some may be lacking
frame_is : (bytes lacking : List ℕ) (kd : Kind) (moment len : ℕ) → AreBytes bytes → head_of bytes ≡ head.Frame kd moment len → length (drop 14 bytes ++ lacking) ≡ len
    → (bytes ++ lacking ≡ request (record { moment = moment; what = what_of kd (drop 14 bytes ++ lacking) })) × FitsFrame (record { moment = moment; what = what_of kd (drop 14 bytes ++ lacking) })
frame_is bytes lacking kd moment len h e l =
    let p = long_head bytes (head.Frame kd moment len) e (λ x. absurd cc) in
    let g = good_with (announced (kind_at bytes) (interface_at bytes)) (length_at bytes) (moment_at bytes) kd len moment p.1 in
    let body = drop 14 bytes ++ lacking in
    let short : length body ≤ longest kd = rw (l, g.len_is) g.short in
    let a : bytes ++ lacking ≡ header (kind_at bytes) (interface_at bytes) (length_at bytes) (moment_at bytes) ++ body =
    ap (λ (x : List ℕ). x ++ lacking) (header_is bytes h p.0) ∙ append_assoc (header (kind_at bytes) (interface_at bytes) (length_at bytes) (moment_at bytes)) (drop 14 bytes) lacking in
    let b : header (kind_at bytes) (interface_at bytes) (length_at bytes) (moment_at bytes) ++ body ≡ header (kind_at bytes) (interface_at bytes) (length body) moment ++ body =
    rw (l, g.len_is, g.moment_is) refl in
    (a ∙ b ∙ sym (request_is (kind_at bytes) (interface_at bytes) moment kd body g.announces short), fits_is moment kd body (rw g.moment_is (small_moment bytes h)) short)

whole_with : (h : Head) (bytes : List ℕ) (event : Event) (rest : List ℕ) → AreBytes bytes → head_of bytes ≡ h → with_body h bytes ≡ Whole event rest → (bytes ≡ request event ++ rest) × FitsFrame event
whole_with head.Cut bytes event rest h e w = absurd cc
whole_with (head.Bad fault) bytes event rest h e w = absurd cc
whole_with (head.Frame kd moment len) bytes event rest h e w =
    let p = test_long (ltb (length bytes) (14 + len)) (length bytes) (14 + len) event rest refl w in
    let long : 14 + len ≤ length bytes = p.0 in
    let is : Whole (record { moment = moment; what = what_of kd (take len (drop 14 bytes)) }) (drop (14 + len) bytes) ≡ Whole event rest = p.1 in
    let front = take (14 + len) bytes in
    let body : drop 14 front ≡ take len (drop 14 bytes) = drop-take 14 len bytes in
    let n : length (drop 14 front ++ []) ≡ len = rw (append-nil (drop 14 front), body) (omega (arith, length-take len (drop 14 bytes), length-drop 14 bytes)) in
    let e' : head_of front ≡ head.Frame kd moment len = sym (head_stays front (drop (14 + len) bytes) (omega (arith, length-take (14 + len) bytes))) ∙ ap head_of (take-append-drop (14 + len) bytes) ∙ e in
    let f = frame_is front [] kd moment len (take_bytes (14 + len) bytes h) e' n in
    let b : drop 14 front ++ [] ≡ take len (drop 14 bytes) = append-nil (drop 14 front) ∙ body in
    let f' : (front ++ [] ≡ request (record { moment = moment; what = what_of kd (take len (drop 14 bytes)) })) × FitsFrame (record { moment = moment; what = what_of kd (take len (drop 14 bytes)) }) = rw (← b) f in
    let x : record { moment = moment; what = what_of kd (take len (drop 14 bytes)) } ≡ event = cc in
    let y : drop (14 + len) bytes ≡ rest = cc in
    let whole : bytes ≡ request (record { moment = moment; what = what_of kd (take len (drop 14 bytes)) }) ++ drop (14 + len) bytes =
    sym (take-append-drop (14 + len) bytes) ∙ ap (λ (z : List ℕ). z ++ drop (14 + len) bytes) (sym (append-nil front) ∙ f'.0) in
    (subst (λ (ev : Event). bytes ≡ request ev ++ rest) x (subst (λ (r : List ℕ). bytes ≡ request (record { moment = moment; what = what_of kd (take len (drop 14 bytes)) }) ++ r) y whole), subst FitsFrame x f'.1)

cut_with : (h : Head) (bytes : List ℕ) → AreBytes bytes → head_of bytes ≡ h → with_body h bytes ≡ Cut → IsNoFrame bytes
cut_with head.Cut bytes h e w = elim (cases_lt (length bytes) 14) [ inl short ↦ inl short | inr long ↦ absurd (long_not_cut bytes long e) ]
cut_with (head.Bad fault) bytes h e w = absurd cc
cut_with (head.Frame kd moment len) bytes h e w = tested (ltb (length bytes) (14 + len)) refl w
  where
    tested : (b : Bool) → ltb (length bytes) (14 + len) ≡ b → cond b Cut (Whole (record { moment = moment; what = what_of kd (take len (drop 14 bytes)) }) (drop (14 + len) bytes)) ≡ Cut → IsNoFrame bytes
    tested false t w = absurd cc
    tested true t w =
        let short : length bytes < 14 + len = ltb-true _ _ t in
        let p = long_head bytes (head.Frame kd moment len) e (λ x. absurd cc) in
        let k = 14 + len - length bytes in
        let lacking : List ℕ = replicate k 0 in
        let size : length lacking ≡ k = length-replicate k 0 in
        let n : length (drop 14 bytes ++ lacking) ≡ len = omega (arith, length-append (drop 14 bytes) lacking, length-drop 14 bytes, size, p.0, short) in
        let f = frame_is bytes lacking kd moment len h e n in
        let some : lacking ≢ [] = λ z. (let q : k ≡ 0 = sym size ∙ ap length z in absurd (omega (arith, q, short))) in
        inr (record { moment = moment; what = what_of kd (drop 14 bytes ++ lacking) }, lacking, f.1, some, f.0)

bad_with : (h : Head) (bytes : List ℕ) (fault : HeaderFault) → with_body h bytes ≡ Bad fault → h ≡ head.Bad fault
bad_with head.Cut bytes fault w = absurd cc
bad_with (head.Bad f) bytes fault w = cc
bad_with (head.Frame kd moment len) bytes fault w =
    elim (cases_cond (ltb (length bytes) (14 + len)) Cut (Whole (record { moment = moment; what = what_of kd (take len (drop 14 bytes)) }) (drop (14 + len) bytes)) (Bad fault) (sym w)) [ inl cut ↦ absurd cc | inr whole ↦ absurd cc ]

faulty_was : (bytes : List ℕ) (fault : HeaderFault) → AreBytes bytes → head_of bytes ≡ head.Bad fault → IsFaulty fault bytes
faulty_was bytes fault h e =
    let p = long_head bytes (head.Bad fault) e (λ x. absurd cc) in
    record {
      kind = kind_at bytes;
      iface = interface_at bytes;
      len = length_at bytes;
      moment = moment_at bytes;
      more = drop 14 bytes;
      bytes_are = header_is bytes h p.0;
      fits = small_length bytes h;
      faulty = sym (fault_is (kind_at bytes) (interface_at bytes) (length_at bytes) (moment_at bytes)) ∙ ap faulted p.1;
    }

-- ---- the stream

whole_was : (bytes : List ℕ) (event : Event) (rest : List ℕ) → AreBytes bytes → next bytes ≡ Whole event rest → (bytes ≡ request event ++ rest) × FitsFrame event
unfolding next
whole_was bytes event rest h w = whole_with (head_of bytes) bytes event rest h refl w

cut_was : (bytes : List ℕ) → AreBytes bytes → next bytes ≡ Cut → IsNoFrame bytes
unfolding next
cut_was bytes h w = cut_with (head_of bytes) bytes h refl w

bad_was : (bytes : List ℕ) (fault : HeaderFault) → AreBytes bytes → next bytes ≡ Bad fault → IsFaulty fault bytes
unfolding next
bad_was bytes fault h w = faulty_was bytes fault h (bad_with (head_of bytes) bytes fault w)

stream_of : (n : ℕ) (bytes : List ℕ) (front : Next) → length bytes ≤ n → AreBytes bytes → next bytes ≡ front → IsStream bytes (whole_frames bytes)
stream_of n bytes Cut l h e =
    subst (λ (f : EventsAndRest). IsStream bytes f) (sym (framed_cut bytes e)) (record { fit = tt; tail = bytes; bytes_are = refl; ending = (refl, cut_was bytes h e) })
stream_of n bytes (Bad fault) l h e =
    subst (λ (f : EventsAndRest). IsStream bytes f) (sym (framed_bad bytes fault e)) (record { fit = tt; tail = bytes; bytes_are = refl; ending = bad_was bytes fault h e })
stream_of zero bytes (Whole event rest) l h e = absurd (omega (arith, next_shorter bytes event rest e))
stream_of (suc n) bytes (Whole event rest) l h e =
    let p = whole_was bytes event rest h e in
    let r : AreBytes rest = subst (λ (x : List ℕ). AreBytes x) (ap (drop (length (request event))) p.0 ∙ drop-append_seam (request event) rest) (drop_bytes (length (request event)) bytes h) in
    let short : length rest ≤ n = omega (arith, next_shorter bytes event rest e, l) in
    let s = stream_of n rest (next rest) short r refl in
    let all : bytes ≡ flat_map request (event ∷ (whole_frames rest).events) ++ s.tail =
    p.0 ∙ ap (λ (x : List ℕ). request event ++ x) s.bytes_are ∙ sym (append_assoc (request event) (flat_map request (whole_frames rest).events) s.tail)
    ∙ ap (λ (x : List ℕ). x ++ s.tail) (sym (flat_map-cons request event (whole_frames rest).events)) in
    subst (λ (f : EventsAndRest). IsStream bytes f) (sym (framed_whole bytes event rest e)) (record { fit = (p.1, s.fit); tail = s.tail; bytes_are = all; ending = s.ending })

-- bytes are a stream of what they read as
pub bytes_stream : (bytes : List ℕ) (f : EventsAndRest) → AreBytes bytes → whole_frames bytes ≡ f → IsStream bytes f
bytes_stream bytes f h e = subst (λ (x : EventsAndRest). IsStream bytes x) e (stream_of (length bytes) bytes (next bytes) (omega arith) h refl)
