-- Laws of the header.
use Rattle.std.proofs.Common.{◌≡◌, ◌≢◌, ℕ, ◌≤◌, Bool, true, false, cond, ltb, not, ◌||◌, ◌&&◌, nat_eq, List, length, drop, Option, Some, None, Result, Ok, Err, refl, sym, ap, inl, inr}
use Rattle.std.specs.Prelude.{slice_index}
use Rattle.std.proofs.lemmas.Bool.{cases_lt, le-ltb, lt-ltb, ltb-false}
use Rattle.byteorder.specs.Endian.{big_number}
use Rattle.frames.specs.declared.fault.HeaderFault.{HeaderFault}
use Rattle.frames.specs.declared.fault.HeaderFault.TheVariants as faults
use Rattle.packet.specs.declared.endpoint.Iface.TheVariants.{Lan, Wan}
use Rattle.frames.specs.declared.request.Kind.{Kind}
use Rattle.frames.specs.declared.request.Kind.TheVariants as kinds
use Rattle.frames.specs.declared.request.Head.{Head}
use Rattle.frames.specs.declared.request.Head.TheVariants as head
use Rattle.frames.specs.Requests.{announced, longest, head_with, head_of}
use Rattle.frames.specs.Streams.{header_fault}

-- the fault of a header
abbrev pub faulted : Head → Option HeaderFault
faulted (head.Bad fault) = Some fault
faulted head.Cut = None
faulted (head.Frame kd moment len) = None

pub faulted_bad : (h : Head) (fault : HeaderFault) → faulted h ≡ Some fault → h ≡ head.Bad fault
faulted_bad (head.Bad f) fault e = cc
faulted_bad head.Cut fault e = absurd cc
faulted_bad (head.Frame kd moment len) fault e = absurd cc

-- the length is the last test
last_test : (t : Bool) (kd : Kind) (m n : ℕ) → faulted (cond t (head.Bad faults.TooLong) (head.Frame kd m n)) ≡ cond t (Some faults.TooLong) None
last_test true kd m n = refl
last_test false kd m n = refl

by_tests : (a b c z o : Bool) (len moment : ℕ)
    → faulted (head_with (cond a (cond z (Ok (kinds.Packet Lan)) (cond o (Ok (kinds.Packet Wan)) (Err faults.BadInterface))) (cond b (cond z (Ok kinds.Load) (Err faults.BadInterface)) (cond c (cond z (Ok kinds.Moment) (Err faults.BadInterface)) (Err faults.BadKind)))) len moment)
    ≡ cond (not (a || b || c)) (Some faults.BadKind) (cond (not (z || a && o)) (Some faults.BadInterface) (cond (ltb (cond a 65535 (cond b 262144 0)) len) (Some faults.TooLong) None))
by_tests true b c true o len moment = last_test (ltb 65535 len) (kinds.Packet Lan) moment len
by_tests true b c false true len moment = last_test (ltb 65535 len) (kinds.Packet Wan) moment len
by_tests true b c false false len moment = refl
by_tests false true c true o len moment = last_test (ltb 262144 len) kinds.Load moment len
by_tests false true c false o len moment = refl
by_tests false false true true o len moment = last_test (ltb 0 len) kinds.Moment moment len
by_tests false false true false o len moment = refl
by_tests false false false z o len moment = refl

pub fault_is : (k i len moment : ℕ) → faulted (head_with (announced k i) len moment) ≡ header_fault k i len
unfolding header_fault
fault_is k i len moment = by_tests (nat_eq k 1) (nat_eq k 2) (nat_eq k 3) (nat_eq i 0) (nat_eq i 1) len moment

-- kind, interface, length and moment at the front of the bytes
abbrev pub kind_at : List ℕ → ℕ
kind_at bytes = slice_index bytes 0

abbrev pub interface_at : List ℕ → ℕ
interface_at bytes = slice_index bytes 1

abbrev pub length_at : List ℕ → ℕ
length_at bytes = big_number 4 (drop 2 bytes)

abbrev pub moment_at : List ℕ → ℕ
moment_at bytes = big_number 8 (drop 6 bytes)

-- what stands at the front
pub long_head : (bytes : List ℕ) (h : Head) → head_of bytes ≡ h → h ≢ head.Cut → (14 ≤ length bytes) × (head_with (announced (kind_at bytes) (interface_at bytes)) (length_at bytes) (moment_at bytes) ≡ h)
unfolding head_of
long_head bytes h e n = elim (cases_lt (length bytes) 14) [
  | inl short ↦ let t : ltb (length bytes) 14 ≡ true = lt-ltb _ _ short in absurd (n (sym (rw t at e)))
  | inr long ↦ let t : ltb (length bytes) 14 ≡ false = le-ltb _ _ long in (long, rw t at e)
]

-- a header without a fault
pub record IsGood (r : Result Kind HeaderFault) (len moment : ℕ) (kd : Kind) (len' moment' : ℕ) : Type 0 where
  pub announces : r ≡ Ok kd
  pub short : len ≤ longest kd
  pub len_is : len' ≡ len
  pub moment_is : moment' ≡ moment

pub good_with : (r : Result Kind HeaderFault) (len moment : ℕ) (kd : Kind) (len' moment' : ℕ) → head_with r len moment ≡ head.Frame kd moment' len' → IsGood r len moment kd len' moment'
good_with (Err fault) len moment kd len' moment' e = absurd cc
good_with (Ok t) len moment kd len' moment' e = tested (ltb (longest t) len) refl e
  where
    tested : (b : Bool) → ltb (longest t) len ≡ b → cond b (head.Bad faults.TooLong) (head.Frame t moment len) ≡ head.Frame kd moment' len' → IsGood (Ok t) len moment kd len' moment'
    tested true h e = absurd cc
    tested false h e =
        let x : t ≡ kd = cc in
        let y : len ≡ len' = cc in
        let z : moment ≡ moment' = cc in
        record { announces = ap Ok x; short = rw (← x) (ltb-false _ _ h); len_is = sym y; moment_is = sym z }

-- a header that was taken announces no more than its kind allows
pub frame_is_short : (bytes : List ℕ) (s : Kind) (m n : ℕ) → head_of bytes ≡ head.Frame s m n → n ≤ longest s
frame_is_short bytes s m n e =
    let p = long_head bytes (head.Frame s m n) e (λ x. absurd cc) in
    let g = good_with (announced (kind_at bytes) (interface_at bytes)) (length_at bytes) (moment_at bytes) s n m p.1 in
    rw g.len_is g.short
