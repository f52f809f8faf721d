-- Of whole requests none is faulty, and so no fault of a frame comes of them.
use Rattle.std.proofs.Common.{◌≡◌, ◌≢◌, ℕ, suc, zero, ◌+◌, ◌≤◌, Bool, true, false, cond, ltb, List, [], ◌++◌, length, take, drop, refl, sym, ap, ◌∙◌, arith}
use Rattle.std.specs.Prelude.{slice_index}
use Rattle.std.proofs.lemmas.Bool.{ltb-false}
use Rattle.std.proofs.lemmas.List.{append-nil}
use Rattle.byteorder.specs.Endian.{big_number}
use Rattle.frames.specs.declared.fault.HeaderFault.{HeaderFault}
use Rattle.frames.specs.declared.request.Head.{Head}
use Rattle.frames.specs.declared.request.Head.TheVariants as head
use Rattle.frames.specs.Framing.{EventsAndRest, Fault, Rest}
use Rattle.frames.specs.Requests.{Next, Whole, Cut, Bad, announced, head_of, head_with, next, what_of, with_body}
use Rattle.frames.proofs.Frames.{framed_whole, framed_cut, framed_bad}
use Rattle.frames.proofs.Fronts.{head_stays, next_more, next_shorter}
use Rattle.gateway.specs.Told.{Told}
use Rattle.gateway.specs.declared.fault.GatewayFault.TheVariants.{Full, HeldFull, Reopen}
use Rattle.socket_edge.specs.declared.fault.EdgeFault.{EdgeFault}
use Rattle.socket_edge.specs.declared.fault.EdgeFault.TheVariants.{BadKind, BadInterface, TooLong, Truncated, Input, Output, Gateway}
use Rattle.socket_edge.specs.Running.{EndsBy, remainder_of}
use Rattle.carrying.specs.Carried.{IsOfTurn}

bad_head : (h : Head) (bytes : List ℕ) (fault : HeaderFault) → with_body h bytes ≡ Bad fault → h ≡ head.Bad fault
bad_head head.Cut bytes fault e = absurd cc
bad_head (head.Bad f) bytes fault e = cc
bad_head (head.Frame k moment len) bytes fault e = tested (ltb (length bytes) (14 + len)) e
  where
    tested : (b : Bool) → cond b Cut (Whole (record { moment = moment; what = what_of k (take len (drop 14 bytes)) }) (drop (14 + len) bytes)) ≡ Bad fault → head.Frame k moment len ≡ head.Bad fault
    tested true e = absurd cc
    tested false e = absurd cc

long_head : (bytes : List ℕ) (fault : HeaderFault) → head_of bytes ≡ head.Bad fault → 14 ≤ length bytes
unfolding head_of
long_head bytes fault e = tested (ltb (length bytes) 14) refl e
  where
    tested : (b : Bool) → ltb (length bytes) 14 ≡ b → cond b head.Cut (head_with (announced (slice_index bytes 0) (slice_index bytes 1)) (big_number 4 (drop 2 bytes)) (big_number 8 (drop 6 bytes))) ≡ head.Bad fault → 14 ≤ length bytes
    tested true t e = absurd cc
    tested false t e = ltb-false _ _ t

-- a faulty header stays faulty, whatever follows
next_bad : (a b : List ℕ) (fault : HeaderFault) → next a ≡ Bad fault → next (a ++ b) ≡ Bad fault
unfolding next
next_bad a b fault e =
    let h : head_of a ≡ head.Bad fault = bad_head (head_of a) a fault e in
    rw (head_stays a b (long_head a fault h), h) refl

fault_by : (n : ℕ) (a b : List ℕ) (x : Next) (fault : HeaderFault) → length a ≤ n → next a ≡ x → remainder_of a ≡ Fault fault → remainder_of (a ++ b) ≡ Fault fault
fault_by n a b Cut fault few e is =
    let none : Rest a ≡ Fault fault = sym (ap (λ (f : EventsAndRest). f.remainder) (framed_cut a e)) ∙ is in
    absurd cc
fault_by n a b (Bad f) fault few e is =
    ap (λ (f : EventsAndRest). f.remainder) (framed_bad (a ++ b) f (next_bad a b f e)) ∙ sym (ap (λ (f : EventsAndRest). f.remainder) (framed_bad a f e)) ∙ is
fault_by zero a b (Whole event rest) fault few e is = absurd (omega (arith, next_shorter a event rest e, few))
fault_by (suc n) a b (Whole event rest) fault few e is =
    let one : remainder_of a ≡ remainder_of rest = ap (λ (f : EventsAndRest). f.remainder) (framed_whole a event rest e) in
    let all : remainder_of (a ++ b) ≡ remainder_of (rest ++ b) = ap (λ (f : EventsAndRest). f.remainder) (framed_whole (a ++ b) event (rest ++ b) (next_more a b event rest e)) in
    all ∙ fault_by n rest b (next rest) fault (omega (arith, next_shorter a event rest e, few)) refl (sym one ∙ is)

module _ (requests given rest : List ℕ) (split : requests ≡ given ++ rest) (whole : remainder_of requests ≡ Rest []) where
  none_faulty : (fault : HeaderFault) → remainder_of given ≢ Fault fault
  none_faulty fault e =
      let stays : remainder_of requests ≡ Fault fault = ap remainder_of split ∙ fault_by (length given) given rest (next given) fault (omega arith) refl e in
      let clash : Rest [] ≡ Fault fault = sym whole ∙ stays in
      absurd cc

  pub of_turn : (e : EdgeFault) (old new : Told) (sent : List ℕ) → EndsBy e old new given sent (rest ≡ [])
      → (e ≢ Gateway Reopen) × (e ≢ Gateway HeldFull) × (e ≢ Gateway Full) → e ≢ Input → IsOfTurn e
  of_turn BadKind old new sent ends not reads = none_faulty _ ends.0
  of_turn BadInterface old new sent ends not reads = none_faulty _ ends.0
  of_turn TooLong old new sent ends not reads = none_faulty _ ends.0
  of_turn Truncated old new sent ends not reads =
      let same : requests ≡ given = split ∙ ap (λ (x : List ℕ). given ++ x) ends.4 ∙ append-nil given in
      let clash : Rest [] ≡ Rest ends.0 = sym whole ∙ ap remainder_of same ∙ ends.1 in
      let nothing : ends.0 ≡ [] = cc in
      absurd (ends.2 nothing)
  of_turn Input old new sent ends not reads = reads refl
  of_turn Output old new sent ends not reads = tt
  of_turn (Gateway fault) old new sent ends not reads = (λ is. not.0 (ap Gateway is), λ is. not.1 (ap Gateway is), λ is. not.2 (ap Gateway is))
