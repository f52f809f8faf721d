-- What is put together frame by frame reads as those frames.
use Rattle.std.proofs.Common.{◌≡◌, ◌≢◌, ℕ, ◌+◌, ◌<◌, ◌≤◌, ◌^◌, true, false, ltb, List, [], ◌∷◌, ◌++◌, length, take, drop, Ok, refl, sym, ap, ◌∙◌, arith, append_assoc, length-append, inl, inr}
use Rattle.std.specs.List.{flat_map, AllByRecursion}
use Rattle.std.proofs.lemmas.Bool.{cases_lt, le-ltb, lt-ltb}
use Rattle.std.proofs.lemmas.List.{nil_from_length, drop-drop}
use Rattle.std.proofs.lemmas.List.Concat.{flat_map-cons}
use Rattle.std.proofs.Math.Seq.{take-append_seam, drop-append_seam}
use Rattle.byteorder.specs.Endian.{big_number, big_bytes}
use Rattle.byteorder.specs.Numbers.{big_number-reads_back}
use Rattle.packet.specs.declared.endpoint.Iface.TheVariants.{Lan, Wan}
use Rattle.machine.specs.declared.event.Event.{Event}
use Rattle.machine.specs.declared.event.What.{What}
use Rattle.machine.specs.declared.event.What.TheVariants as what
use Rattle.frames.specs.declared.fault.HeaderFault.{HeaderFault}
use Rattle.frames.specs.declared.request.Kind.{Kind}
use Rattle.frames.specs.declared.request.Kind.TheVariants as kind
use Rattle.frames.specs.declared.request.Head.TheVariants as head
use Rattle.frames.specs.Requests.{Whole, Cut, Bad, announced, longest, head_with, head_of, what_of, next}
use Rattle.frames.specs.Framing.{Remainder, Rest, Fault, EventsAndRest, with_first, whole_frames}
use Rattle.frames.specs.Streams.{kind_of, interface_of, request_body, longest_body, header, request, FitsFrame, IsNoFrame, IsFaulty, Ending, IsStream}
use Rattle.frames.proofs.Fronts.{head_stays}
use Rattle.frames.proofs.Frames.{framed_whole, framed_cut, framed_bad}
use Rattle.frames.proofs.Heads.{fault_is, faulted_bad}

pub header_long : (k i len moment : ℕ) (more : List ℕ) → length (header k i len moment ++ more) ≡ 14 + length more
header_long k i len moment more = omega arith

-- a header reads as what it was made of
pub head_reads : (k i len moment : ℕ) (more : List ℕ) → len < 2 ^ 32 → head_of (header k i len moment ++ more) ≡ head_with (announced k i) len (big_number 8 (big_bytes 8 moment ++ more))
unfolding head_of
head_reads k i len moment more l =
    let long : ltb (length (header k i len moment ++ more)) 14 ≡ false = le-ltb _ _ (omega arith) in
    rw (long, big_number-reads_back 4 len (big_bytes 8 moment ++ more) l) refl

-- a header that is taken
head_good : (k i len moment : ℕ) (kd : Kind) (more : List ℕ) → announced k i ≡ Ok kd → len ≤ longest kd → len < 2 ^ 32 → moment < 2 ^ 64 → head_of (header k i len moment ++ more) ≡ head.Frame kd moment len
head_good k i len moment kd more a l small m =
    let short : ltb (longest kd) len ≡ false = le-ltb _ _ l in
    head_reads k i len moment more small ∙ rw (a, short, big_number-reads_back 8 moment more m) refl

-- a frame, whatever follows
frame_reads : (k i moment : ℕ) (kd : Kind) (body more : List ℕ) → announced k i ≡ Ok kd → length body ≤ longest kd → length body < 2 ^ 32 → moment < 2 ^ 64
    → next (header k i (length body) moment ++ (body ++ more)) ≡ Whole (record { moment = moment; what = what_of kd body }) more
unfolding next
frame_reads k i moment kd body more a l small m =
    let whole : ltb (length (header k i (length body) moment ++ (body ++ more))) (14 + length body) ≡ false = le-ltb _ _ (omega (arith, length-append body more)) in
    let b : take (length body) (body ++ more) ≡ body = take-append_seam body more in
    let r : drop (14 + length body) (header k i (length body) moment ++ (body ++ more)) ≡ more =
    sym (drop-drop (length body) 14 (header k i (length body) moment ++ (body ++ more))) ∙ drop-append_seam body more in
    rw (head_good k i (length body) moment kd (body ++ more) a l small m, whole, b, r) refl

-- what a kind and an interface of an event announce
abbrev kind_for : What → Kind
kind_for (what.Packet iface packet) = kind.Packet iface
kind_for (what.Load text) = kind.Load
kind_for what.Moment = kind.Moment

record IsFor (w : What) : Type 0 where
  announces : announced (kind_of w) (interface_of w) ≡ Ok (kind_for w)
  reads : what_of (kind_for w) (request_body w) ≡ w
  longest_is : longest (kind_for w) ≡ longest_body (kind_of w)
  small : longest_body (kind_of w) < 2 ^ 32

is_for : (w : What) → IsFor w
is_for (what.Packet Lan packet) = record { announces = refl; reads = refl; longest_is = refl; small = omega arith }
is_for (what.Packet Wan packet) = record { announces = refl; reads = refl; longest_is = refl; small = omega arith }
is_for (what.Load text) = record { announces = refl; reads = refl; longest_is = refl; small = omega arith }
is_for what.Moment = record { announces = refl; reads = refl; longest_is = refl; small = omega arith }

-- an event's frame, whatever follows
pub request_reads : (event : Event) (more : List ℕ) → FitsFrame event → next (request event ++ more) ≡ Whole event more
request_reads event more f =
    let w = event.what in
    let h = header (kind_of w) (interface_of w) (length (request_body w)) event.moment in
    let is = is_for w in
    let r = frame_reads (kind_of w) (interface_of w) event.moment (kind_for w) (request_body w) more is.announces (omega (arith, f.body, is.longest_is)) (omega (arith, f.body, is.small)) f.moment in
    ap next (append_assoc h (request_body w) more) ∙ r ∙ ap (λ (x : What). Whole (record { moment = event.moment; what = x }) more) is.reads

short_cut : (rest : List ℕ) → length rest < 14 → next rest ≡ Cut
unfolding next head_of
short_cut rest h = let t : ltb (length rest) 14 ≡ true = lt-ltb _ _ h in rw t refl

-- a frame that lacks some of its end
lacking_cut : (k i moment : ℕ) (kd : Kind) (body rest lacking : List ℕ) → announced k i ≡ Ok kd → length body ≤ longest kd → length body < 2 ^ 32 → moment < 2 ^ 64
    → lacking ≢ [] → rest ++ lacking ≡ header k i (length body) moment ++ body → 14 ≤ length rest → next rest ≡ Cut
unfolding next
lacking_cut k i moment kd body rest lacking a l small m some e long =
    let h : head_of rest ≡ head.Frame kd moment (length body) = sym (head_stays rest lacking long) ∙ ap head_of e ∙ head_good k i (length body) moment kd body a l small m in
    let n : length rest + length lacking ≡ 14 + length body = sym (length-append rest lacking) ∙ ap length e ∙ header_long k i (length body) moment body in
    let some_length : length lacking ≢ 0 = λ z. some (nil_from_length lacking z) in
    let t : ltb (length rest) (14 + length body) ≡ true = lt-ltb _ _ (omega (arith, n, some_length)) in
    rw (h, t) refl

-- no whole frame
pub no_frame_cut : (rest : List ℕ) → IsNoFrame rest → next rest ≡ Cut
no_frame_cut rest (inl h) = short_cut rest h
no_frame_cut rest (inr p) =
    let w = p.0.what in
    let is = is_for w in
    elim (cases_lt (length rest) 14) [
      | inl short ↦ short_cut rest short
      | inr long ↦ lacking_cut (kind_of w) (interface_of w) p.0.moment (kind_for w) (request_body w) rest p.1 is.announces (omega (arith, p.2.body, is.longest_is)) (omega (arith, p.2.body, is.small)) p.2.moment p.3 p.4 long
    ]

faulty_bad : (fault : HeaderFault) (bytes : List ℕ) → IsFaulty fault bytes → next bytes ≡ Bad fault
unfolding next
faulty_bad fault bytes f =
    let h : head_of bytes ≡ head.Bad fault = ap head_of f.bytes_are ∙ head_reads f.kind f.iface f.len f.moment f.more f.fits ∙ faulted_bad (head_with (announced f.kind f.iface) f.len (big_number 8 (big_bytes 8 f.moment ++ f.more))) fault (fault_is f.kind f.iface f.len (big_number 8 (big_bytes 8 f.moment ++ f.more)) ∙ f.faulty) in
    rw h refl

ending_reads : (tail : List ℕ) (left : Remainder) → Ending tail left → whole_frames tail ≡ record { events = []; remainder = left }
ending_reads tail (Rest rest) e = ap whole_frames e.0 ∙ framed_cut rest (no_frame_cut rest e.1)
ending_reads tail (Fault fault) e = framed_bad tail fault (faulty_bad fault tail e)

-- the frames of any events, and then an end
composed_reads : (events : List Event) (tail : List ℕ) (left : Remainder) → AllByRecursion FitsFrame events → Ending tail left → whole_frames (flat_map request events ++ tail) ≡ record { events = events; remainder = left }
composed_reads [] tail left fit e = ending_reads tail left e
composed_reads (event ∷ events) tail left fit e =
    let assoc : flat_map request (event ∷ events) ++ tail ≡ request event ++ (flat_map request events ++ tail) = ap (λ (x : List ℕ). x ++ tail) (flat_map-cons request event events) ∙ append_assoc (request event) (flat_map request events) tail in
    ap whole_frames assoc ∙ framed_whole _ event (flat_map request events ++ tail) (request_reads event (flat_map request events ++ tail) fit.0) ∙ ap (with_first (event ∷ [])) (composed_reads events tail left fit.1 e)

pub stream_reads : (bytes : List ℕ) (f : EventsAndRest) → IsStream bytes f → whole_frames bytes ≡ f
stream_reads bytes f s = ap whole_frames s.bytes_are ∙ composed_reads f.events s.tail f.remainder s.fit s.ending
