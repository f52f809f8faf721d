-- Laws of the events of a stream.
use Rattle.std.proofs.Common.{◌≡◌, ℕ, zero, suc, ◌<◌, ◌≤◌, List, [], ◌∷◌, length, refl, ap, ◌∙◌, arith}
use Rattle.std.proofs.lemmas.List.{nil_from_length}
use Rattle.machine.specs.declared.event.Event.{Event}
use Rattle.frames.specs.declared.fault.HeaderFault.{HeaderFault}
use Rattle.frames.specs.Requests.{Next, Whole, Cut, Bad, next, head_of}
use Rattle.frames.specs.Framing.{Rest, Fault, with_first, go_on, whole_frames_within, whole_frames}
use Rattle.frames.proofs.Fronts.{next_shorter}

-- how many frames may come doesn't matter, once it is as many as there are bytes
go_on_same : (n m : ℕ) (bytes : List ℕ) (front : Next) → next bytes ≡ front → ((rest : List ℕ) → length rest < length bytes → whole_frames_within n rest ≡ whole_frames_within m rest)
    → go_on front bytes (λ rest. whole_frames_within n rest) ≡ go_on front bytes (λ rest. whole_frames_within m rest)
go_on_same n m bytes (Whole event rest) e same = ap (with_first (event ∷ [])) (same rest (next_shorter bytes event rest e))
go_on_same n m bytes Cut e same = refl
go_on_same n m bytes (Bad fault) e same = refl

pub next_nil : next [] ≡ Cut
unfolding next head_of
next_nil = refl

within_same : (n m : ℕ) (bytes : List ℕ) → length bytes ≤ n → length bytes ≤ m → whole_frames_within n bytes ≡ whole_frames_within m bytes
unfolding whole_frames_within
within_same zero zero bytes p q = refl
within_same zero (suc m) bytes p q = let none : bytes ≡ [] = nil_from_length bytes (omega arith) in rw (none, next_nil) refl
within_same (suc n) zero bytes p q = let none : bytes ≡ [] = nil_from_length bytes (omega arith) in rw (none, next_nil) refl
within_same (suc n) (suc m) bytes p q = go_on_same n m bytes (next bytes) refl (λ rest lt. within_same n m rest (omega arith) (omega arith))

-- what stands at the front, and then the frames of the rest
framed : (bytes : List ℕ) (front : Next) → next bytes ≡ front → whole_frames bytes ≡ go_on front bytes (λ rest. whole_frames_within (length bytes) rest)
unfolding whole_frames whole_frames_within
framed bytes front e = within_same (length bytes) (suc (length bytes)) bytes (omega arith) (omega arith) ∙ ap (λ (f : Next). go_on f bytes (λ rest. whole_frames_within (length bytes) rest)) e

-- the first frame, and then those of the rest
pub framed_whole : (bytes : List ℕ) (event : Event) (rest : List ℕ) → next bytes ≡ Whole event rest → whole_frames bytes ≡ with_first (event ∷ []) (whole_frames rest)
unfolding whole_frames
framed_whole bytes event rest e = framed bytes (Whole event rest) e ∙ ap (with_first (event ∷ [])) (within_same (length bytes) (length rest) rest (omega (arith, next_shorter bytes event rest e)) (omega arith))

-- no frame
pub framed_cut : (bytes : List ℕ) → next bytes ≡ Cut → whole_frames bytes ≡ record { events = []; remainder = Rest bytes }
framed_cut bytes e = framed bytes Cut e

pub framed_bad : (bytes : List ℕ) (fault : HeaderFault) → next bytes ≡ Bad fault → whole_frames bytes ≡ record { events = []; remainder = Fault fault }
framed_bad bytes fault e = framed bytes (Bad fault) e
