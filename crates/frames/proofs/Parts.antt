-- The parts of an answer's frame, and one frame behind the other.
use Rattle.std.proofs.Common.{◌≡◌, refl, ℕ, suc, ◌+◌, ◌<◌, get_or, arith, List, [], ◌∷◌, ◌++◌, length, take, sym, ap, ◌∙◌, append_assoc, length-append}
use Rattle.std.proofs.lemmas.List.{append-nil}
use Rattle.std.proofs.lemmas.List.Concat.{flat_map-append}
use Rattle.byteorder.specs.Endian.{big_bytes}
use Rattle.std.proofs.Math.Seq.{take-append_seam, take-suc}
use Rattle.std.specs.List.{flat_map}
use Rattle.packet.specs.declared.endpoint.Iface.{Iface}
use Rattle.machine.specs.declared.event.Answer.{Answer}
use Rattle.machine.specs.declared.event.Answer.TheVariants as answer
use Rattle.frames.specs.Answers.{answer_body, frame_head, frame}

-- a frame is its head and its body
pub frame_parts : (p : ℕ × Answer) → frame_head p ++ answer_body p.1 ≡ frame p
unfolding frame
frame_parts p = refl

-- one frame more
pub frames_step : (answers : List (ℕ × Answer)) (i : ℕ) (p : ℕ × Answer) → i < length answers → p ≡ get_or answers i p
    → flat_map frame (take (i + 1) answers) ≡ flat_map frame (take i answers) ++ frame p
frames_step answers i p lt is =
    let one : i + 1 ≡ suc i = omega arith in
    ap (λ (n : ℕ). flat_map frame (take n answers)) one ∙ ap (flat_map frame) (take-suc answers i p lt) ∙ flat_map-append frame (take i answers) (get_or answers i p ∷ [])
    ∙ ap (λ (z : List ℕ). flat_map frame (take i answers) ++ z) (append-nil (frame (get_or answers i p)) ∙ ap frame (sym is))

-- bytes put behind others, up to the first one of a body, and then the rest of it
pub frame_behind : (before : List ℕ) (p : ℕ × Answer) (first : ℕ) (more : List ℕ) → answer_body p.1 ≡ first ∷ more → (before ++ (frame_head p ++ first ∷ [])) ++ more ≡ before ++ frame p
frame_behind before p first more is =
    append_assoc before (frame_head p ++ first ∷ []) more
    ∙ ap (λ (z : List ℕ). before ++ z) (append_assoc (frame_head p) (first ∷ []) more ∙ ap (λ (z : List ℕ). frame_head p ++ z) (sym is) ∙ frame_parts p)

-- a body of one byte
pub frame_whole : (before : List ℕ) (p : ℕ × Answer) (only : ℕ) → answer_body p.1 ≡ only ∷ [] → before ++ (frame_head p ++ only ∷ []) ≡ before ++ frame p
frame_whole before p only is = ap (λ (z : List ℕ). before ++ z) (ap (λ (z : List ℕ). frame_head p ++ z) (sym is) ∙ frame_parts p)

-- no body
pub frame_alone : (p : ℕ × Answer) → answer_body p.1 ≡ [] → frame_head p ≡ frame p
frame_alone p none = sym (append-nil (frame_head p)) ∙ ap (λ (z : List ℕ). frame_head p ++ z) (sym none) ∙ frame_parts p

-- nor has any other than a packet that leaves and a drop one
pub frame_bare : (p : ℕ × Answer) → ((iface : Iface) (packet : List ℕ) → p.1 ≡ answer.Forward iface packet → ⊥) → ((cause : ℕ) → p.1 ≡ answer.Dropped cause → ⊥) → frame_head p ≡ frame p
frame_bare (n, answer.Forward iface packet) f d = absurd (f iface packet refl)
frame_bare (n, answer.Dropped cause) f d = absurd (d cause refl)
frame_bare (n, answer.Loaded) f d = frame_alone (n, answer.Loaded) refl
frame_bare (n, answer.Refused) f d = frame_alone (n, answer.Refused) refl
frame_bare (n, answer.Ticked) f d = frame_alone (n, answer.Ticked) refl

pub frame_size : (p : ℕ × Answer) → length (frame p) ≡ 13 + length (answer_body p.1)
frame_size p = omega (arith, ap (λ (x : List ℕ). length x) (frame_parts p), length-append (frame_head p) (answer_body p.1), head_size p)
  where
    head_size : (p : ℕ × Answer) → length (frame_head p) ≡ 13
    head_size p = omega arith

-- what stands before a body
pub head_alone : (kind number len : ℕ) (more : List ℕ) → take 13 ((kind ∷ big_bytes 8 number ++ big_bytes 4 len) ++ more) ≡ kind ∷ big_bytes 8 number ++ big_bytes 4 len
head_alone kind number len more =
    let head : List ℕ = kind ∷ big_bytes 8 number ++ big_bytes 4 len in
    let size : length head ≡ 13 = omega arith in
    ap (λ (n : ℕ). take n (head ++ more)) (sym size) ∙ take-append_seam head more
