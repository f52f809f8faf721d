-- A beginning of bytes, handed to a peer.
use Rattle.std.proofs.Common.{◌≡◌, ℕ, ◌+◌, ◌-◌, ◌<◌, get_or, subst, List, [], ◌∷◌, ◌++◌, Result, IfErr, length, take, drop, sym, ap, ◌∙◌, append_assoc, length-drop, take-append-drop, append-nil, flat_map}
use Rattle.std.proofs.lemmas.List.Concat.{flat_map-append}
use Rattle.std.proofs.Math.Seq.{take-length}
use Rattle.std.proofs.lemmas.Result.{IfErr-weaker}
use Rattle.machine.specs.declared.event.Answer.{Answer}
use Rattle.frames.specs.Answers.{frame}
use Rattle.frames.proofs.Parts.{frames_step}
use Rattle.socket_edge.specs.declared.fault.EdgeFault.{EdgeFault}
use Rattle.socket_edge.specs.declared.fault.EdgeFault.TheVariants.{Output}
use Rattle.socket_edge.specs.Joined.{taken_then}
use Rattle.socket_edge.specs.Serving.{HandsAll, HandsFront, NeverAsks}
use Rattle.socket_edge.specs.Turns.{Turn, LastTookNone, taken}
use Rattle.socket_edge.proofs.Talks.{never_then, none_then}

-- all that is behind a place
pub rest_whole : (at : ℕ) (xs : List ℕ) → take (length xs - at) (drop at xs) ≡ drop at xs
rest_whole at xs = rw (← length-drop at xs) (take-length (drop at xs))

-- a beginning of x is one of what begins with x
pub Front-of : {P : Type 0} (went : P → P → List Turn → Type 0) (a b : P) (x y : List ℕ) → HandsFront went a b x → HandsFront went a b (x ++ y)
Front-of went a b x y p = record { written = p.written; lost = p.lost ++ y; splits = sym (append_assoc p.written p.lost y) ∙ ap (λ (z : List ℕ). z ++ y) p.splits; hands = p.hands; last = p.last }

module _ {P : Type 0} (went : P → P → List Turn → Type 0)
    (further : (a b c : P) (turns more : List Turn) → went a b turns → went b c more → went a c (turns ++ more)) where
  -- the first n bytes, and then a write that takes none
  pub Front-stays : (a b c : P) (n : ℕ) (x : List ℕ) (t : Turn) → HandsAll went a b (take n x) → went b c (t ∷ []) → NeverAsks (t ∷ []) → taken (t ∷ []) ≡ []
      → LastTookNone (t ∷ []) → HandsFront went a c x
  Front-stays a b c n x t p w unasked none last = record {
    written = take n x;
    lost = drop n x;
    splits = take-append-drop n x;
    hands = record {
      turns = p.turns ++ t ∷ [];
      goes = further a b c p.turns (t ∷ []) p.goes w;
      unasked = never_then p.turns (t ∷ []) p.unasked unasked;
      takes = taken_then p.turns (t ∷ []) ∙ ap (λ (z : List ℕ). taken p.turns ++ z) none ∙ append-nil (taken p.turns) ∙ p.takes;
    };
    last = none_then p.turns (t ∷ []) p.passed last;
  }

  -- all of x, and then a beginning of y
  pub Front-behind : (a b c : P) (x y : List ℕ) → HandsAll went a b x → HandsFront went b c y → HandsFront went a c (x ++ y)
  Front-behind a b c x y p q = record {
    written = x ++ q.written;
    lost = q.lost;
    splits = append_assoc x q.written q.lost ∙ ap (λ (z : List ℕ). x ++ z) q.splits;
    hands = record {
      turns = p.turns ++ q.hands.turns;
      goes = further a b c p.turns q.hands.turns p.goes q.hands.goes;
      unasked = never_then p.turns q.hands.turns p.unasked q.hands.unasked;
      takes = taken_then p.turns q.hands.turns ∙ ap (λ (z : List ℕ). z ++ taken q.hands.turns) p.takes ∙ ap (λ (z : List ℕ). x ++ z) q.hands.takes;
    };
    last = none_then p.turns q.hands.turns p.passed q.last;
  }

  -- all of x, and then a write of y that may fail
  pub Fails-behind : (a b c : P) (x y : List ℕ) (r : Result (Unit {0}) EdgeFault) → HandsAll went a b x
      → IfErr r (λ e. (e ≡ Output) × HandsFront went b c y) → IfErr r (λ e. (e ≡ Output) × HandsFront went a c (x ++ y))
  Fails-behind a b c x y r p q = IfErr-weaker r (λ e. (e ≡ Output) × HandsFront went b c y) (λ e. (e ≡ Output) × HandsFront went a c (x ++ y)) (λ e h. (h.0, Front-behind a b c x y p h.1)) q

  -- the frames of the first i answers, and then a beginning of the next one
  pub Front-next : (a b c : P) (answers : List (ℕ × Answer)) (i : ℕ) (p : ℕ × Answer) → i < length answers → p ≡ get_or answers i p
      → HandsAll went a b (flat_map frame (take i answers)) → HandsFront went b c (frame p) → HandsFront went a c (flat_map frame answers)
  Front-next a b c answers i p lt is q r =
      let after : List ℕ = flat_map frame (drop (i + 1) answers) in
      let whole : (flat_map frame (take i answers) ++ frame p) ++ after ≡ flat_map frame answers =
      ap (λ (z : List ℕ). z ++ after) (sym (frames_step answers i p lt is)) ∙ sym (flat_map-append frame (take (i + 1) answers) (drop (i + 1) answers)) ∙ ap (flat_map frame) (take-append-drop (i + 1) answers) in
      subst (HandsFront went a c) whole (Front-of went a c (flat_map frame (take i answers) ++ frame p) after (Front-behind a b c (flat_map frame (take i answers)) (frame p) q r))
