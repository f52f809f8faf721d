-- What goes between a run and its peer.
use Rattle.std.proofs.Common.{◌≡◌, ◌≢◌, ◌⊎◌, inl, inr, ℕ, ◌+◌, List, [], ◌∷◌, ◌++◌, length, refl, sym, ap, subst, ◌∙◌, arith, append_assoc, length-append, append-nil}
use Rattle.gateway.specs.Told.{Told}
use Rattle.socket_edge.specs.Joined.{taken_then}
use Rattle.socket_edge.specs.declared.fault.EdgeFault.{EdgeFault}
use Rattle.socket_edge.specs.declared.fault.EdgeFault.TheVariants.{Truncated, Input, Output}
use Rattle.socket_edge.specs.Running.{AnswersFirst, LastTurn, MayGoOn}
use Rattle.socket_edge.specs.Serving.{AsksFirst, AsksOnce, Hands, HandsAll, NeverAsks}
use Rattle.socket_edge.specs.Turns.{Turn, Gave, ReadFailed, Took, WriteFailed, AllPass, Asks, LastIs, LastTookNone, given, taken, times_asked}

pub never_then : (turns more : List Turn) → NeverAsks turns → NeverAsks more → NeverAsks (turns ++ more)
never_then [] more p q = q
never_then (Gave bytes ∷ turns) more p q = absurd p
never_then (ReadFailed ∷ turns) more p q = absurd p
never_then (t ∷ turns) more p q = never_then turns more p q

-- then it gave nothing, and no turn counts
pub never_given : (turns : List Turn) → NeverAsks turns → (given turns ≡ []) × (times_asked turns ≡ 0)
never_given [] p = (refl, refl)
never_given (Gave bytes ∷ turns) p = absurd p
never_given (ReadFailed ∷ turns) p = absurd p
never_given (t ∷ turns) p = never_given turns p

never_asks : (turns after : List Turn) (t : Turn) → Asks t → NeverAsks (turns ++ t ∷ after) → ⊥
never_asks [] after (Took bytes) asks p = asks
never_asks [] after WriteFailed asks p = asks
never_asks [] after t asks p = p
never_asks (Took some ∷ turns) after t asks p = never_asks turns after t asks p
never_asks (WriteFailed ∷ turns) after t asks p = never_asks turns after t asks p
never_asks (some ∷ turns) after t asks p = p

pub never_later : (t : Turn) (turns : List Turn) → AsksFirst (t ∷ turns) → NeverAsks turns
never_later (Took bytes) turns p = absurd p
never_later WriteFailed turns p = absurd p
never_later t turns p = p

only_first : (turns after : List Turn) (t : Turn) → Asks t → AsksFirst (turns ++ t ∷ after) → turns ≡ []
only_first [] after t asks p = refl
only_first (some ∷ turns) after t asks p = absurd (never_asks turns after t asks (never_later some (turns ++ t ∷ after) p))

pub asked_then : (turns more : List Turn) → times_asked (turns ++ more) ≡ times_asked turns + times_asked more
asked_then [] more = omega arith
asked_then (Took bytes ∷ turns) more = asked_then turns more
asked_then (t ∷ turns) more = omega (arith, asked_then turns more)

-- ---- turns at which bytes went, and the last one

pub passed_then : (turns more : List Turn) → AllPass turns → AllPass more → AllPass (turns ++ more)
passed_then [] more p q = q
passed_then (t ∷ turns) more p q = (p.0, passed_then turns more p.1 q)

pub last_then : (last : Turn) (turns more : List Turn) → AllPass turns → LastIs last more → LastIs last (turns ++ more)
last_then last turns more p q = record {
  before = turns ++ q.before;
  are = ap (λ (ts : List Turn). turns ++ ts) q.are ∙ sym (append_assoc turns q.before (last ∷ []));
  passed = passed_then turns q.before p q.passed;
}

pub none_then : (turns more : List Turn) → AllPass turns → LastTookNone more → LastTookNone (turns ++ more)
none_then turns more p q = elim q [ inl failed ↦ inl (last_then WriteFailed turns more p failed) | inr none ↦ inr (last_then (Took []) turns more p none) ]

pub fault_then : (fault : EdgeFault) (turns more : List Turn) → AllPass turns → LastTurn fault more → LastTurn fault (turns ++ more)
fault_then Truncated turns more p q = last_then (Gave []) turns more p q
fault_then Input turns more p q = last_then ReadFailed turns more p q
fault_then Output turns more p q = none_then turns more p q
fault_then fault turns more p q = passed_then turns more p q

-- so many reads, each of which gave some bytes, and writes that took some
abbrev pub Counted : ℕ → List Turn → Type 0
Counted n turns = AllPass turns × (times_asked turns ≡ n)

pub counted_then : (n : ℕ) (turns more : List Turn) → Counted n turns → Counted 1 more → Counted (n + 1) (turns ++ more)
counted_then n turns more p q = (passed_then turns more p.0 q.0, omega (arith, asked_then turns more, p.1, q.1))

-- ---- the order of turns

-- a turn of the one and then the other is a turn of the one, or of the other
pub turn_of : (xs ys before after : List Turn) (t : Turn) → xs ++ ys ≡ before ++ t ∷ after
    → ((rest : List Turn) × (xs ≡ before ++ t ∷ rest)) ⊎ ((middle : List Turn) × (before ≡ xs ++ middle) × (ys ≡ middle ++ t ∷ after))
turn_of [] ys before after t e = inr (before, refl, e)
turn_of (x ∷ xs) ys [] after t e = inl (xs, (cc))
turn_of (x ∷ xs) ys (b ∷ before) after t e = elim (turn_of xs ys before after t (cc)) [ inl r ↦ inl (r.0, (cc)) | inr m ↦ inr (m.0, (cc), m.2) ]

-- all is answered, and then it is asked once
pub first-then : (start : Told) (turns more : List Turn) → AnswersFirst start turns
    → MayGoOn start (given turns) (taken turns) → AsksFirst more → AnswersFirst start (turns ++ more)
first-then start turns more first answered once = λ before t after e asks.
    elim (turn_of turns more before after t e) [
      | inl r ↦ first before t r.0 r.1 asks
      | inr m ↦ (
          let none : m.0 ≡ [] = only_first m.0 after t asks (subst AsksFirst m.2 once) in
          let same : before ≡ turns = m.1 ∙ ap (λ (ts : List Turn). turns ++ ts) none ∙ append-nil turns in
          subst (λ (ts : List Turn). MayGoOn start (given ts) (taken ts)) (sym same) answered)
    ]

pub first-nil : (start : Told) → AnswersFirst start []
first-nil start = λ before t after e asks. absurd (omega (arith, ap length e, length-append before (t ∷ after)))

module _ {P : Type 0} (went : P → P → List Turn → Type 0) where
  -- how far a run has come with its peer
  pub record Talked (start : Told) (old new : P) (got sent : List ℕ) : Type 0 where
    pub turns : List Turn
    pub goes : went old new turns
    pub first : AnswersFirst start turns
    pub gives : given turns ≡ got
    pub takes : taken turns ≡ sent

  -- one write that takes some bytes
  pub Hands-once : (a b : P) (bytes : List ℕ) → bytes ≢ [] → went a b (Took bytes ∷ []) → HandsAll went a b bytes
  Hands-once a b bytes some w = record { turns = Took bytes ∷ []; goes = w; unasked = tt; takes = append-nil bytes; passed = (some, tt) }

  pub handed-all : (a b : P) (x y : List ℕ) → x ≡ y → HandsAll went a b x → (hands : Hands went a b y) × AllPass hands.turns
  handed-all a b x y same p = (record { turns = p.turns; goes = p.goes; unasked = p.unasked; takes = p.takes ∙ same }, p.passed)

  -- one read that gives none
  pub asked-at-end : (a b : P) (got : List ℕ) → got ≡ [] → went a b (Gave got ∷ []) → (asks : AsksOnce went a b [] []) × LastIs (Gave []) asks.turns
  asked-at-end a b got none w = (record { turns = Gave [] ∷ []; goes = subst (λ (x : List ℕ). went a b (Gave x ∷ [])) none w; asks = tt; gives = refl; takes = refl }, record { before = []; are = refl; passed = tt })

  -- one that fails
  pub asked-in-vain : (a b : P) → went a b (ReadFailed ∷ []) → (asks : AsksOnce went a b [] []) × LastIs ReadFailed asks.turns
  asked-in-vain a b w = (record { turns = ReadFailed ∷ []; goes = w; asks = tt; gives = refl; takes = refl }, record { before = []; are = refl; passed = tt })

module _ {P : Type 0} (went : P → P → List Turn → Type 0) (still : (peer : P) → went peer peer []) where
  pub Hands-nil : (a : P) → HandsAll went a a []
  Hands-nil a = record { turns = []; goes = still a; unasked = tt; takes = refl; passed = tt }

  pub handed-none : (a : P) → (hands : Hands went a a []) × AllPass hands.turns
  handed-none a = (record { turns = []; goes = still a; unasked = tt; takes = refl }, tt)

  pub asked-none : (a b : P) → b ≡ a → (asks : AsksOnce went a b [] []) × AllPass asks.turns
  asked-none a b same = (record { turns = []; goes = subst (λ (p : P). went a p []) (sym same) (still a); asks = tt; gives = refl; takes = refl }, tt)

module _ {P : Type 0} (went : P → P → List Turn → Type 0)
    (further : (a b c : P) (turns more : List Turn) → went a b turns → went b c more → went a c (turns ++ more)) where
  pub Hands-then : (a b c : P) (x y : List ℕ) → HandsAll went a b x → HandsAll went b c y → HandsAll went a c (x ++ y)
  Hands-then a b c x y p q = record {
    turns = p.turns ++ q.turns;
    goes = further a b c p.turns q.turns p.goes q.goes;
    unasked = never_then p.turns q.turns p.unasked q.unasked;
    takes = taken_then p.turns q.turns ∙ ap (λ (z : List ℕ). z ++ taken q.turns) p.takes ∙ ap (λ (z : List ℕ). x ++ z) q.takes;
    passed = passed_then p.turns q.turns p.passed q.passed;
  }

  -- one read that gives some bytes, and then the answers
  module _ (a b c : P) (got sent : List ℕ) (some : got ≢ []) (w : went a b (Gave got ∷ [])) (h : Hands went b c sent) where
    asked : AsksOnce went a c got sent
    asked = record {
      turns = Gave got ∷ h.turns;
      goes = further a b c (Gave got ∷ []) h.turns w h.goes;
      asks = h.unasked;
      gives = ap (λ (z : List ℕ). got ++ z) (never_given h.turns h.unasked).0 ∙ append-nil got;
      takes = h.takes;
    }

    -- they are sent
    pub asked-and-sent : AllPass h.turns → (asks : AsksOnce went a c got sent) × (asks.turns ≢ []) × Counted 1 asks.turns
    unfolding asked
    asked-and-sent p = (asked, (λ none. cc), ((some, p), omega (arith, (never_given h.turns h.unasked).1)))

    -- or the run ends there
    pub asked-and-ends : (fault : EdgeFault) → LastTurn fault h.turns → (asks : AsksOnce went a c got sent) × (asks.turns ≢ []) × LastTurn fault asks.turns
    unfolding asked
    asked-and-ends fault last = (asked, (λ none. cc), fault_then fault (Gave got ∷ []) h.turns (some, tt) last)

-- what holds of the bytes holds of the turns' bytes
pub told : {P : Type 0} (went : P → P → List Turn → Type 0) (start : Told) (a b : P) (x y : List ℕ) (t : Talked went start a b x y)
    (Q : List ℕ → List ℕ → Type 0) → Q x y → Q (given t.turns) (taken t.turns)
told went start a b x y t Q q = subst (λ (z : List ℕ). Q z (taken t.turns)) (sym t.gives) (subst (λ (z : List ℕ). Q x z) (sym t.takes) q)
