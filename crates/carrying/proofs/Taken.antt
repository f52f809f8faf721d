-- What a turn takes of the devices, and turns one after the other.
use Rattle.std.proofs.Common.{◌≡◌, ◌⊎◌, inl, inr, ℕ, ◌+◌, ◌≤◌, List, [], ◌∷◌, ◌++◌, Option, None, Some, length, map, take, refl, sym, ap, subst, ◌∙◌, arith, length-append}
use Rattle.std.proofs.lemmas.List.{length-map}
use Rattle.devices.specs.Handing.{Frames, GaveAll, Gives, Waits}
use Rattle.from_devices.specs.Requests.{Gathered, IsEnough, with_packets}
use Rattle.from_devices.proofs.Gathering.{Gives-then}
use Rattle.packet.specs.declared.endpoint.Iface.{Iface}
use Rattle.carrying.specs.Runs.{EachTakesAll, from_lan, from_wan, last_of}
use Rattle.carrying.specs.Turns.{Suffices, TakesAll, Turn}

module _ (iface : Iface) (given : List (List ℕ)) (before behind : Gathered) (is : behind ≡ with_packets iface given before) (few : length behind.headers ≤ length before.headers + 64) where
  headers_long : length behind.headers ≡ length before.headers + length given
  headers_long = ap (λ (g : Gathered). length g.headers) is ∙ length-append before.headers (map (take 10) given) ∙ ap (λ (n : ℕ). length before.headers + n) (length-map given (take 10))

  pub at_most : length given ≤ 64
  at_most = omega (arith, headers_long, few)

  -- what a taking ends by
  pub ends_by : (most : ℕ) (None' All' : Type 0) → (None' → All') → most ≤ 1048576 → length before.headers ≤ 128 → None' ⊎ IsEnough most before behind → All' ⊎ Suffices most given behind
  ends_by most None' All' all low short (inl none) = inl (all none)
  ends_by most None' All' all low short (inr (inl full)) = inr (inl (omega (arith, headers_long, full)))
  ends_by most None' All' all low short (inr (inr (inl many))) = absurd (omega (arith, few, short, many))
  ends_by most None' All' all low short (inr (inr (inr no_room))) = inr (inr (omega (arith, no_room, low)))

-- as often as it was waited for
pub Waits-same : (p q : Option ℕ) → q ≡ p → Waits 0 p q
Waits-same None q same = tt
Waits-same (Some n) q same = same ∙ ap (λ (k : ℕ). Some k) (omega arith)

pub Waits-then : (a b : ℕ) (p q r : Option ℕ) → Waits a p q → Waits b q r → Waits (a + b) p r
Waits-then a b None q r x y = tt
Waits-then a b (Some n) q r x y =
    let there : r ≡ Some (n + a + b) = subst (λ (o : Option ℕ). Waits b o r) x y in
    let sums : n + a + b ≡ n + (a + b) = omega arith in
    there ∙ ap (λ (k : ℕ). Some k) sums

pub Waits-on : (often : ℕ) (p q r s : Option ℕ) → Waits often p q → Waits 1 q r → s ≡ r → Waits (often + 1) p s
Waits-on often p q r s before once same =
    subst (λ (o : Option ℕ). Waits (often + 1) p o) (sym same) (Waits-then often 1 p q r before once)

-- a device gave some, was waited for, and then gave all that it had
pub GaveAll-then : {D : Type 0} (coming : D → Frames) (waited : D → Option ℕ) (has_none : D → Type 0) (start old now : D) (done many : ℕ) (x y : List (List ℕ)) → many ≡ done → Gives (coming start) (coming old) x → coming now ≡ coming old → Waits done (waited start) (waited old) → Waits 1 (waited old) (waited now)
    → GaveAll coming waited has_none now 0 y → GaveAll coming waited has_none start (many + 1) (x ++ y)
GaveAll-then coming waited has_none start old now done many x y is gave same before once q =
    let gives : Gives (coming old) (coming q.0) y = subst (λ (f : Frames). Gives f (coming q.0) y) same q.2 in
    let all : Waits (done + 1 + 0) (waited start) (waited q.0) = Waits-then (done + 1) 0 (waited start) (waited now) (waited q.0) (Waits-then done 1 (waited start) (waited old) (waited now) before once) q.3 in
    let often : done + 1 + 0 ≡ many + 1 = omega (arith, is) in
    (q.0, q.1, Gives-then (coming start) (coming old) (coming q.0) x y gave gives, subst (λ (k : ℕ). Waits k (waited start) (waited q.0)) often all)

-- a turn of some turns and one more is one of these turns, or the last
pub place_of : (xs before after : List Turn) (t u : Turn) → xs ++ t ∷ [] ≡ before ++ u ∷ after → ((rest : List Turn) × (xs ≡ before ++ u ∷ rest)) ⊎ ((before ≡ xs) × (u ≡ t))
place_of [] [] after t u e =
    let head : t ≡ u = cc in
    inr (refl, sym head)
place_of [] (b ∷ before) after t u e =
    let tail : [] ≡ before ++ u ∷ after = cc in
    absurd (omega (arith, ap length tail, length-append before (u ∷ after)))
place_of (x ∷ xs) [] after t u e =
    let head : x ≡ u = cc in
    inl (xs, ap (λ (h : Turn). h ∷ xs) head)
place_of (x ∷ xs) (b ∷ before) after t u e =
    let head : x ≡ b = cc in
    let tail : xs ++ t ∷ [] ≡ before ++ u ∷ after = cc in
    elim (place_of xs before after t u tail) [
      | inl r ↦ inl (r.0, ap (λ (h : Turn). h ∷ xs) head ∙ ap (λ (ts : List Turn). b ∷ ts) r.1)
      | inr m ↦ inr (ap (λ (ts : List Turn). b ∷ ts) m.0 ∙ ap (λ (h : Turn). h ∷ xs) (sym head), m.1)
    ]

module _ (last : ℕ) (P Q : ℕ → List (List ℕ) → Type 0) where
  pub each-first : EachTakesAll last P Q []
  each-first before after u e = absurd (omega (arith, ap length e, length-append before (u ∷ after)))

  pub each-then : (turns : List Turn) (turn : Turn) → EachTakesAll last P Q turns → TakesAll (last_of last turns) turn (P (length turns + 1) (from_lan turns ++ turn.lan)) (Q (length turns + 1) (from_wan turns ++ turn.wan)) → EachTakesAll last P Q (turns ++ turn ∷ [])
  each-then turns turn all one before after u e = elim (place_of turns before after turn u e) [
    | inl r ↦ all before r.0 u r.1
    | inr m ↦ rw (m.0, m.1) one
  ]

-- what is said of the devices of a turn may be said in other words
pub takes-as : (last : ℕ) (turn : Turn) (A B A' B' : Type 0) → (A → A') → (B → B') → TakesAll last turn A B → TakesAll last turn A' B'
takes-as last turn A B A' B' f g t = record {
  of_lan = or_as A A' _ f t.of_lan;
  of_wan = or_as B B' _ g t.of_wan;
  few_of_lan = t.few_of_lan;
  few_of_wan = t.few_of_wan;
}
  where
    or_as : (X X' Y : Type 0) → (X → X') → X ⊎ Y → X' ⊎ Y
    or_as X X' Y h (inl x) = inl (h x)
    or_as X X' Y h (inr y) = inr y
