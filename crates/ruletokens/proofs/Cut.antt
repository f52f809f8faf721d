-- A text is cut in one way.
use Rattle.std.proofs.Common.{◌≡◌, ℕ, ◌≤◌, ◌<◌, List, [], ◌∷◌, ◌++◌, length, Option, Some, None, refl, sym, ap, subst, ◌∙◌, arith, inl, inr, ◌⊎◌, length-append, get_or, take, drop, ◌-◌}
use Rattle.std.specs.Prelude.{IsSome}
use Rattle.std.proofs.lemmas.List.{append-nil, take_all}
use Rattle.ruletokens.specs.declared.token.Token.{Token}
use Rattle.ruletokens.specs.Tokens.{Text, Kind, kind_of, IsLongest, Begins, with_kind, IsCut, tokens_of, AreTokens}

split : (a x b y : Text) → a ++ x ≡ b ++ y → ((m : Text) × (b ≡ a ++ m) × (x ≡ m ++ y)) ⊎ ((m : Text) × (a ≡ b ++ m) × (y ≡ m ++ x))
split [] x b y e = inl (b, refl, e)
split (c ∷ a) x [] y e = inr (c ∷ a, refl, sym e)
split (c ∷ a) x (d ∷ b) y e =
    let h : c ≡ d = cc in
    let t : a ++ x ≡ b ++ y = cc in
    elim (split a x b y t) [
      | inl p ↦ inl (p.0, ap (λ (u : Text). d ∷ u) p.1 ∙ ap (λ (u : ℕ). u ∷ (a ++ p.0)) (sym h), p.2)
      | inr p ↦ inr (p.0, ap (λ (u : Text). c ∷ u) p.1 ∙ ap (λ (u : ℕ). u ∷ (b ++ p.0)) h, p.2)
    ]

some_has : (o : Option Kind) (k : Kind) → o ≡ Some k → IsSome o
some_has (Some x) k e = refl
some_has None k e = absurd cc

longer : (f r f' r' m : Text) (k : Kind) → IsLongest f r → f' ≡ f ++ m → r ≡ m ++ r' → kind_of f' ≡ Some k → m ≡ []
longer f r f' r' m k l e p is = l m r' p (some_has (kind_of (f ++ m)) k (ap kind_of (sym e) ∙ is))

pub one_front : (text f f' : Text) (k k' : Kind) (r r' : Text) → Begins text f k r → Begins text f' k' r' → (f ≡ f') × (r ≡ r')
one_front text f f' k k' r r' b c =
    elim (split f r f' r' (sym b.parts ∙ c.parts)) [
      | inl p ↦
          let n = longer f r f' r' p.0 k' b.longest p.1 p.2 c.is in
          (sym (p.1 ∙ ap (λ (m : Text). f ++ m) n ∙ append-nil f), p.2 ∙ ap (λ (m : Text). m ++ r') n)
      | inr p ↦
          let n = longer f' r' f r p.0 k c.longest p.1 p.2 b.is in
          (p.1 ∙ ap (λ (m : Text). f' ++ m) n ∙ append-nil f', sym (p.2 ∙ ap (λ (m : Text). m ++ r) n))
    ]

abbrev a_kind : Kind → Option Kind
a_kind k = Some k

kind_is : (k k' : Kind) → a_kind k ≡ a_kind k' → k ≡ k'
kind_is k k' e = cc

pub one_kind : (text f f' : Text) (k k' : Kind) (r r' : Text) → Begins text f k r → Begins text f' k' r' → k ≡ k'
one_kind text f f' k k' r r' b c = kind_is k k' (sym b.is ∙ ap kind_of (one_front text f f' k k' r r' b c).0 ∙ c.is)

-- ---- one turn of the loop

pub joined : (text f : Text) (k : Kind) (r : Text) (more : List Token) → Begins text f k r → AreTokens more r → AreTokens (with_kind k more) text
joined text f k r more b h = ((f, k) ∷ h.0, (r, b, h.1), ap (with_kind k) h.2)

pub taken : (text f : Text) (k : Kind) (r : Text) (ts : List Token) → Begins text f k r → 0 < length f → AreTokens ts text → (more : List Token) × (ts ≡ with_kind k more) × AreTokens more r
taken text f k r ts b long h = from h.0 h.1 h.2
  where
    from : (ps : List (Text × Kind)) → IsCut ps text → ts ≡ tokens_of ps → (more : List Token) × (ts ≡ with_kind k more) × AreTokens more r
    from [] cut e = absurd (omega (arith, ap length (sym b.parts ∙ cut), length-append f r))
    from (p ∷ ps) cut e =
        let o = one_front text f p.0 k p.1 r cut.0 b cut.1 in
        let s = one_kind text f p.0 k p.1 r cut.0 b cut.1 in
        (tokens_of ps, e ∙ ap (λ (x : Kind). with_kind x (tokens_of ps)) (sym s), (ps, subst (λ (u : Text). IsCut ps u) (sym o.1) cut.2, refl))

-- ---- the loop

pub opened : (text : Text) (d : ℕ) → 1 ≤ length text → get_or text 0 d ∷ take (length text - 1) (drop 1 text) ≡ text
opened [] d h = absurd (omega arith)
opened (b ∷ bs) d h = ap (λ (u : Text). b ∷ u) (take_all (length (b ∷ bs) - 1) bs (omega arith))

pub has_front : (text front : Text) (k : Kind) (rest : Text) → Begins text front k rest → 0 < length front
has_front text [] k rest b = absurd (let e = b.is in cc)
has_front text (c ∷ front) k rest b = omega arith

pub begins_shorter : (text front : Text) (k : Kind) (rest : Text) → Begins text front k rest → length rest < length text
begins_shorter text front k rest b = omega (arith, has_front text front k rest b, ap length b.parts, length-append front rest)

-- the tokens so far are those of the front, and no others are
pub record Told (so_far : List Token) (rest text : Text) : Type 0 where
  pub told : (more : List Token) → AreTokens more rest → AreTokens (so_far ++ more) text
  pub all : (ts : List Token) → AreTokens ts text → (more : List Token) × (ts ≡ so_far ++ more) × AreTokens more rest

pub told_start : (text : Text) → Told [] text text
told_start text = record { told = λ more h. h; all = λ ts h. (ts, refl, h) }

pub told_on : (so_far next : List Token) (rest text front behind : Text) (k : Kind) → Told so_far rest text → Begins rest front k behind → ((more : List Token) → next ++ more ≡ so_far ++ with_kind k more) → Told next behind text
told_on so_far next rest text front behind k t b n = record {
  told = λ more h. subst (λ (u : List Token). AreTokens u text) (sym (n more)) (t.told (with_kind k more) (joined rest front k behind more b h));
  all = λ ts h.
      let a = t.all ts h in
      let c = taken rest front k behind a.0 b (has_front rest front k behind b) a.2 in
      (c.0, a.1 ∙ ap (λ (u : List Token). so_far ++ u) c.1 ∙ sym (n c.0), c.2);
}

pub told_end : (so_far : List Token) (rest text : Text) → length rest < 1 → Told so_far rest text → AreTokens so_far text × ((ts : List Token) → AreTokens ts text → ts ≡ so_far)
told_end so_far [] text lt t =
    (subst (λ (u : List Token). AreTokens u text) (append-nil so_far) (t.told [] ([], refl, refl)), only)
  where
    nothing : (more : List Token) → AreTokens more [] → more ≡ []
    nothing more h = empty h.0 h.1 h.2
      where
        empty : (ps : List (Text × Kind)) → IsCut ps [] → more ≡ tokens_of ps → more ≡ []
        empty [] cut e = e
        empty (p ∷ ps) cut e = absurd (omega (arith, begins_shorter [] p.0 p.1 cut.0 cut.1))

    only : (ts : List Token) → AreTokens ts text → ts ≡ so_far
    only ts h = let a = t.all ts h in a.1 ∙ ap (λ (u : List Token). so_far ++ u) (nothing a.0 a.2) ∙ append-nil so_far
told_end so_far (c ∷ rest) text lt t = absurd (omega arith)

pub told_stuck : (so_far : List Token) (rest text : Text) → 1 ≤ length rest → Told so_far rest text → ((front behind : Text) (k : Kind) → Begins rest front k behind → ⊥) → (ts : List Token) → AreTokens ts text → ⊥
told_stuck so_far rest text ge t none ts h = let a = t.all ts h in no a.2.0 a.2.1
  where
    no : (ps : List (Text × Kind)) → IsCut ps rest → ⊥
    no [] cut = absurd (omega (arith, ap length cut))
    no (p ∷ ps) cut = none p.0 cut.0 p.1 cut.1

pieces_once : (ps qs : List (Text × Kind)) (text : Text) → IsCut ps text → IsCut qs text → ps ≡ qs
pieces_once [] [] text h k = refl
pieces_once [] (q ∷ qs) text h k = absurd (omega (arith, ap length h, begins_shorter text q.0 q.1 k.0 k.1))
pieces_once (p ∷ ps) [] text h k = absurd (omega (arith, ap length k, begins_shorter text p.0 p.1 h.0 h.1))
pieces_once (p ∷ ps) (q ∷ qs) text h k =
    let front = one_front text p.0 q.0 p.1 q.1 h.0 k.0 h.1 k.1 in
    let kind = one_kind text p.0 q.0 p.1 q.1 h.0 k.0 h.1 k.1 in
    let first : p ≡ q = ap (λ (f : Text). (f, p.1)) front.0 ∙ ap (λ (x : Kind). (q.0, x)) kind in
    let others = pieces_once ps qs k.0 (subst (λ (u : Text). IsCut ps u) front.1 h.2) k.2 in
    ap (λ (x : Text × Kind). x ∷ ps) first ∙ ap (λ (xs : List (Text × Kind)). q ∷ xs) others

pub one_cut : (text : Text) (ts us : List Token) → AreTokens ts text → AreTokens us text → ts ≡ us
one_cut text ts us h k = h.2 ∙ ap tokens_of (pieces_once h.0 k.0 text h.1 k.1) ∙ sym k.2
