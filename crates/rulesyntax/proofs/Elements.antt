-- Elements, and lists with commas between: reading and spelling are one.
use Rattle.std.proofs.Common.{◌≡◌, ℕ, zero, suc, ◌≤◌, ◌<◌, Bool, true, false, cond, List, [], ◌∷◌, length, Option, Some, None, refl, ap, subst, ◌∙◌, arith, inl, inr, ◌⊎◌}
use Rattle.std.specs.Prelude.{◌&&◌}
use Rattle.std.proofs.lemmas.Bool.{leb-true, le-leb}
use Rattle.ruletokens.specs.declared.token.Token.{Token}
use Rattle.ruletokens.specs.declared.token.Token.TheVariants as token
use Rattle.ruletokens.specs.declared.token.Symbol as symbol
use Rattle.ruletokens.specs.declared.token.Symbol.TheVariants.{Close, Comma, Slash, Minus}
use Rattle.ruletree.specs.declared.tree.Value.{Value}
use Rattle.ruletree.specs.declared.tree.Value.TheVariants.{Address, Prefix, Addresses, Number, Numbers, Name, Quoted}
use Rattle.ruletree.specs.declared.tree.Element.{Element}
use Rattle.rulesyntax.specs.Grammar.{Tokens, Spelling, inside, MayComma, Entries, ValueIs, ElementIs}
use Rattle.rulesyntax.specs.Reading.{if_some, Reader, rank, next_at, number_of, number_at, address_of, address_at, symbol_of, symbol_at, close_at, is_close, prefix_behind, addresses_behind, address_behind, numbers_behind, number_behind, value_of, value_at, element_at, behind_comma, comma_at, entries_from, opened_at}
use Rattle.rulesyntax.proofs.Sound.{Sound, nothing, just, then_sound, if_sound, cond_sound, next_sound, number_sound, address_sound, symbol_sound, close_sound}

-- it is spelled so
abbrev pub Is : {A : Type 0} → Spelling A → Tokens → A × Tokens → Type 0
Is X ts p = X p.0 ts p.1

-- it is spelled so, and takes a token
abbrev pub Takes : {A : Type 0} → Spelling A → Tokens → A × Tokens → Type 0
Takes X ts p = X p.0 ts p.1 × (length p.1 < length ts)

-- no value goes on here
abbrev pub is_apart : Tokens → Bool
is_apart (token.Symbol Slash ∷ ts) = false
is_apart (token.Symbol Minus ∷ ts) = false
is_apart _ = true

apart_slash : (ts : Tokens) → is_apart ts ≡ true → symbol_at Slash ts ≡ None
unfolding symbol_at symbol_of next_at rank
apart_slash [] e = refl
apart_slash (token.Symbol Slash ∷ ts) e = absurd cc
apart_slash (token.Symbol Minus ∷ ts) e = absurd cc
apart_slash (t ∷ ts) e = refl

apart_minus : (ts : Tokens) → is_apart ts ≡ true → symbol_at Minus ts ≡ None
unfolding symbol_at symbol_of next_at rank
apart_minus [] e = refl
apart_minus (token.Symbol Slash ∷ ts) e = absurd cc
apart_minus (token.Symbol Minus ∷ ts) e = absurd cc
apart_minus (t ∷ ts) e = refl

prefix_sound : (a : ℕ) (ts : Tokens) → Sound (Is ValueIs (token.Address a ∷ token.Symbol Slash ∷ ts)) (prefix_behind a ts)
unfolding prefix_behind
prefix_sound a ts =
    then_sound (number_sound ts) (λ (n : ℕ × Tokens) (e : ts ≡ token.Number n.0 ∷ n.1).
    cond_sound (λ b. just {x = (Prefix a n.0, n.1)} (ap (λ (u : Tokens). token.Address a ∷ token.Symbol Slash ∷ u) e, leb-true n.0 32 b)) (λ _. nothing))

addresses_sound : (a : ℕ) (ts : Tokens) → Sound (Is ValueIs (token.Address a ∷ token.Symbol Minus ∷ ts)) (addresses_behind a ts)
unfolding addresses_behind
addresses_sound a ts =
    then_sound (address_sound ts) (λ (b : ℕ × Tokens) (e : ts ≡ token.Address b.0 ∷ b.1).
    cond_sound (λ le. just {x = (Addresses a b.0, b.1)} (ap (λ (u : Tokens). token.Address a ∷ token.Symbol Minus ∷ u) e, leb-true a b.0 le)) (λ _. nothing))

numbers_sound : (a : ℕ) (ts : Tokens) → Sound (Is ValueIs (token.Number a ∷ token.Symbol Minus ∷ ts)) (numbers_behind a ts)
unfolding numbers_behind
numbers_sound a ts =
    then_sound (number_sound ts) (λ (b : ℕ × Tokens) (e : ts ≡ token.Number b.0 ∷ b.1).
    cond_sound (λ le. just {x = (Numbers a b.0, b.1)} (ap (λ (u : Tokens). token.Number a ∷ token.Symbol Minus ∷ u) e, leb-true a b.0 le)) (λ _. nothing))

address_value : (a : ℕ) (ts : Tokens) → Sound (Is ValueIs (token.Address a ∷ ts)) (address_behind a ts)
unfolding address_behind
address_value a ts =
    if_sound (symbol_sound Slash ts) (λ (u : Tokens) (e : ts ≡ token.Symbol Slash ∷ u). rw e (prefix_sound a u))
    (if_sound (symbol_sound Minus ts) (λ (u : Tokens) (e : ts ≡ token.Symbol Minus ∷ u). rw e (addresses_sound a u)) (just refl))

number_value : (a : ℕ) (ts : Tokens) → Sound (Is ValueIs (token.Number a ∷ ts)) (number_behind a ts)
unfolding number_behind
number_value a ts = if_sound (symbol_sound Minus ts) (λ (u : Tokens) (e : ts ≡ token.Symbol Minus ∷ u). rw e (numbers_sound a u)) (just refl)

value_from : (ts : Tokens) (p : Token × Tokens) → ts ≡ p.0 ∷ p.1 → Sound (Is ValueIs ts) (value_of p)
unfolding value_of
value_from ts (token.Address a, rest) e = rw e (address_value a rest)
value_from ts (token.Number n, rest) e = rw e (number_value n rest)
value_from ts (token.Name n, rest) e = just e
value_from ts (token.Quoted q, rest) e = just e
value_from ts (t, rest) e = nothing

value_sound : (ts : Tokens) → Sound (Is ValueIs ts) (value_at ts)
unfolding value_at
value_sound ts = then_sound (next_sound ts) (value_from ts)

value_shrinks : (v : Value) (ts rest : Tokens) → ValueIs v ts rest → length rest < length ts
value_shrinks (Address a) ts rest h = omega (arith, ap length h)
value_shrinks (Prefix a n) ts rest h = omega (arith, ap length h.0)
value_shrinks (Addresses a b) ts rest h = omega (arith, ap length h.0)
value_shrinks (Number n) ts rest h = omega (arith, ap length h)
value_shrinks (Numbers m n) ts rest h = omega (arith, ap length h.0)
value_shrinks (Name n) ts rest h = omega (arith, ap length h)
value_shrinks (Quoted q) ts rest h = omega (arith, ap length h)

pub element_sound : (ts : Tokens) → Sound (Takes ElementIs ts) (element_at ts)
unfolding element_at
element_sound ts = then_sound (value_sound ts) (λ (v : Value × Tokens) (h : ValueIs v.0 ts v.1). just (h, value_shrinks v.0 ts v.1 h))

value_complete : (v : Value) (ts rest : Tokens) → ValueIs v ts rest → is_apart rest ≡ true → value_at ts ≡ Some (v, rest)
unfolding value_at value_of next_at address_behind number_behind prefix_behind addresses_behind numbers_behind symbol_at symbol_of rank number_at number_of address_at address_of
value_complete (Address a) ts rest h e = ap value_at h ∙ rw (apart_slash rest e, apart_minus rest e) refl
value_complete (Prefix a n) ts rest h e = ap value_at h.0 ∙ rw (le-leb n 32 h.1) refl
value_complete (Addresses a b) ts rest h e = ap value_at h.0 ∙ rw (le-leb a b h.1) refl
value_complete (Number n) ts rest h e = ap value_at h ∙ rw (apart_minus rest e) refl
value_complete (Numbers m n) ts rest h e = ap value_at h.0 ∙ rw (le-leb m n h.1) refl
value_complete (Name n) ts rest h e = ap value_at h
value_complete (Quoted q) ts rest h e = ap value_at h

pub element_complete : (x : Element) (ts rest : Tokens) → ElementIs x ts rest → is_apart rest ≡ true → element_at ts ≡ Some (x, rest)
unfolding element_at
element_complete x ts rest h e = rw (value_complete x.value ts rest h e) refl

-- ---- commas

comma_sound : (braces : Bool) (a : Tokens) → (((comma_at braces a).0 ≡ true) × (a ≡ token.Symbol Comma ∷ (comma_at braces a).1)) ⊎ (((comma_at braces a).0 ≡ false) × MayComma braces a (comma_at braces a).1)
unfolding comma_at behind_comma
comma_sound braces a = from (symbol_at Comma a) (symbol_sound Comma a)
  where
    behind : (braces : Bool) (u : Tokens) → a ≡ token.Symbol Comma ∷ u → (b : Bool) → (((cond {A = Bool × Tokens} (braces && b) (false, u) (true, u)).0 ≡ true) × (a ≡ token.Symbol Comma ∷ (cond {A = Bool × Tokens} (braces && b) (false, u) (true, u)).1)) ⊎ (((cond {A = Bool × Tokens} (braces && b) (false, u) (true, u)).0 ≡ false) × MayComma braces a (cond {A = Bool × Tokens} (braces && b) (false, u) (true, u)).1)
    behind true u e true = inr (refl, inr e)
    behind true u e false = inl (refl, e)
    behind false u e b = inl (refl, e)

    plain : (braces : Bool) → MayComma braces a a
    plain true = inl refl
    plain false = refl

    from : (o : Option Tokens) → Sound (λ (u : Tokens). a ≡ token.Symbol Comma ∷ u) o → (((if_some o (behind_comma braces) (false, a)).0 ≡ true) × (a ≡ token.Symbol Comma ∷ (if_some o (behind_comma braces) (false, a)).1)) ⊎ (((if_some o (behind_comma braces) (false, a)).0 ≡ false) × MayComma braces a (if_some o (behind_comma braces) (false, a)).1)
    from (Some u) e = behind braces u (e.so u refl) (is_close u)
    from None e = inr (refl, plain braces)

may_comma_shrinks : (braces : Bool) (a rest : Tokens) → MayComma braces a rest → length rest ≤ length a
may_comma_shrinks true a rest (inl e) = omega (arith, ap length e)
may_comma_shrinks true a rest (inr e) = omega (arith, ap length e)
may_comma_shrinks false a rest e = omega (arith, ap length e)

-- nothing that goes on behind an entry, and no further one
abbrev pub is_ended : Bool → Tokens → Bool
is_ended true ts = is_close ts
is_ended false (token.Symbol Comma ∷ ts) = false
is_ended false ts = true

-- an entry is read where it is spelled, and where nothing goes on behind it
pub record Entered {E : Type 0} (X : Spelling E) (reads : Reader E) : Type 0 where
  pub sound : (ts : Tokens) → Sound (Takes X ts) (reads ts)
  pub complete : (x : E) (ts rest : Tokens) → X x ts rest → is_apart rest ≡ true → reads ts ≡ Some (x, rest)
  pub opens : (x : E) (ts rest : Tokens) → X x ts rest → is_close ts ≡ false

comma_none : (a : Tokens) → is_ended false a ≡ true → comma_at false a ≡ (false, a)
unfolding comma_at symbol_at symbol_of next_at rank
comma_none [] e = refl
comma_none (token.Symbol Comma ∷ a) e = absurd cc
comma_none (t ∷ a) e = refl

comma_some : (braces : Bool) (a : Tokens) → is_close a ≡ false → comma_at braces (token.Symbol Comma ∷ a) ≡ (true, a)
unfolding comma_at symbol_at symbol_of next_at rank behind_comma
comma_some true a e = rw e refl
comma_some false a e = refl

comma_last : (braces : Bool) (a rest : Tokens) → MayComma braces a rest → is_ended braces rest ≡ true → comma_at braces a ≡ (false, rest)
unfolding comma_at symbol_at symbol_of next_at rank behind_comma is_close
comma_last true a [] h e = absurd cc
comma_last true a (token.Symbol Close ∷ rest) (inl h) e = ap (comma_at true) h
comma_last true a (token.Symbol Close ∷ rest) (inr h) e = ap (comma_at true) h
comma_last true a (t ∷ rest) h e = absurd cc
comma_last false a rest h e = ap (comma_at false) h ∙ comma_none rest e

may_comma_apart : (braces : Bool) (a rest : Tokens) → MayComma braces a rest → is_apart rest ≡ true → is_apart a ≡ true
may_comma_apart true a rest (inl h) e = ap is_apart h ∙ e
may_comma_apart true a rest (inr h) e = ap is_apart h
may_comma_apart false a rest h e = ap is_apart h ∙ e

pub inside_shorter : (ts : Tokens) → length (inside ts) ≤ length ts
inside_shorter [] = omega arith
inside_shorter (token.NewLine ∷ ts) = omega (arith, inside_shorter ts)
inside_shorter (token.Symbol Close ∷ ts) = omega arith
inside_shorter (t ∷ ts) = omega (arith, inside_shorter ts)

-- between braces, and then a brace
abbrev pub Within : {E : Type 0} → Spelling E → Tokens → List E × Tokens → Type 0
Within X ts p = Entries X true p.0 (inside ts) (token.Symbol Close ∷ p.1) × (length p.1 < length ts)

module _ {E : Type 0} (X : Spelling E) (reads : Reader E) (entered : Entered X reads) where
  cons_entries : (braces : Bool) (x : E) (xs : List E) (ts a rest : Tokens) → X x ts (token.Symbol Comma ∷ a) → Entries X braces xs a rest → Entries X braces (x ∷ xs) ts rest
  cons_entries braces x [] ts a rest h k = absurd k
  cons_entries braces x (y ∷ xs) ts a rest h k = (a, h, k)

  pub entries_sound : (braces : Bool) (n : ℕ) (ts : Tokens) → Sound (Takes (Entries X braces) ts) (entries_from reads braces n ts)
  unfolding entries_from
  entries_sound braces zero ts = nothing
  entries_sound braces (suc n) ts =
      then_sound (entered.sound ts) (λ (p : E × Tokens) (h : Takes X ts p).
      elim (comma_sound braces p.1) [
        | inl q ↦ rw q.0 (then_sound (entries_sound braces n (comma_at braces p.1).1) (λ (r : List E × Tokens) (k : Takes (Entries X braces) (comma_at braces p.1).1 r).
            just {x = (p.0 ∷ r.0, r.1)} (cons_entries braces p.0 r.0 ts (comma_at braces p.1).1 r.1 (subst (λ (u : Tokens). X p.0 ts u) q.1 h.0) k.0, omega (arith, h.1, k.1, ap length q.1))))
        | inr q ↦ rw q.0 (just {x = (p.0 ∷ [], (comma_at braces p.1).1)} ((p.1, h.0, q.1), omega (arith, h.1, may_comma_shrinks braces p.1 (comma_at braces p.1).1 q.1)))
      ])

  entries_open : (braces : Bool) (xs : List E) (ts rest : Tokens) → Entries X braces xs ts rest → is_close ts ≡ false
  entries_open braces [] ts rest h = absurd h
  entries_open braces (x ∷ []) ts rest h = entered.opens x ts h.0 h.1
  entries_open braces (x ∷ y ∷ xs) ts rest h = entered.opens x ts (token.Symbol Comma ∷ h.0) h.1

  pub entries_complete : (braces : Bool) (xs : List E) (n : ℕ) (ts rest : Tokens) → Entries X braces xs ts rest → is_ended braces rest ≡ true → is_apart rest ≡ true → length ts < n → entries_from reads braces n ts ≡ Some (xs, rest)
  unfolding entries_from
  entries_complete braces [] n ts rest h e f lt = absurd h
  entries_complete braces (x ∷ xs) zero ts rest h e f lt = absurd (omega arith)
  entries_complete braces (x ∷ []) (suc n) ts rest h e f lt =
      rw (entered.complete x ts h.0 h.1 (may_comma_apart braces h.0 rest h.2 f), comma_last braces h.0 rest h.2 e) refl
  entries_complete braces (x ∷ y ∷ xs) (suc n) ts rest h e f lt =
      let c = entered.complete x ts (token.Symbol Comma ∷ h.0) h.1 refl in
      let s : length h.0 < n = omega (arith, ((entered.sound ts).so (x, token.Symbol Comma ∷ h.0) c).1) in
      rw (c, comma_some braces h.0 (entries_open braces (y ∷ xs) h.0 rest h.2), entries_complete braces (y ∷ xs) n h.0 rest h.2 e f s) refl

  pub braced_sound : (ts : Tokens) → Sound (Within X ts) (opened_at reads ts)
  unfolding opened_at
  braced_sound ts =
      then_sound (entries_sound true (suc (length ts)) (inside ts)) (λ (r : List E × Tokens) (h : Takes (Entries X true) (inside ts) r).
      then_sound (close_sound r.1) (λ (u : Tokens) (e : r.1 ≡ token.Symbol Close ∷ u).
      just {x = (r.0, u)} (subst (λ (v : Tokens). Entries X true r.0 (inside ts) v) e h.0, omega (arith, h.1, inside_shorter ts, ap length e))))

  pub braced_complete : (xs : List E) (ts rest : Tokens) → Entries X true xs (inside ts) (token.Symbol Close ∷ rest) → opened_at reads ts ≡ Some (xs, rest)
  unfolding opened_at close_at is_close
  braced_complete xs ts rest h = rw (entries_complete true xs (suc (length ts)) (inside ts) (token.Symbol Close ∷ rest) h refl refl (omega (arith, inside_shorter ts))) refl

-- ---- elements as entries

-- a value begins here
abbrev pub begins_value : Tokens → Bool
begins_value (token.Address a ∷ ts) = true
begins_value (token.Number n ∷ ts) = true
begins_value (token.Name n ∷ ts) = true
begins_value (token.Quoted q ∷ ts) = true
begins_value _ = false

value_begins : (v : Value) (ts rest : Tokens) → ValueIs v ts rest → begins_value ts ≡ true
value_begins (Address a) ts rest h = ap begins_value h
value_begins (Prefix a n) ts rest h = ap begins_value h.0
value_begins (Addresses a b) ts rest h = ap begins_value h.0
value_begins (Number n) ts rest h = ap begins_value h
value_begins (Numbers m n) ts rest h = ap begins_value h.0
value_begins (Name n) ts rest h = ap begins_value h
value_begins (Quoted q) ts rest h = ap begins_value h

pub element_begins : (x : Element) (ts rest : Tokens) → ElementIs x ts rest → begins_value ts ≡ true
element_begins x ts rest h = value_begins x.value ts rest h

pub value_no_symbol : (s : symbol.Symbol) (ts : Tokens) → begins_value ts ≡ true → symbol_at s ts ≡ None
unfolding symbol_at symbol_of next_at
value_no_symbol s [] e = absurd cc
value_no_symbol s (token.Symbol t ∷ ts) e = absurd cc
value_no_symbol s (token.NewLine ∷ ts) e = absurd cc
value_no_symbol s (token.Wrong ∷ ts) e = absurd cc
value_no_symbol s (t ∷ ts) e = refl

value_open : (ts : Tokens) → begins_value ts ≡ true → is_close ts ≡ false
unfolding is_close
value_open [] e = absurd cc
value_open (token.Symbol t ∷ ts) e = absurd cc
value_open (t ∷ ts) e = refl

pub element_entered : Entered ElementIs element_at
element_entered = record {
  sound = element_sound;
  complete = element_complete;
  opens = λ x ts rest h. value_open ts (element_begins x ts rest h);
}
