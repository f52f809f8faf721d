-- What reading gives has a property.
use Rattle.std.proofs.Common.{◌≡◌, ℕ, Bool, true, false, cond, List, [], ◌∷◌, Option, Some, None, refl, sym, ap, subst, ◌∙◌}
use Rattle.std.specs.Prelude.{◌==◌, if◌then◌else◌}
use Rattle.std.proofs.lemmas.Slice.Eq.{bytes_eq-Decides}
use Rattle.std.proofs.lemmas.Bool.{eqb-true}
use Rattle.ruletokens.specs.declared.token.Token.{Token}
use Rattle.ruletokens.specs.declared.token.Token.TheVariants.{Name, Number, Address, Quoted, Symbol}
use Rattle.ruletokens.specs.declared.token.Symbol as symbol
use Rattle.ruletokens.specs.declared.token.Symbol.TheVariants.{Open, Close, Comma, Semicolon, Colon, Slash, Minus, Plus, Equal, Equals, Differs, At}
use Rattle.rulesyntax.specs.Words.{lookup}
use Rattle.rulesyntax.specs.Grammar.{Tokens}
use Rattle.rulesyntax.specs.Reading.{◌>>=◌, if_some, next_at, number_of, number_at, address_of, address_at, name_of, name_at, quoted_of, quoted_at, word_of, word_at, rank, symbol_of, symbol_at, keyword_of, keyword_at, close_at}

-- whatever is given has the property
pub record Sound {A : Type 0} (P : A → Type 0) (o : Option A) : Type 0 where
  pub so : (x : A) → o ≡ Some x → P x

pub nothing : {A : Type 0} {P : A → Type 0} → Sound P None
nothing = record { so = λ x e. absurd cc }

pub some_is : {A : Type 0} (x y : A) → Some x ≡ Some y → x ≡ y
some_is x y e = cc

pub just : {A : Type 0} {P : A → Type 0} {x : A} → P x → Sound P (Some x)
just {P = P} {x = x} h = record { so = λ y e. subst P (some_is x y e) h }

pub weaker : {A : Type 0} {Q P : A → Type 0} {o : Option A} → Sound Q o → ((x : A) → Q x → P x) → Sound P o
weaker q h = record { so = λ x e. h x (q.so x e) }

pub then_sound : {A B : Type 0} {Q : A → Type 0} {P : B → Type 0} {o : Option A} {f : A → Option B} → Sound Q o → ((x : A) → Q x → Sound P (f x)) → Sound P (o >>= f)
then_sound {o = Some x} q h = h x (q.so x refl)
then_sound {o = None} q h = nothing

pub if_sound : {A B : Type 0} {Q : A → Type 0} {P : B → Type 0} {o : Option A} {f : A → Option B} {d : Option B} → Sound Q o → ((x : A) → Q x → Sound P (f x)) → Sound P d → Sound P (if_some o f d)
if_sound {o = Some x} q h g = h x (q.so x refl)
if_sound {o = None} q h g = g

pub if_else : {A B : Type 0} {Q : A → Type 0} {P : B → Type 0} {o : Option A} {f : A → Option B} {d : Option B} → Sound Q o → ((x : A) → Q x → Sound P (f x)) → (o ≡ None → Sound P d) → Sound P (if_some o f d)
if_else {o = Some x} q h g = h x (q.so x refl)
if_else {o = None} q h g = g refl

pub cond_sound : {A : Type 0} {P : A → Type 0} {b : Bool} {x y : Option A} → (b ≡ true → Sound P x) → (b ≡ false → Sound P y) → Sound P (cond b x y)
cond_sound {b = true} h g = h refl
cond_sound {b = false} h g = g refl

-- ---- single tokens

pub next_sound : (ts : Tokens) → Sound (λ (p : Token × Tokens). ts ≡ p.0 ∷ p.1) (next_at ts)
unfolding next_at
next_sound [] = nothing
next_sound (Symbol Close ∷ ts) = nothing
next_sound (t ∷ ts) = just refl

number_from : (ts : Tokens) (p : Token × Tokens) → ts ≡ p.0 ∷ p.1 → Sound (λ (x : ℕ × Tokens). ts ≡ Number x.0 ∷ x.1) (number_of p)
unfolding number_of
number_from ts (Number n, rest) e = just e
number_from ts (t, rest) e = nothing

pub number_sound : (ts : Tokens) → Sound (λ (x : ℕ × Tokens). ts ≡ Number x.0 ∷ x.1) (number_at ts)
unfolding number_at
number_sound ts = then_sound (next_sound ts) (number_from ts)

address_from : (ts : Tokens) (p : Token × Tokens) → ts ≡ p.0 ∷ p.1 → Sound (λ (x : ℕ × Tokens). ts ≡ Address x.0 ∷ x.1) (address_of p)
unfolding address_of
address_from ts (Address a, rest) e = just e
address_from ts (t, rest) e = nothing

pub address_sound : (ts : Tokens) → Sound (λ (x : ℕ × Tokens). ts ≡ Address x.0 ∷ x.1) (address_at ts)
unfolding address_at
address_sound ts = then_sound (next_sound ts) (address_from ts)

name_from : (ts : Tokens) (p : Token × Tokens) → ts ≡ p.0 ∷ p.1 → Sound (λ (x : List ℕ × Tokens). ts ≡ Name x.0 ∷ x.1) (name_of p)
unfolding name_of
name_from ts (Name n, rest) e = just e
name_from ts (t, rest) e = nothing

pub name_sound : (ts : Tokens) → Sound (λ (x : List ℕ × Tokens). ts ≡ Name x.0 ∷ x.1) (name_at ts)
unfolding name_at
name_sound ts = then_sound (next_sound ts) (name_from ts)

quoted_from : (ts : Tokens) (p : Token × Tokens) → ts ≡ p.0 ∷ p.1 → Sound (λ (rest : Tokens). (q : List ℕ) × (ts ≡ Quoted q ∷ rest)) (quoted_of p)
unfolding quoted_of
quoted_from ts (Quoted q, rest) e = just (q, e)
quoted_from ts (t, rest) e = nothing

pub quoted_sound : (ts : Tokens) → Sound (λ (rest : Tokens). (q : List ℕ) × (ts ≡ Quoted q ∷ rest)) (quoted_at ts)
unfolding quoted_at
quoted_sound ts = then_sound (next_sound ts) (quoted_from ts)

word_from : (w : List ℕ) (ts : Tokens) (p : Token × Tokens) → ts ≡ p.0 ∷ p.1 → Sound (λ (rest : Tokens). ts ≡ Name w ∷ rest) (word_of w p)
unfolding word_of
word_from w ts (Name n, rest) e = cond_sound (λ b. just (e ∙ ap (λ (m : List ℕ). Name m ∷ rest) ((bytes_eq-Decides n w).0 b))) (λ _. nothing)
word_from w ts (t, rest) e = nothing

pub word_sound : (w : List ℕ) (ts : Tokens) → Sound (λ (rest : Tokens). ts ≡ Name w ∷ rest) (word_at w ts)
unfolding word_at
word_sound w ts = then_sound (next_sound ts) (word_from w ts)

of_rank : ℕ → symbol.Symbol
of_rank n =
    if n == 0 then Open
    else if n == 1 then Close
    else if n == 2 then Comma
    else if n == 3 then Semicolon
    else if n == 4 then Colon
    else if n == 5 then Slash
    else if n == 6 then Minus
    else if n == 7 then Plus
    else if n == 8 then Equal
    else if n == 9 then Equals
    else if n == 10 then Differs
    else At

of_rank-rank : (s : symbol.Symbol) → of_rank (rank s) ≡ s
unfolding rank of_rank
of_rank-rank Open = refl
of_rank-rank Close = refl
of_rank-rank Comma = refl
of_rank-rank Semicolon = refl
of_rank-rank Colon = refl
of_rank-rank Slash = refl
of_rank-rank Minus = refl
of_rank-rank Plus = refl
of_rank-rank Equal = refl
of_rank-rank Equals = refl
of_rank-rank Differs = refl
of_rank-rank At = refl

same_symbol : (s t : symbol.Symbol) → (rank t == rank s) ≡ true → t ≡ s
same_symbol s t e = sym (of_rank-rank t) ∙ ap of_rank (eqb-true (rank t) (rank s) e) ∙ of_rank-rank s

symbol_from : (s : symbol.Symbol) (ts : Tokens) (p : Token × Tokens) → ts ≡ p.0 ∷ p.1 → Sound (λ (rest : Tokens). ts ≡ Symbol s ∷ rest) (symbol_of s p)
unfolding symbol_of
symbol_from s ts (Symbol t, rest) e = cond_sound (λ b. just (e ∙ ap (λ (u : symbol.Symbol). Symbol u ∷ rest) (same_symbol s t b))) (λ _. nothing)
symbol_from s ts (t, rest) e = nothing

pub symbol_sound : (s : symbol.Symbol) (ts : Tokens) → Sound (λ (rest : Tokens). ts ≡ Symbol s ∷ rest) (symbol_at s ts)
unfolding symbol_at
symbol_sound s ts = then_sound (next_sound ts) (symbol_from s ts)

pub close_sound : (ts : Tokens) → Sound (λ (rest : Tokens). ts ≡ Symbol Close ∷ rest) (close_at ts)
unfolding close_at
close_sound [] = nothing
close_sound (Symbol Close ∷ ts) = just refl
close_sound (t ∷ ts) = nothing

-- ---- words

module _ {K : Type 0} (name : K → List ℕ) where
  -- each word of the table is the name of what it means
  abbrev pub AreNames : List (List ℕ × K) → Type 0
  AreNames [] = Unit {0}
  AreNames (e ∷ more) = (e.0 ≡ name e.1) × AreNames more

  lookup_sound : (table : List (List ℕ × K)) → AreNames table → (w : List ℕ) → Sound (λ (k : K). w ≡ name k) (lookup table w)
  lookup_sound [] h w = nothing
  lookup_sound (e ∷ more) h w = cond_sound (λ b. just ((bytes_eq-Decides w e.0).0 b ∙ h.0)) (λ _. lookup_sound more h.1 w)

  keyword_from : (table : List (List ℕ × K)) → AreNames table → (ts : Tokens) (p : Token × Tokens) → ts ≡ p.0 ∷ p.1 → Sound (λ (x : K × Tokens). ts ≡ Name (name x.0) ∷ x.1) (keyword_of table p)
  unfolding keyword_of
  keyword_from table h ts (Name n, rest) e = then_sound (lookup_sound table h n) (λ k f. just (e ∙ ap (λ (m : List ℕ). Name m ∷ rest) f))
  keyword_from table h ts (t, rest) e = nothing

  pub keyword_sound : (table : List (List ℕ × K)) → AreNames table → (ts : Tokens) → Sound (λ (x : K × Tokens). ts ≡ Name (name x.0) ∷ x.1) (keyword_at table ts)
  unfolding keyword_at
  keyword_sound table h ts = then_sound (next_sound ts) (keyword_from table h ts)
