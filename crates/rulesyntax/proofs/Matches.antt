-- Matches: reading and spelling are one.
use Rattle.std.proofs.Common.{◌≡◌, ℕ, ◌≤◌, suc, Bool, true, false, cond, List, [], ◌∷◌, length, Option, Some, None, refl, sym, ap, subst, ◌∙◌, arith, inl, inr}
use Rattle.std.specs.Prelude.{codes}
use Rattle.std.specs.Str.{bytes_eq}
use Rattle.std.proofs.lemmas.Slice.Eq.{bytes_eq-Decides}
use Rattle.ruletokens.specs.declared.token.Token.TheVariants as token
use Rattle.ruletokens.specs.declared.token.Symbol.TheVariants.{Open, Close, Comma, Semicolon, Differs, Equals, At}
use Rattle.ruletree.specs.declared.tree.Head.{Head}
use Rattle.ruletree.specs.declared.tree.Head.TheVariants.{Iifname, Oifname, Saddr, Daddr, Protocol, Sport, Dport, State}
use Rattle.ruletree.specs.declared.tree.Value.{Value}
use Rattle.ruletree.specs.declared.tree.Value.TheVariants.{Address, Prefix, Addresses, Number, Numbers, Name, Quoted}
use Rattle.ruletree.specs.declared.tree.Element.{Element}
use Rattle.ruletree.specs.declared.tree.Side.{Side}
use Rattle.ruletree.specs.declared.tree.Side.TheVariants.{One, Several, Named}
use Rattle.ruletree.specs.declared.tree.Match.{Match}
use Rattle.rulesyntax.specs.Grammar.{Tokens, ValueIs, ElementIs, HeadIs, OperatorIs, IsBare, SideIs, MatchIs, Entries}
use Rattle.rulesyntax.specs.Reading.{if_some, next_at, name_of, name_at, word_of, word_at, rank, symbol_of, symbol_at, element_at, is_state, begins_word, begins_vmap, operator_at, states_side, states_at, one_at, named_behind, several_behind, plain_at, side_at, match_at}
use Rattle.rulesyntax.proofs.Sound.{Sound, just, nothing, then_sound, if_sound, if_else, cond_sound, name_sound, word_sound, symbol_sound}
use Rattle.rulesyntax.proofs.Elements.{Takes, Within, is_apart, is_ended, begins_value, element_sound, element_complete, element_entered, element_begins, value_no_symbol, entries_sound, entries_complete, braced_sound, braced_complete}
use Rattle.rulesyntax.proofs.Heads.{head_sound, head_complete}

-- no side goes on here
abbrev pub is_calm : Tokens → Bool
is_calm [] = true
is_calm (token.Name n ∷ ts) = true
is_calm (token.NewLine ∷ ts) = true
is_calm (token.Symbol Close ∷ ts) = true
is_calm (token.Symbol Semicolon ∷ ts) = true
is_calm _ = false

pub calm_apart : (ts : Tokens) → is_calm ts ≡ true → is_apart ts ≡ true
calm_apart [] e = refl
calm_apart (token.Name n ∷ ts) e = refl
calm_apart (token.NewLine ∷ ts) e = refl
calm_apart (token.Symbol Close ∷ ts) e = refl
calm_apart (token.Symbol Semicolon ∷ ts) e = refl
calm_apart (t ∷ ts) e = absurd cc

calm_ended : (ts : Tokens) → is_calm ts ≡ true → is_ended false ts ≡ true
calm_ended [] e = refl
calm_ended (token.Name n ∷ ts) e = refl
calm_ended (token.NewLine ∷ ts) e = refl
calm_ended (token.Symbol Close ∷ ts) e = refl
calm_ended (token.Symbol Semicolon ∷ ts) e = refl
calm_ended (t ∷ ts) e = absurd cc

-- ---- operators

operator_sound : (ts : Tokens) → OperatorIs (operator_at ts).0 ts (operator_at ts).1
unfolding operator_at
operator_sound ts = from (symbol_at Differs ts) (symbol_sound Differs ts) (symbol_at Equals ts) (symbol_sound Equals ts)
  where
    from : (o : Option Tokens) → Sound (λ (u : Tokens). ts ≡ token.Symbol Differs ∷ u) o → (p : Option Tokens) → Sound (λ (u : Tokens). ts ≡ token.Symbol Equals ∷ u) p
        → OperatorIs (if_some {B = Bool × Tokens} o (λ rest. (true, rest)) (if_some p (λ rest. (false, rest)) (false, ts))).0 ts (if_some {B = Bool × Tokens} o (λ rest. (true, rest)) (if_some p (λ rest. (false, rest)) (false, ts))).1
    from (Some u) h p k = h.so u refl
    from None h (Some u) k = inr (k.so u refl)
    from None h None k = inl refl

operator_shrinks : (b : Bool) (ts rest : Tokens) → OperatorIs b ts rest → length rest ≤ length ts
operator_shrinks true ts rest h = omega (arith, ap length h)
operator_shrinks false ts rest (inl h) = omega (arith, ap length h)
operator_shrinks false ts rest (inr h) = omega (arith, ap length h)

operator_complete : (b : Bool) (ts rest : Tokens) → OperatorIs b ts rest → symbol_at Differs rest ≡ None → symbol_at Equals rest ≡ None → operator_at ts ≡ (b, rest)
unfolding operator_at symbol_at symbol_of next_at rank
operator_complete true ts rest h d e = ap operator_at h
operator_complete false ts rest (inl h) d e = ap operator_at h ∙ rw (d, e) refl
operator_complete false ts rest (inr h) d e = ap operator_at h

-- ---- sides

bare_from : (x : Element) (ts rest : Tokens) → word_at (codes "vmap") ts ≡ None → ElementIs x ts rest → IsBare x
unfolding word_at word_of next_at
bare_from x ts rest e h = λ v.
    let k : ts ≡ token.Name (codes "vmap") ∷ rest = subst (λ (u : Value). ValueIs u ts rest) v h in
    let f : word_at (codes "vmap") ts ≡ Some rest = ap (word_at (codes "vmap")) k in
    absurd cc

value_no_vmap : (v : Value) (ts rest : Tokens) → ¬ (v ≡ Name (codes "vmap")) → ValueIs v ts rest → word_at (codes "vmap") ts ≡ None
unfolding word_at word_of next_at
value_no_vmap (Address a) ts rest n h = ap (word_at (codes "vmap")) h
value_no_vmap (Prefix a m) ts rest n h = ap (word_at (codes "vmap")) h.0
value_no_vmap (Addresses a b) ts rest n h = ap (word_at (codes "vmap")) h.0
value_no_vmap (Number m) ts rest n h = ap (word_at (codes "vmap")) h
value_no_vmap (Numbers m k) ts rest n h = ap (word_at (codes "vmap")) h.0
value_no_vmap (Quoted q) ts rest n h = ap (word_at (codes "vmap")) h
value_no_vmap (Name m) ts rest n h = ap (word_at (codes "vmap")) h ∙ other (bytes_eq m (codes "vmap")) refl
  where
    other : (b : Bool) → bytes_eq m (codes "vmap") ≡ b → cond b (Some rest) None ≡ None
    other true e = absurd (n (ap Name ((bytes_eq-Decides m (codes "vmap")).0 e)))
    other false e = refl

state_is : (head : Head) → is_state head ≡ true → head ≡ State
state_is State e = refl
state_is Iifname e = absurd cc
state_is Oifname e = absurd cc
state_is Saddr e = absurd cc
state_is Daddr e = absurd cc
state_is Protocol e = absurd cc
state_is (Sport t) e = absurd cc
state_is (Dport t) e = absurd cc

states_from : (head : Head) (ts : Tokens) → head ≡ State → word_at (codes "vmap") ts ≡ None → (xs : List Element) (rest : Tokens) → Entries ElementIs false xs ts rest → SideIs head (states_side xs) ts rest
states_from head ts s e [] rest h = absurd h
states_from head ts s e (x ∷ []) rest h =
    let k : ElementIs x ts rest = subst (λ (u : Tokens). ElementIs x ts u) h.2 h.1 in
    (bare_from x ts rest e k, k)
states_from head ts s e (x ∷ y ∷ xs) rest h = inr (s, (bare_from x ts (token.Symbol Comma ∷ h.0) e h.1, h))

plain_sound : (head : Head) (ts : Tokens) → Sound (Takes (SideIs head) ts) (plain_at (is_state head) ts)
unfolding plain_at states_at one_at
plain_sound head ts =
    if_else (word_sound (codes "vmap") ts) (λ _ _. nothing) (λ (e : word_at (codes "vmap") ts ≡ None).
    cond_sound
    (λ (s : is_state head ≡ true). then_sound (entries_sound ElementIs element_at element_entered false (suc (length ts)) ts) (λ (xs : List Element × Tokens) (h : Takes (Entries ElementIs false) ts xs).
    just {x = (states_side xs.0, xs.1)} (states_from head ts (state_is head s) e xs.0 xs.1 h.0, h.1)))
    (λ _. then_sound (element_sound ts) (λ (x : Element × Tokens) (h : Takes ElementIs ts x).
    just {x = (One x.0, x.1)} ((bare_from x.0 ts x.1 e h.0, h.0), h.1))))

side_sound : (head : Head) (ts : Tokens) → Sound (Takes (SideIs head) ts) (side_at (is_state head) ts)
unfolding side_at named_behind several_behind
side_sound head ts =
    if_sound (symbol_sound At ts) (λ (a : Tokens) (e : ts ≡ token.Symbol At ∷ a).
    then_sound (name_sound a) (λ (n : List ℕ × Tokens) (f : a ≡ token.Name n.0 ∷ n.1).
    just {x = (Named (record { line = tt; name = n.0 }), n.1)} (e ∙ ap (λ (u : Tokens). token.Symbol At ∷ u) f, omega (arith, ap length e, ap length f))))
    (if_sound (symbol_sound Open ts) (λ (a : Tokens) (e : ts ≡ token.Symbol Open ∷ a).
    then_sound (braced_sound ElementIs element_at element_entered a) (λ (xs : List Element × Tokens) (h : Within ElementIs a xs).
    just {x = (Several xs.0, xs.1)} (inl (a, e, h.0), omega (arith, ap length e, h.1))))
    (plain_sound head ts))

-- how a plain side is read
plain_read : (head : Head) (ts rest : Tokens) (x : Side) → begins_value ts ≡ true → word_at (codes "vmap") ts ≡ None → cond (is_state head) (states_at ts) (one_at ts) ≡ Some (x, rest) → side_at (is_state head) ts ≡ Some (x, rest)
unfolding side_at plain_at
plain_read head ts rest x v w e = rw (value_no_symbol At ts v, value_no_symbol Open ts v, w) e

one_read : (head : Head) (x : Element) (ts rest : Tokens) → ElementIs x ts rest → is_calm rest ≡ true → (b : Bool) → cond b (states_at ts) (one_at ts) ≡ Some (One x, rest)
unfolding states_at one_at
one_read head x ts rest h e true = rw (entries_complete ElementIs element_at element_entered false (x ∷ []) (suc (length ts)) ts rest (rest, h, refl) (calm_ended rest e) (calm_apart rest e) (omega arith)) refl
one_read head x ts rest h e false = rw (element_complete x ts rest h (calm_apart rest e)) refl

pub side_complete : (head : Head) (x : Side) (ts rest : Tokens) → SideIs head x ts rest → is_calm rest ≡ true → side_at (is_state head) ts ≡ Some (x, rest)
unfolding side_at named_behind several_behind name_at name_of next_at symbol_at symbol_of rank states_at
side_complete head (One x) ts rest h e = plain_read head ts rest (One x) (element_begins x ts rest h.1) (value_no_vmap x.value ts rest h.0 h.1) (one_read head x ts rest h.1 e (is_state head))
side_complete head (Several xs) ts rest (inl h) e = ap (side_at (is_state head)) h.1 ∙ rw (braced_complete ElementIs element_at element_entered xs h.0 rest h.2) refl
side_complete head (Several []) ts rest (inr h) e = absurd h.1
side_complete head (Several (x ∷ [])) ts rest (inr h) e = absurd h.1
side_complete head (Several (x ∷ y ∷ xs)) ts rest (inr h) e =
    let v = element_begins x ts (token.Symbol Comma ∷ h.1.1.0) h.1.1.1 in
    let r : states_at ts ≡ Some (Several (x ∷ y ∷ xs), rest) = rw (entries_complete ElementIs element_at element_entered false (x ∷ y ∷ xs) (suc (length ts)) ts rest h.1.1 (calm_ended rest e) (calm_apart rest e) (omega arith)) refl in
    plain_read head ts rest (Several (x ∷ y ∷ xs)) v (value_no_vmap x.value ts (token.Symbol Comma ∷ h.1.1.0) h.1.0 h.1.1.1) (rw h.0 r)
side_complete head (Named s) ts rest h e = ap (side_at (is_state head)) h

-- what a side begins with
pub record IsSide (ts : Tokens) : Type 0 where
  pub differs : symbol_at Differs ts ≡ None
  pub equals : symbol_at Equals ts ≡ None
  pub vmap : begins_word (codes "vmap") ts ≡ false

value_side : (v : Value) (ts rest : Tokens) → ¬ (v ≡ Name (codes "vmap")) → ValueIs v ts rest → begins_value ts ≡ true → IsSide ts
unfolding begins_word
value_side v ts rest n h b = record {
  differs = value_no_symbol Differs ts b;
  equals = value_no_symbol Equals ts b;
  vmap = rw (value_no_vmap v ts rest n h) refl;
}

symbol_side : (ts a : Tokens) → ts ≡ token.Symbol Open ∷ a → IsSide ts
unfolding symbol_at symbol_of next_at rank begins_word word_at word_of
symbol_side ts a e = subst (λ (u : Tokens). IsSide u) (sym e) (record { differs = refl; equals = refl; vmap = refl })

at_side : (ts a : Tokens) → ts ≡ token.Symbol At ∷ a → IsSide ts
unfolding symbol_at symbol_of next_at rank begins_word word_at word_of
at_side ts a e = subst (λ (u : Tokens). IsSide u) (sym e) (record { differs = refl; equals = refl; vmap = refl })

side_begins : (head : Head) (x : Side) (ts rest : Tokens) → SideIs head x ts rest → IsSide ts
side_begins head (One x) ts rest h = value_side x.value ts rest h.0 h.1 (element_begins x ts rest h.1)
side_begins head (Several xs) ts rest (inl h) = symbol_side ts h.0 h.1
side_begins head (Several []) ts rest (inr h) = absurd h.1
side_begins head (Several (x ∷ [])) ts rest (inr h) = absurd h.1
side_begins head (Several (x ∷ y ∷ xs)) ts rest (inr h) = value_side x.value ts (token.Symbol Comma ∷ h.1.1.0) h.1.0 h.1.1.1 (element_begins x ts (token.Symbol Comma ∷ h.1.1.0) h.1.1.1)
side_begins head (Named s) ts rest h = at_side ts (token.Name s.name ∷ rest) h

-- ---- matches

pub match_sound : (ts : Tokens) → Sound (Takes MatchIs ts) (match_at ts)
unfolding match_at
match_sound ts =
    then_sound (head_sound ts) (λ (h : Head × Tokens) (k : Takes HeadIs ts h).
    then_sound (side_sound h.0 (operator_at h.1).1) (λ (x : Side × Tokens) (l : Takes (SideIs h.0) (operator_at h.1).1 x).
    just {x = (record { line = tt; head = h.0; negated = (operator_at h.1).0; side = x.0 }, x.1)}
    ((h.1, (operator_at h.1).1, k.0, operator_sound h.1, l.0), omega (arith, k.1, l.1, operator_shrinks (operator_at h.1).0 h.1 (operator_at h.1).1 (operator_sound h.1)))))

pub match_complete : (m : Match) (ts rest : Tokens) → MatchIs m ts rest → is_calm rest ≡ true → match_at ts ≡ Some (m, rest)
unfolding match_at
match_complete m ts rest h e =
    let s = side_begins m.head m.side h.1 rest h.4 in
    rw ((head_complete m.head ts h.0 h.2).read, operator_complete m.negated h.0 h.1 h.3 s.differs s.equals, side_complete m.head m.side h.1 rest h.4 e) refl

-- a match isn't a verdict map
no_vmap_behind : (b : Bool) (ts rest : Tokens) → OperatorIs b ts rest → IsSide rest → begins_word (codes "vmap") ts ≡ false
unfolding begins_word word_at word_of next_at
no_vmap_behind true ts rest h s = ap (begins_word (codes "vmap")) h
no_vmap_behind false ts rest (inl h) s = ap (begins_word (codes "vmap")) h ∙ s.vmap
no_vmap_behind false ts rest (inr h) s = ap (begins_word (codes "vmap")) h

pub match_no_vmap : (m : Match) (ts rest : Tokens) → MatchIs m ts rest → begins_vmap ts ≡ false
unfolding begins_vmap
match_no_vmap m ts rest h = rw (head_complete m.head ts h.0 h.2).read (no_vmap_behind m.negated h.0 h.1 h.3 (side_begins m.head m.side h.1 rest h.4))
