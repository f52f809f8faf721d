-- Lists whose items stand apart, and blocks: reading and spelling are one.
use Rattle.std.proofs.Common.{◌≡◌, ℕ, zero, suc, ◌≤◌, ◌<◌, Bool, true, false, List, [], ◌∷◌, ◌++◌, length, Some, refl, sym, ap, subst, ◌∙◌, length-append, arith}
use Rattle.std.specs.Prelude.{◌||◌}
use Rattle.std.specs.List.{AllByRecursion}
use Rattle.ruletokens.specs.declared.token.Token.TheVariants.{Name, Symbol, NewLine}
use Rattle.ruletokens.specs.declared.token.Symbol.TheVariants.{Open, Close, Semicolon}
use Rattle.rulesyntax.specs.Grammar.{Tokens, Spelling, is_sep, begins_sep, Fill, Apart, Listed}
use Rattle.rulesyntax.specs.Reading.{next_at, rank, symbol_of, symbol_at, close_at, ends, closes, fill_at, Step, list_from, block_at}
use Rattle.rulesyntax.proofs.Sound.{Sound, just, nothing, weaker, then_sound, cond_sound, symbol_sound, close_sound}
use Rattle.rulesyntax.proofs.Heads.{begins_name}

-- ---- separators

fill_sound : (ts : Tokens) → Fill ts (fill_at ts)
unfolding fill_at
fill_sound [] = ([], tt, refl)
fill_sound (NewLine ∷ ts) = let h = fill_sound ts in (NewLine ∷ h.0, (refl, h.1), ap (λ (u : Tokens). NewLine ∷ u) h.2)
fill_sound (Symbol Semicolon ∷ ts) = let h = fill_sound ts in (Symbol Semicolon ∷ h.0, (refl, h.1), ap (λ (u : Tokens). Symbol Semicolon ∷ u) h.2)
fill_sound (t ∷ ts) = ([], tt, refl)

fill_gap : (gap rest : Tokens) → AllByRecursion (λ t. is_sep t ≡ true) gap → fill_at (gap ++ rest) ≡ fill_at rest
unfolding fill_at
fill_gap [] rest h = refl
fill_gap (NewLine ∷ gap) rest h = fill_gap gap rest h.1
fill_gap (Symbol Semicolon ∷ gap) rest h = fill_gap gap rest h.1
fill_gap (t ∷ gap) rest h = absurd (let e = h.0 in cc)

fill_skipped : (ts rest : Tokens) → Fill ts rest → fill_at ts ≡ fill_at rest
fill_skipped ts rest h = ap fill_at h.2 ∙ fill_gap h.0 rest h.1

fill_length : (ts rest : Tokens) → Fill ts rest → length rest ≤ length ts
fill_length ts rest h = let e : length ts ≡ length (h.0 ++ rest) = ap length h.2 in omega (arith, e, length-append h.0 rest)

name_stays : (ts : Tokens) → begins_name ts ≡ true → (fill_at ts ≡ ts) × (ends ts ≡ false)
unfolding fill_at
name_stays [] e = absurd cc
name_stays (Name n ∷ ts) e = (refl, refl)
name_stays (t ∷ ts) e = absurd cc

end_stays : (ts : Tokens) → ends ts ≡ true → (fill_at ts ≡ ts) × (closes ts ≡ true)
unfolding fill_at
end_stays [] e = (refl, refl)
end_stays (Symbol Close ∷ ts) e = (refl, refl)
end_stays (t ∷ ts) e = absurd cc

gap_closes : (gap rest : Tokens) → AllByRecursion (λ t. is_sep t ≡ true) gap → closes rest ≡ true → closes (gap ++ rest) ≡ true
gap_closes [] rest h e = e
gap_closes (NewLine ∷ gap) rest h e = refl
gap_closes (Symbol Semicolon ∷ gap) rest h e = refl
gap_closes (t ∷ gap) rest h e = absurd (let f = h.0 in cc)

sep_closes : (ts : Tokens) → begins_sep ts ≡ true → closes ts ≡ true
sep_closes [] e = absurd cc
sep_closes (NewLine ∷ ts) e = refl
sep_closes (Symbol Semicolon ∷ ts) e = refl
sep_closes (t ∷ ts) e = absurd cc

closes_sep : (ts : Tokens) → closes ts ≡ true → ends (fill_at ts) ≡ false → begins_sep ts ≡ true
unfolding fill_at
closes_sep [] e h = absurd cc
closes_sep (Symbol Close ∷ ts) e h = absurd cc
closes_sep (NewLine ∷ ts) e h = refl
closes_sep (Symbol Semicolon ∷ ts) e h = refl
closes_sep (t ∷ ts) e h = absurd cc

or_true : (b : Bool) → (b || true) ≡ true
or_true true = refl
or_true false = refl

or_more : (b c d : Bool) → (c ≡ true → d ≡ true) → (b || c) ≡ true → (b || d) ≡ true
or_more true c d h e = refl
or_more false c d h e = h e

-- ---- lists

-- how a body takes the next item
pub record Taken {A B : Type 0} (Item : Spelling A) (braced : A → Bool) (allowed : B → A → Bool) (with : B → A → B) (b : B) (ts : Tokens) (p : (B × Bool) × Tokens) : Type 0 where
  pub item : A
  pub spelled : Item item ts p.1
  pub ends : p.0.1 ≡ braced item
  pub fits : allowed b item ≡ true
  pub body : p.0.0 ≡ with b item
  pub shrinks : length p.1 < length ts

pub record Stepped {A B : Type 0} (Item : Spelling A) (braced : A → Bool) (allowed : B → A → Bool) (with : B → A → B) (steps : Step B) : Type 0 where
  pub sound : (b : B) (ts : Tokens) → Sound (Taken Item braced allowed with b ts) (steps b ts)
  pub complete : (b : B) (x : A) (ts rest : Tokens) → Item x ts rest → allowed b x ≡ true → (braced x || closes rest) ≡ true → steps b ts ≡ Some ((with b x, braced x), rest)
  pub opens : (x : A) (ts rest : Tokens) → Item x ts rest → begins_name ts ≡ true

-- the body that takes these items one by one
abbrev pub Folds : {A B : Type 0} → (B → A → Bool) → (B → A → B) → B → List A → B → Type 0
Folds allowed with b [] last = last ≡ b
Folds allowed with b (x ∷ xs) last = (allowed b x ≡ true) × Folds allowed with (with b x) xs last

abbrev pub Opened : {A : Type 0} → List A → Tokens → Type 0
Opened [] ts = Unit {0}
Opened (x ∷ xs) ts = ends (fill_at ts) ≡ false

-- the items that a list is spelled by
pub record IsList {A B : Type 0} (Item : Spelling A) (braced : A → Bool) (allowed : B → A → Bool) (with : B → A → B) (b : B) (ts : Tokens) (p : B × Tokens) : Type 0 where
  pub items : List A
  pub listed : Listed Item braced items ts p.1
  pub folds : Folds allowed with b items p.0
  pub ended : ends p.1 ≡ true
  pub opened : Opened items ts
  pub shrinks : length p.1 ≤ length ts

module _ {A B : Type 0} (Item : Spelling A) (braced : A → Bool) (allowed : B → A → Bool) (with : B → A → B) (steps : Step B) (stepped : Stepped Item braced allowed with steps) where
  tail_apart : (x : A) (xs : List A) (behind : Tokens) → (braced x || closes behind) ≡ true → Opened xs behind → Apart Item braced x xs behind
  tail_apart x [] behind e h = tt
  tail_apart x (y ∷ ys) behind e h = or_more (braced x) (closes behind) (begins_sep behind) (λ c. closes_sep behind c h) e

  follow : (x : A) (xs : List A) (behind rest : Tokens) → Apart Item braced x xs behind → Listed Item braced xs behind rest → ends rest ≡ true → (braced x || closes behind) ≡ true
  follow x [] behind rest a h e = ap (λ b. braced x || b) (ap closes h.2 ∙ gap_closes h.0 rest h.1 (end_stays rest e).1) ∙ or_true (braced x)
  follow x (y ∷ ys) behind rest a h e = or_more (braced x) (begins_sep behind) (closes behind) (sep_closes behind) a

  cons_list : (b : B) (ts : Tokens) (x : (B × Bool) × Tokens) (p : B × Tokens) → ends (fill_at ts) ≡ false → Taken Item braced allowed with b (fill_at ts) x → (x.0.1 || closes x.1) ≡ true → IsList Item braced allowed with x.0.0 x.1 p → IsList Item braced allowed with b ts p
  cons_list b ts x p e h c k =
      let apart = tail_apart h.item k.items x.1 (ap (λ (v : Bool). v || closes x.1) (sym h.ends) ∙ c) k.opened in
      record {
        items = h.item ∷ k.items;
        listed = (fill_at ts, x.1, fill_sound ts, h.spelled, apart, k.listed);
        folds = (h.fits, subst (λ (v : B). Folds allowed with v k.items p.0) h.body k.folds);
        ended = k.ended;
        opened = e;
        shrinks = omega (arith, k.shrinks, h.shrinks, fill_length ts (fill_at ts) (fill_sound ts));
      }

  pub list_sound : (n : ℕ) (b : B) (ts : Tokens) → Sound (IsList Item braced allowed with b ts) (list_from steps n b ts)
  unfolding list_from
  list_sound zero b ts = nothing
  list_sound (suc n) b ts =
      cond_sound
      (λ (e : ends (fill_at ts) ≡ true). just {x = (b, fill_at ts)} (record { items = []; listed = fill_sound ts; folds = refl; ended = e; opened = tt; shrinks = fill_length ts (fill_at ts) (fill_sound ts) }))
      (λ (e : ends (fill_at ts) ≡ false). then_sound (stepped.sound b (fill_at ts)) (λ (x : (B × Bool) × Tokens) (h : Taken Item braced allowed with b (fill_at ts) x).
      cond_sound
      (λ (c : (x.0.1 || closes x.1) ≡ true). weaker (list_sound n x.0.0 x.1) (λ (p : B × Tokens) (k : IsList Item braced allowed with x.0.0 x.1 p). cons_list b ts x p e h c k))
      (λ _. nothing)))

  pub list_complete : (xs : List A) (n : ℕ) (b last : B) (ts rest : Tokens) → Listed Item braced xs ts rest → Folds allowed with b xs last → ends rest ≡ true → length ts < n → list_from steps n b ts ≡ Some (last, rest)
  unfolding list_from
  list_complete [] zero b last ts rest h f e lt = absurd (omega arith)
  list_complete (x ∷ xs) zero b last ts rest h f e lt = absurd (omega arith)
  list_complete [] (suc n) b last ts rest h f e lt =
      let s : fill_at ts ≡ rest = fill_skipped ts rest h ∙ (end_stays rest e).0 in
      rw (s, e) (ap (λ (v : B). Some (v, rest)) (sym f))
  list_complete (x ∷ xs) (suc n) b last ts rest h f e lt =
      let stays = name_stays h.0 (stepped.opens x h.0 h.1 h.3) in
      let s : fill_at ts ≡ h.0 = fill_skipped ts h.0 h.2 ∙ stays.0 in
      let follows = follow x xs h.1 rest h.4 h.5 e in
      let c = stepped.complete b x h.0 h.1 h.3 f.0 follows in
      let shorter : length h.1 < n = omega (arith, ((stepped.sound b h.0).so ((with b x, braced x), h.1) c).shrinks, fill_length ts h.0 h.2) in
      rw (s, stays.1, c, follows, list_complete xs n (with b x) last h.1 rest h.5 f.1 e shorter) refl

  -- ---- between braces

  pub block_sound : (b : B) (ts : Tokens) → Sound (λ (p : B × Tokens). (a : Tokens) × (items : List A) × (ts ≡ Symbol Open ∷ a) × Listed Item braced items a (Symbol Close ∷ p.1) × Folds allowed with b items p.0 × (length p.1 < length ts)) (block_at steps b ts)
  unfolding block_at
  block_sound b ts =
      then_sound (symbol_sound Open ts) (λ (a : Tokens) (e : ts ≡ Symbol Open ∷ a).
      then_sound (list_sound (suc (length a)) b a) (λ (x : B × Tokens) (h : IsList Item braced allowed with b a x).
      then_sound (close_sound x.1) (λ (rest : Tokens) (f : x.1 ≡ Symbol Close ∷ rest).
      just {x = (x.0, rest)} (a, h.items, e, subst (λ (u : Tokens). Listed Item braced h.items a u) f h.listed, h.folds, omega (arith, ap length e, ap length f, h.shrinks)))))

  pub block_complete : (b last : B) (items : List A) (a rest : Tokens) → Listed Item braced items a (Symbol Close ∷ rest) → Folds allowed with b items last → block_at steps b (Symbol Open ∷ a) ≡ Some (last, rest)
  unfolding block_at symbol_at symbol_of next_at rank close_at
  block_complete b last items a rest h f = rw (list_complete items (suc (length a)) b last a (Symbol Close ∷ rest) h f refl (omega arith)) refl
