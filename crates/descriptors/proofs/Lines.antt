-- Lines that are looked at one after the other.
use Rattle.std.proofs.Common.{◌≡◌, ◌≢◌, ◌==◌, ◌⊎◌, ℕ, suc, zero, ◌+◌, ◌-◌, ◌<◌, ◌≤◌, true, false, List, [], ◌∷◌, ◌++◌, length, take, drop, get_or, None, Some, refl, sym, ap, subst, ◌∙◌, arith, append_assoc, inl, inr, ⊎_elim, length-take, length-drop}
use Rattle.std.specs.Prelude.{slice_index}
use Rattle.std.specs.List.{position, position_or_len}
use Rattle.std.proofs.lemmas.Bool.{eqb-true, eqb-false}
use Rattle.std.proofs.lemmas.Grind.{common_steps}
use Rattle.std.proofs.lemmas.List.{take-append-drop, get_or-take}
use Rattle.std.proofs.Math.Seq.{take-length, take-append_seam}
use Rattle.std.proofs.lemmas.List.Quantifiers.{position-Some}
use Rattle.std.proofs.lemmas.List.Sums.{fails_before_first}
use Rattle.descriptors.specs.Telling.{EndsLine, HasLine, LacksEnd}

-- the lines before were looked at
pub record Behind (text rest : List ℕ) : Type 0 where
  pub before : List ℕ
  pub text_is : text ≡ before ++ rest
  pub begins : EndsLine before

pub nothing_behind : (text : List ℕ) → Behind text text
nothing_behind text = record { before = []; text_is = refl; begins = inl refl }

drop_one : (n : ℕ) (xs : List ℕ) → n < length xs → drop n xs ≡ slice_index xs n ∷ drop 1 (drop n xs)
drop_one n [] l = absurd (omega arith)
drop_one zero (x ∷ xs) l = refl
drop_one (suc n) (x ∷ xs) l = drop_one n xs (omega arith)

-- the line at the front
pub record Line (rest : List ℕ) (n : ℕ) : Type 0 where
  pub within : n < length rest
  pub rest_is : rest ≡ take n rest ++ 10 ∷ drop 1 (drop n rest)
  pub one : LacksEnd (take n rest)

pub line_at : (rest : List ℕ) (n : ℕ) → position (λ byte. byte == 10) rest ≡ Some n → Line rest n
line_at rest n e =
    let found = position-Some (λ byte. byte == 10) rest n 0 e in
    let end : slice_index rest n ≡ 10 = eqb-true _ _ found.1 in
    record {
      within = found.0;
      rest_is = sym (take-append-drop n rest) ∙ ap (λ (x : List ℕ). take n rest ++ x) (drop_one n rest found.0 ∙ ap (λ (b : ℕ). b ∷ drop 1 (drop n rest)) end);
      one = λ k l e. eqb-false _ _ (found.2 k (omega (arith, l, length-take n rest))) (sym (get_or-take n rest k 0 (omega (arith, l, length-take n rest))) ∙ e);
    }

pub next_line : (text rest : List ℕ) (n : ℕ) → Behind text rest → Line rest n → Behind text (drop 1 (drop n rest))
next_line text rest n b l =
    record {
      before = b.before ++ (take n rest ++ 10 ∷ []);
      text_is = b.text_is ∙ ap (λ (x : List ℕ). b.before ++ x) (l.rest_is ∙ sym (append_assoc (take n rest) (10 ∷ []) (drop 1 (drop n rest)))) ∙ sym (append_assoc b.before (take n rest ++ 10 ∷ []) (drop 1 (drop n rest)));
      begins = inr (b.before ++ take n rest, sym (append_assoc b.before (take n rest) (10 ∷ [])));
    }

pub this_line : (text rest line : List ℕ) (n : ℕ) → Behind text rest → Line rest n → take n rest ≡ line → HasLine text line
this_line text rest line n b l is =
    rw (← is) (record {
      before = b.before;
      after = drop 1 (drop n rest);
      text_is = b.text_is ∙ ap (λ (x : List ℕ). b.before ++ x) l.rest_is;
      begins = b.begins;
      one = l.one;
    })

-- all that is behind a place
pub rest_whole : (at : ℕ) (xs : List ℕ) → take (length xs - at) (drop at xs) ≡ drop at xs
rest_whole at xs = rw (← length-drop at xs) (take-length (drop at xs))

-- the lines with this key that the text has are all in the rest
abbrev pub Ahead : List ℕ → List ℕ → List ℕ → Type 0
Ahead text rest key = (value : List ℕ) → HasLine text (key ++ value) → HasLine rest (key ++ value)

no_end : (xs ys : List ℕ) → LacksEnd (xs ++ 10 ∷ ys) → ⊥
no_end [] ys l = l 0 (omega arith) refl
no_end (x ∷ xs) ys l = no_end xs ys (λ k s. l (suc k) (omega (arith, s)))

-- one list is cut at its first end of a line, and the same one at any
cut_alike : (front more xs ys : List ℕ) → LacksEnd front → front ++ 10 ∷ xs ≡ more ++ 10 ∷ ys → ((more ≡ front) × (xs ≡ ys)) ⊎ ((m : List ℕ) × (more ≡ front ++ 10 ∷ m) × (xs ≡ m ++ 10 ∷ ys))
cut_alike [] [] xs ys l e = inl (refl, ap (drop 1) e)
cut_alike [] (y ∷ more) xs ys l e = inr (more, ap (λ (h : ℕ). h ∷ more) (sym (ap (λ (zs : List ℕ). get_or zs 0 0) e)), ap (drop 1) e)
cut_alike (x ∷ front) [] xs ys l e = absurd (l 0 (omega arith) (ap (λ (zs : List ℕ). get_or zs 0 0) e))
cut_alike (x ∷ front) (y ∷ more) xs ys l e =
    let same : y ≡ x = sym (ap (λ (zs : List ℕ). get_or zs 0 0) e) in
    ⊎_elim
    (λ h. inl (ap (λ (z : ℕ). z ∷ more) same ∙ ap (λ (zs : List ℕ). x ∷ zs) h.0, h.1))
    (λ h. inr (h.0, ap (λ (z : ℕ). z ∷ more) same ∙ ap (λ (zs : List ℕ). x ∷ zs) h.1, h.2))
    (cut_alike front more xs ys (λ k s. l (suc k) (omega (arith, s))) (ap (drop 1) e))

-- a line is the one at the front, or stands behind it
passed : (rest line : List ℕ) (n : ℕ) → Line rest n → HasLine rest line → (take n rest ≡ line) ⊎ HasLine (drop 1 (drop n rest)) line
passed rest line n l h =
    let front = take n rest in
    let behind = drop 1 (drop n rest) in
    ⊎_elim
    (λ none.
    let e : line ++ 10 ∷ h.after ≡ front ++ 10 ∷ behind = ap (λ (b : List ℕ). b ++ (line ++ 10 ∷ h.after)) (sym none) ∙ sym h.text_is ∙ l.rest_is in
    ⊎_elim
    (λ c. inl c.0)
    (λ c. absurd (no_end line c.0 (subst LacksEnd c.1 l.one)))
    (cut_alike line front h.after behind h.one e))
    (λ m.
    let e : front ++ 10 ∷ behind ≡ m.0 ++ 10 ∷ (line ++ 10 ∷ h.after) = sym l.rest_is ∙ h.text_is ∙ ap (λ (b : List ℕ). b ++ (line ++ 10 ∷ h.after)) m.1 ∙ append_assoc m.0 (10 ∷ []) (line ++ 10 ∷ h.after) in
    ⊎_elim
    (λ c. inr (record { before = []; after = h.after; text_is = c.1; begins = inl refl; one = h.one }))
    (λ c. inr (record {
      before = c.0 ++ 10 ∷ [];
      after = h.after;
      text_is = c.2 ∙ sym (append_assoc c.0 (10 ∷ []) (line ++ 10 ∷ h.after));
      begins = inr (c.0, refl);
      one = h.one;
    }))
    (cut_alike front m.0 behind (line ++ 10 ∷ h.after) l.one e))
    h.begins

-- the line at the front hasn't this key
pub next_ahead : (text rest key : List ℕ) (n : ℕ) → Ahead text rest key → Line rest n → take (length key) (take n rest) ≢ key → Ahead text (drop 1 (drop n rest)) key
next_ahead text rest key n a l other value h =
    ⊎_elim
    (λ is. absurd (other (ap (take (length key)) is ∙ take-append_seam key value)))
    (λ later. later)
    (passed rest (key ++ value) n l (a value h))

-- behind the last end of a line there is no line
pub none_left : (text rest key : List ℕ) → Ahead text rest key → position (λ byte. byte == 10) rest ≡ None → (value : List ℕ) → ¬ HasLine text (key ++ value)
none_left text rest key a e value h =
    let line = key ++ value in
    let there = a value h in
    let all : length rest ≤ position_or_len (λ byte. byte == 10) rest = grind (arith, common_steps) in
    let lacks : LacksEnd rest = λ k s is. eqb-false _ _ (fails_before_first (λ byte. byte == 10) rest k 0 (omega (arith, all, s))) is in
    no_end (there.before ++ line) there.after (subst LacksEnd (there.text_is ∙ sym (append_assoc there.before line (10 ∷ there.after))) lacks)
