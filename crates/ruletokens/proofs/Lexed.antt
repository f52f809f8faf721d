-- Each text has tokens.
use Rattle.std.proofs.Common.{◌≡◌, ℕ, zero, suc, ◌≤◌, Bool, true, false, List, [], ◌∷◌, ◌++◌, length, refl, ap, ◌∙◌, arith}
use Rattle.std.specs.Prelude.{◌==◌}
use Rattle.std.specs.List.{list_all}
use Rattle.std.proofs.lemmas.Bool.{eqb-true}
use Rattle.ruletokens.specs.declared.token.Token.{Token}
use Rattle.ruletokens.specs.declared.token.Token.TheVariants.{Name, Symbol, Wrong}
use Rattle.ruletokens.specs.declared.token.Symbol.TheVariants.{Equal, Equals, Differs}
use Rattle.ruletokens.specs.declared.lex.Shape.{Shape}
use Rattle.ruletokens.specs.declared.lex.Shape.TheVariants as shape
use Rattle.ruletokens.specs.Tokens.{Text, Kind, token, blank, shape_of, single, numeral, kind_by, is_word, is_numeral, is_line, is_inner, begins_with, Begins, with_kind, AreTokens}
use Rattle.ruletokens.proofs.Pieces.{run_begins, both_begin, one_begins, quote_closes, quote_stays, single_begins}
use Rattle.ruletokens.proofs.Cut.{joined, begins_shorter}

-- the bytes at the front that pass, and those behind
record Run (test : ℕ → Bool) (bytes : Text) : Type 0 where
  front : Text
  rest : Text
  parts : bytes ≡ front ++ rest
  all : list_all test front ≡ true
  stops : begins_with test rest ≡ false

run : (test : ℕ → Bool) (bytes : Text) → Run test bytes
run test [] = record { front = []; rest = []; parts = refl; all = refl; stops = refl }
run test (b ∷ bs) = by (test b) refl (run test bs)
  where
    by : (x : Bool) → test b ≡ x → Run test bs → Run test (b ∷ bs)
    by true e h = record { front = b ∷ h.front; rest = h.rest; parts = ap (λ (u : Text). b ∷ u) h.parts; all = rw (e, h.all) refl; stops = h.stops }
    by false e h = record { front = []; rest = b ∷ bs; parts = refl; all = refl; stops = e }

-- something begins the text
record Begun (text : Text) : Type 0 where
  front : Text
  kind : Kind
  rest : Text
  begins : Begins text front kind rest

-- one byte, or two of which this is the second
module _ (s : Shape) (one : Kind) (second : ℕ) (both : Kind) (same : (second == second) ≡ true) (on_both : (b : ℕ) (rest : Text) → shape_of b ≡ s → Begins (b ∷ second ∷ rest) (b ∷ second ∷ []) both rest)
    (on_one : (b : ℕ) (rest : Text) → shape_of b ≡ s → begins_with (λ c. c == second) rest ≡ false → Begins (b ∷ rest) (b ∷ []) one rest) where
  two_begun : (b : ℕ) (bs : Text) → shape_of b ≡ s → Begun (b ∷ bs)
  two_begun b [] is = record { front = b ∷ []; kind = one; rest = []; begins = on_one b [] is refl }
  two_begun b (c ∷ bs) is = by (c == second) refl
    where
      by : (x : Bool) → (c == second) ≡ x → Begun (b ∷ c ∷ bs)
      by true e = rw (eqb-true c second e) (record { front = b ∷ second ∷ []; kind = both; rest = bs; begins = on_both b bs is })
      by false e = record { front = b ∷ []; kind = one; rest = c ∷ bs; begins = on_one b (c ∷ bs) is e }

quote_begun : (b : ℕ) (bs : Text) → shape_of b ≡ shape.Quote → Begun (b ∷ bs)
quote_begun b bs is = by r.rest r.parts r.stops
  where
    r : Run is_inner bs
    r = run is_inner bs

    by : (rest : Text) → bs ≡ r.front ++ rest → begins_with is_inner rest ≡ false → Begun (b ∷ bs)
    by [] e stops = record { front = b ∷ r.front; kind = token Wrong; rest = []; begins = quote_stays (b ∷ bs) b r.front [] (ap (λ (u : Text). b ∷ u) e) is r.all stops refl }
    by (c ∷ rest) e stops = closed (c == 34) refl
      where
        closed : (x : Bool) → (c == 34) ≡ x → Begun (b ∷ bs)
        closed true f = record { front = b ∷ r.front ++ 34 ∷ []; kind = _; rest = rest; begins = quote_closes (b ∷ bs) b r.front rest (ap (λ (u : Text). b ∷ u) (e ∙ ap (λ (d : ℕ). r.front ++ d ∷ rest) (eqb-true c 34 f))) is r.all }
        closed false f = record { front = b ∷ r.front; kind = token Wrong; rest = c ∷ rest; begins = quote_stays (b ∷ bs) b r.front (c ∷ rest) (ap (λ (u : Text). b ∷ u) e) is r.all stops f }

begun : (b : ℕ) (bs : Text) → Begun (b ∷ bs)
unfolding kind_by
begun b bs = by (shape_of b) refl
  where
    by : (s : Shape) → shape_of b ≡ s → Begun (b ∷ bs)
    by shape.Word is =
        let r = run is_word bs in
        record { front = b ∷ r.front; kind = token (Name (b ∷ r.front)); rest = r.rest; begins = run_begins shape.Word is_word (λ b bs. token (Name (b ∷ bs))) (λ b bs. refl) (b ∷ bs) b r.front r.rest (ap (λ (u : Text). b ∷ u) r.parts) is r.all r.stops }
    by shape.Numeral is =
        let r = run is_numeral bs in
        record { front = b ∷ r.front; kind = token (numeral (b ∷ r.front)); rest = r.rest; begins = run_begins shape.Numeral is_numeral (λ b bs. token (numeral (b ∷ bs))) (λ b bs. refl) (b ∷ bs) b r.front r.rest (ap (λ (u : Text). b ∷ u) r.parts) is r.all r.stops }
    by shape.Comment is =
        let r = run is_line bs in
        record { front = b ∷ r.front; kind = blank; rest = r.rest; begins = run_begins shape.Comment is_line (λ b bs. blank) (λ b bs. refl) (b ∷ bs) b r.front r.rest (ap (λ (u : Text). b ∷ u) r.parts) is r.all r.stops }
    by shape.Quote is = quote_begun b bs is
    by shape.Escape is = two_begun shape.Escape (token Wrong) 10 blank refl (λ b rest is. both_begin shape.Escape (token Wrong) 10 blank (λ b bs. refl) (b ∷ 10 ∷ rest) b rest refl is refl) (λ b rest is no. one_begins shape.Escape (token Wrong) 10 blank (λ b bs. refl) (b ∷ rest) b rest refl is no) b bs is
    by shape.Equal is = two_begun shape.Equal (token (Symbol Equal)) 61 (token (Symbol Equals)) refl (λ b rest is. both_begin shape.Equal (token (Symbol Equal)) 61 (token (Symbol Equals)) (λ b bs. refl) (b ∷ 61 ∷ rest) b rest refl is refl) (λ b rest is no. one_begins shape.Equal (token (Symbol Equal)) 61 (token (Symbol Equals)) (λ b bs. refl) (b ∷ rest) b rest refl is no) b bs is
    by shape.Bang is = two_begun shape.Bang (token Wrong) 61 (token (Symbol Differs)) refl (λ b rest is. both_begin shape.Bang (token Wrong) 61 (token (Symbol Differs)) (λ b bs. refl) (b ∷ 61 ∷ rest) b rest refl is refl) (λ b rest is no. one_begins shape.Bang (token Wrong) 61 (token (Symbol Differs)) (λ b bs. refl) (b ∷ rest) b rest refl is no) b bs is
    by shape.Single is = record { front = b ∷ []; kind = single b; rest = bs; begins = single_begins (b ∷ bs) b (single b) bs refl is refl }

has_within : (n : ℕ) (text : Text) → length text ≤ n → (ts : List Token) × AreTokens ts text
has_within n [] le = ([], ([], refl, refl))
has_within zero (b ∷ bs) le = absurd (omega arith)
has_within (suc n) (b ∷ bs) le =
    let h = begun b bs in
    let more = has_within n h.rest (omega (arith, le, begins_shorter (b ∷ bs) h.front h.kind h.rest h.begins)) in
    (with_kind h.kind more.0, joined (b ∷ bs) h.front h.kind h.rest more.0 h.begins more.1)

pub has_tokens : (text : Text) → (ts : List Token) × AreTokens ts text
has_tokens text = has_within (length text) text (omega arith)
