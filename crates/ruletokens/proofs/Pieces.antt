-- What begins a text.
use Rattle.std.proofs.Common.{◌≡◌, ℕ, suc, ◌+◌, ◌-◌, ◌*◌, ◌≤◌, Bool, true, false, cond, List, [], ◌∷◌, ◌++◌, length, Option, Some, None, refl, sym, ap, ◌∙◌, arith, append_assoc}
use Rattle.std.specs.Prelude.{◌&&◌, not, ◌==◌, nat_le, IsSome, map}
use Rattle.std.specs.List.{list_all}
use Rattle.std.specs.Char.{is_ascii_digit}
use Rattle.std.proofs.Math.Bool.{and-false}
use Rattle.std.proofs.lemmas.Bool.{leb-true, le-leb}
use Rattle.std.proofs.Math.Dec.{eqb-suc-zero}
use Rattle.std.proofs.lemmas.List.{append-nil}
use Rattle.ruletokens.specs.declared.token.Token.TheVariants.{Quoted, Wrong}
use Rattle.ruletokens.specs.declared.lex.Shape.{Shape}
use Rattle.ruletokens.specs.declared.lex.Shape.TheVariants as shape
use Rattle.ruletokens.specs.Tokens.{Text, Kind, token, shape_of, single, two, before_quote, kind_by, kind_of, IsLongest, Begins, begins_with, is_inner, is_part, is_plain, decimal_from, decimal, with_byte, parts_of, digits_from, octets, Stops, GoesOn}

none_has : (o : Option Kind) → o ≡ None → IsSome o → ⊥
none_has (Some x) e h = absurd cc
none_has None e h = absurd cc

not_all : (test : ℕ → Bool) (bs : Text) (c : ℕ) (more : Text) → test c ≡ false → list_all test (bs ++ c ∷ more) ≡ false
not_all test [] c more e = rw e refl
not_all test (b ∷ bs) c more e = ap (λ (x : Bool). test b && x) (not_all test bs c more e) ∙ and-false (test b)

kind_is : (b : ℕ) (bs : Text) (s : Shape) → shape_of b ≡ s → kind_of (b ∷ bs) ≡ kind_by s b bs
kind_is b bs s e = ap (λ (x : Shape). kind_by x b bs) e

-- ---- runs

module _ (s : Shape) (test : ℕ → Bool) (k : ℕ → Text → Kind) (by_test : (b : ℕ) (bs : Text) → kind_by s b bs ≡ cond (list_all test bs) (Some (k b bs)) None) where
  pub run_begins : (text : Text) (b : ℕ) (bs rest : Text) → text ≡ b ∷ bs ++ rest → shape_of b ≡ s → list_all test bs ≡ true → begins_with test rest ≡ false → Begins text (b ∷ bs) (k b bs) rest
  run_begins text b bs rest e is all stops = record {
    parts = e;
    is = kind_is b bs s is ∙ by_test b bs ∙ rw all refl;
    longest = long rest stops;
  }
    where
      long : (rest : Text) → begins_with test rest ≡ false → IsLongest (b ∷ bs) rest
      long rest e [] behind p h = refl
      long [] e (c ∷ more) behind p h = absurd cc
      long (d ∷ rest) e (c ∷ more) behind p h =
          let d-is : d ≡ c = cc in
          let none : kind_of (b ∷ bs ++ c ∷ more) ≡ None = kind_is b (bs ++ c ∷ more) s is ∙ by_test b (bs ++ c ∷ more) ∙ rw (not_all test bs c more (ap test (sym d-is) ∙ e)) refl in
          absurd (none_has (kind_of (b ∷ bs ++ c ∷ more)) none h)

-- ---- one byte or two

module _ (s : Shape) (one : Kind) (second : ℕ) (both : Kind) (by_two : (b : ℕ) (bs : Text) → kind_by s b bs ≡ two one second both bs) where
  pub both_begin : (text : Text) (b : ℕ) (rest : Text) → text ≡ b ∷ second ∷ rest → shape_of b ≡ s → (second == second) ≡ true → Begins text (b ∷ second ∷ []) both rest
  both_begin text b rest e is same = record {
    parts = e;
    is = kind_is b (second ∷ []) s is ∙ by_two b (second ∷ []) ∙ rw same refl;
    longest = long;
  }
    where
      long : IsLongest (b ∷ second ∷ []) rest
      long [] behind p h = refl
      long (c ∷ more) behind p h = absurd (none_has (kind_of (b ∷ second ∷ c ∷ more)) (kind_is b (second ∷ c ∷ more) s is ∙ by_two b (second ∷ c ∷ more)) h)

  pub one_begins : (text : Text) (b : ℕ) (rest : Text) → text ≡ b ∷ rest → shape_of b ≡ s → begins_with (λ c. c == second) rest ≡ false → Begins text (b ∷ []) one rest
  one_begins text b rest e is stops = record {
    parts = e;
    is = kind_is b [] s is ∙ by_two b [];
    longest = long rest stops;
  }
    where
      long : (rest : Text) → begins_with (λ c. c == second) rest ≡ false → IsLongest (b ∷ []) rest
      long rest e [] behind p h = refl
      long [] e (c ∷ more) behind p h = absurd cc
      long (d ∷ rest) e (c ∷ []) behind p h =
          let d-is : d ≡ c = cc in
          let none : kind_of (b ∷ c ∷ []) ≡ None = kind_is b (c ∷ []) s is ∙ by_two b (c ∷ []) ∙ rw (ap (λ (x : ℕ). x == second) (sym d-is) ∙ e) refl in
          absurd (none_has (kind_of (b ∷ c ∷ [])) none h)
      long (d ∷ rest) e (c ∷ x ∷ more) behind p h = absurd (none_has (kind_of (b ∷ c ∷ x ∷ more)) (kind_is b (c ∷ x ∷ more) s is ∙ by_two b (c ∷ x ∷ more)) h)

-- ---- quotes

before_quote_is : (bs : Text) → list_all is_inner bs ≡ true → before_quote (bs ++ 34 ∷ []) ≡ Some bs
unfolding before_quote
before_quote_is [] e = refl
before_quote_is (b ∷ bs) e =
    let p = both (is_inner b) (list_all is_inner bs) e in
    rw (p.0, before_quote_is bs p.1) refl
  where
    both : (a c : Bool) → (a && c) ≡ true → (a ≡ true) × (c ≡ true)
    both true c e = (refl, e)
    both false c e = absurd cc

before_quote_past : (bs : Text) (m : ℕ) (more : Text) → before_quote ((bs ++ 34 ∷ []) ++ m ∷ more) ≡ None
unfolding before_quote
before_quote_past [] m more = rw (eqb-suc-zero (length more)) refl
before_quote_past (b ∷ bs) m more = rw (before_quote_past bs m more) (same (is_inner b) (b == 34) (length ((bs ++ 34 ∷ []) ++ m ∷ more) == 0) (no_end bs))
  where
    no_end : (bs : Text) → (length ((bs ++ 34 ∷ []) ++ m ∷ more) == 0) ≡ false
    no_end [] = eqb-suc-zero (suc (length more))
    no_end (c ∷ bs) = eqb-suc-zero (length ((bs ++ 34 ∷ []) ++ m ∷ more))

    same : (x y z : Bool) → z ≡ false → cond {A = Option Text} x None (cond {A = Option Text} (y && z) (Some []) None) ≡ None
    same true y z e = refl
    same false true z e = rw e refl
    same false false z e = refl

before_quote_none : (bs : Text) (m : ℕ) (more : Text) → is_inner m ≡ false → (m == 34) ≡ false → before_quote (bs ++ m ∷ more) ≡ None
unfolding before_quote
before_quote_none [] m more i q = rw (i, q) refl
before_quote_none (b ∷ bs) m more i q = rw (before_quote_none bs m more i q) (same (is_inner b) (b == 34) (length (bs ++ m ∷ more) == 0) (no_end bs))
  where
    no_end : (bs : Text) → (length (bs ++ m ∷ more) == 0) ≡ false
    no_end [] = eqb-suc-zero (length more)
    no_end (c ∷ bs) = eqb-suc-zero (length (bs ++ m ∷ more))

    same : (x y z : Bool) → z ≡ false → cond {A = Option Text} x None (cond {A = Option Text} (y && z) (Some []) None) ≡ None
    same true y z e = refl
    same false true z e = rw e refl
    same false false z e = refl

pub quote_closes : (text : Text) (b : ℕ) (bs rest : Text) → text ≡ b ∷ bs ++ 34 ∷ rest → shape_of b ≡ shape.Quote → list_all is_inner bs ≡ true → Begins text (b ∷ bs ++ 34 ∷ []) (token (Quoted bs)) rest
unfolding kind_by
quote_closes text b bs rest e is all = record {
  parts = e ∙ ap (λ (u : Text). b ∷ u) (sym (append_assoc bs (34 ∷ []) rest));
  is = kind_is b (bs ++ 34 ∷ []) shape.Quote is ∙ rw (not_all is_inner bs 34 [] refl, before_quote_is bs all) refl;
  longest = long;
}
  where
    long : IsLongest (b ∷ bs ++ 34 ∷ []) rest
    long [] behind p h = refl
    long (m ∷ more) behind p h =
        let all_no : list_all is_inner ((bs ++ 34 ∷ []) ++ m ∷ more) ≡ false = ap (λ (u : Text). list_all is_inner u) (append_assoc bs (34 ∷ []) (m ∷ more)) ∙ not_all is_inner bs 34 (m ∷ more) refl in
        let none : kind_of (b ∷ (bs ++ 34 ∷ []) ++ m ∷ more) ≡ None = kind_is b ((bs ++ 34 ∷ []) ++ m ∷ more) shape.Quote is ∙ rw (all_no, before_quote_past bs m more) refl in
        absurd (none_has (kind_of (b ∷ (bs ++ 34 ∷ []) ++ m ∷ more)) none h)

pub quote_stays : (text : Text) (b : ℕ) (bs rest : Text) → text ≡ b ∷ bs ++ rest → shape_of b ≡ shape.Quote → list_all is_inner bs ≡ true → begins_with is_inner rest ≡ false → begins_with (λ c. c == 34) rest ≡ false → Begins text (b ∷ bs) (token Wrong) rest
unfolding kind_by
quote_stays text b bs rest e is all stops no_quote = record {
  parts = e;
  is = kind_is b bs shape.Quote is ∙ rw all refl;
  longest = long rest stops no_quote;
}
  where
    long : (rest : Text) → begins_with is_inner rest ≡ false → begins_with (λ c. c == 34) rest ≡ false → IsLongest (b ∷ bs) rest
    long rest i q [] behind p h = refl
    long [] i q (m ∷ more) behind p h = absurd cc
    long (d ∷ rest) i q (m ∷ more) behind p h =
        let d-is : d ≡ m = cc in
        let i' : is_inner m ≡ false = ap is_inner (sym d-is) ∙ i in
        let q' : (m == 34) ≡ false = ap (λ (x : ℕ). x == 34) (sym d-is) ∙ q in
        let none : kind_of (b ∷ bs ++ m ∷ more) ≡ None = kind_is b (bs ++ m ∷ more) shape.Quote is ∙ rw (not_all is_inner bs m more i', before_quote_none bs m more i' q') refl in
        absurd (none_has (kind_of (b ∷ bs ++ m ∷ more)) none h)

-- ---- single bytes

pub single_begins : (text : Text) (b : ℕ) (k : Kind) (rest : Text) → text ≡ b ∷ rest → shape_of b ≡ shape.Single → k ≡ single b → Begins text (b ∷ []) k rest
unfolding kind_by
single_begins text b k rest e is s = record {
  parts = e;
  is = kind_is b [] shape.Single is ∙ ap (λ (x : Kind). Some x) (sym s);
  longest = long;
}
  where
    long : IsLongest (b ∷ []) rest
    long [] behind p h = refl
    long (c ∷ more) behind p h = absurd (none_has (kind_of (b ∷ c ∷ more)) (kind_is b (c ∷ more) shape.Single is ∙ rw (eqb-suc-zero (length more)) refl) h)

-- ---- numbers

grows : (bs : Text) (n : ℕ) → n ≤ decimal_from n bs
grows [] n = omega arith
grows (b ∷ bs) n = omega (arith, grows bs (n * 10 + (b - 48)))

pub digits_is : (most : ℕ) (bs : Text) (n : ℕ) → n ≤ most → digits_from most n bs ≡ cond (list_all is_ascii_digit bs && nat_le (decimal_from n bs) most) (Some (decimal_from n bs)) None
unfolding digits_from
digits_is most [] n le = rw (le-leb n most le) refl
digits_is most (b ∷ bs) n le = by (is_ascii_digit b) (nat_le (n * 10 + (b - 48)) most) refl (λ (l : n * 10 + (b - 48) ≤ most). digits_is most bs (n * 10 + (b - 48)) l)
  where
    big : nat_le (n * 10 + (b - 48)) most ≡ false → nat_le (decimal_from (n * 10 + (b - 48)) bs) most ≡ false
    big e = from (nat_le (decimal_from (n * 10 + (b - 48)) bs) most) refl
      where
        from : (x : Bool) → nat_le (decimal_from (n * 10 + (b - 48)) bs) most ≡ x → nat_le (decimal_from (n * 10 + (b - 48)) bs) most ≡ false
        from true f =
            let l : n * 10 + (b - 48) ≤ most = omega (arith, leb-true (decimal_from (n * 10 + (b - 48)) bs) most f, grows bs (n * 10 + (b - 48))) in
            absurd (let t = le-leb (n * 10 + (b - 48)) most l in cc)
        from false f = f

    by : (d l : Bool) → nat_le (n * 10 + (b - 48)) most ≡ l → (n * 10 + (b - 48) ≤ most → digits_from most (n * 10 + (b - 48)) bs ≡ cond (list_all is_ascii_digit bs && nat_le (decimal_from (n * 10 + (b - 48)) bs) most) (Some (decimal_from (n * 10 + (b - 48)) bs)) None) → cond (d && l) (digits_from most (n * 10 + (b - 48)) bs) None ≡ cond ((d && list_all is_ascii_digit bs) && nat_le (decimal_from (n * 10 + (b - 48)) bs) most) (Some (decimal_from (n * 10 + (b - 48)) bs)) None
    by false l e h = refl
    by true true e h = h (leb-true (n * 10 + (b - 48)) most e)
    by true false e h = rw (big e, and-false (list_all is_ascii_digit bs)) refl

pub decimal_small : (most n : ℕ) (bs : Text) → decimal most bs ≡ Some n → n ≤ most
unfolding decimal
decimal_small most n bs e = from (is_plain bs && list_all is_ascii_digit bs) (nat_le (decimal_from 0 bs) most) refl e
  where
    from : (a l : Bool) → nat_le (decimal_from 0 bs) most ≡ l → cond (a && l) (Some (decimal_from 0 bs)) None ≡ Some n → n ≤ most
    from true true f e = let g : decimal_from 0 bs ≡ n = cc in omega (arith, leb-true (decimal_from 0 bs) most f)
    from true false f e = absurd cc
    from false l f e = absurd cc

-- ---- parts between dots

parts_open : (bs : Text) → (p : Text) × (ps : List Text) × (parts_of bs ≡ p ∷ ps)
unfolding parts_of
parts_open [] = ([], [], refl)
parts_open (b ∷ bs) = from (is_part b) (parts_open bs)
  where
    from : (x : Bool) → ((p : Text) × (ps : List Text) × (parts_of bs ≡ p ∷ ps)) → (p : Text) × (ps : List Text) × (cond x (with_byte b (parts_of bs)) ([] ∷ parts_of bs) ≡ p ∷ ps)
    from true h = (b ∷ h.0, h.1, rw h.2 refl)
    from false h = ([], parts_of bs, refl)

parts_dot : (part behind : Text) → list_all is_part part ≡ true → parts_of (part ++ 46 ∷ behind) ≡ part ∷ parts_of behind
unfolding parts_of
parts_dot [] behind e = refl
parts_dot (b ∷ part) behind e = from (is_part b) (list_all is_part part) e refl (λ (g : list_all is_part part ≡ true). parts_dot part behind g)
  where
    from : (x y : Bool) → (x && y) ≡ true → list_all is_part part ≡ y → (list_all is_part part ≡ true → parts_of (part ++ 46 ∷ behind) ≡ part ∷ parts_of behind) → cond x (with_byte b (parts_of (part ++ 46 ∷ behind))) ([] ∷ parts_of (part ++ 46 ∷ behind)) ≡ (b ∷ part) ∷ parts_of behind
    from true true f g h = rw (h g) refl
    from true false f g h = absurd cc
    from false y f g h = absurd cc

parts_end : (part : Text) → list_all is_part part ≡ true → parts_of part ≡ part ∷ []
unfolding parts_of
parts_end [] e = refl
parts_end (b ∷ part) e = from (is_part b) (list_all is_part part) e refl (λ (g : list_all is_part part ≡ true). parts_end part g)
  where
    from : (x y : Bool) → (x && y) ≡ true → list_all is_part part ≡ y → (list_all is_part part ≡ true → parts_of part ≡ part ∷ []) → cond x (with_byte b (parts_of part)) ([] ∷ parts_of part) ≡ (b ∷ part) ∷ []
    from true true f g h = rw (h g) refl
    from true false f g h = absurd cc
    from false y f g h = absurd cc

-- the bytes are a part and a dot, or a part alone
pub octets_dot : (bytes part rest behind : Text) → bytes ≡ part ++ rest → list_all is_part part ≡ true → rest ≡ 46 ∷ behind → octets bytes ≡ decimal 255 part ∷ octets behind
octets_dot bytes part rest behind e all f = ap octets (e ∙ ap (λ (u : Text). part ++ u) f) ∙ ap (λ (ps : List Text). map (decimal 255) ps) (parts_dot part behind all)

pub octets_end : (bytes part rest : Text) → bytes ≡ part ++ rest → list_all is_part part ≡ true → begins_with is_part rest ≡ false → begins_with (λ b. b == 46) rest ≡ false → octets bytes ≡ decimal 255 part ∷ []
octets_end bytes part [] e all stops no_dot = ap octets (e ∙ append-nil part) ∙ ap (λ (ps : List Text). map (decimal 255) ps) (parts_end part all)
octets_end bytes part (b ∷ rest) e all stops no_dot = absurd (neither (b == 46) stops no_dot)
  where
    neither : (x : Bool) → not x ≡ false → x ≡ false → ⊥
    neither true e f = absurd cc
    neither false e f = absurd cc

pub stops_alone : (o : Option ℕ) → Stops (o ∷ [])
stops_alone (Some n) = tt
stops_alone None = tt

pub goes_on : (o : Option ℕ) (behind : Text) → GoesOn (o ∷ octets behind)
goes_on (Some n) behind = let p = parts_open behind in rw p.2 tt
goes_on None behind = tt
