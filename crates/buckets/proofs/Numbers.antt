-- The rows of the overflow, in which its keys lie by their numbers.
use Rattle.std.proofs.Common.{◌≡◌, ◌≢◌, ℕ, zero, suc, ◌*◌, ◌%◌, ◌<◌, ◌≤◌, cond, List, [], ◌∷◌, length, get_or, Option, None, refl, sym, ap, ◌∙◌, subst, inl, inr, arith}
use Rattle.std.proofs.lemmas.Bool.{cases_eq, cases_lt, eq-eqb, ne_eqb, lt-ltb, le-ltb}
use Rattle.std.proofs.lemmas.Nat.{mod-mul-add}
use Rattle.std.proofs.lemmas.Option.{none-some}
use Rattle.rows.specs.declared.Entry.{Entry}
use Rattle.rows.specs.Held.{value_at, entries_from, Puts, AreRising}
use Rattle.buckets.specs.Places.{spread, number, plain_in, AreNumbered, IsNext, IsPast}
use Rattle.buckets.proofs.Values.{value-here, value-behind}

-- ---- numbers

pub number-rest : (key : ℕ) → key < 18446744073709551616 → number key % 18446744073709551616 ≡ key
unfolding number
number-rest key small = mod-mul-add (spread key) 18446744073709551616 key small

pub number-side : (a b : ℕ) → b < 18446744073709551616 → number a ≤ number b → spread a ≤ spread b
unfolding number
number-side a b small le = omega arith

pub number-below : (key s : ℕ) → number key < s * 18446744073709551616 → spread key < s
unfolding number
number-below key s lt = omega arith

-- ---- the rows as the overflow shows them

abbrev plain : Entry → Entry
plain e = record { key = e.key % 18446744073709551616; value = e.value }

has-tail : (e : Entry) (es : List Entry) (n : ℕ) → value_at es n ≢ None → value_at (e ∷ es) n ≢ None
has-tail e es n has none = elim (cases_eq n e.key) [
  | inl same ↦ none-some e.value (sym none ∙ value-here e es n same)
  | inr differ ↦ has (sym (value-behind e es n differ) ∙ none)
]

numbered-head : (e : Entry) (es : List Entry) → AreNumbered (e ∷ es) → e.key ≡ number (e.key % 18446744073709551616)
numbered-head e es numbered = numbered e.key (λ none. none-some e.value (sym none ∙ value-here e es e.key refl))

numbered-tail : (e : Entry) (es : List Entry) → AreNumbered (e ∷ es) → AreNumbered es
numbered-tail e es numbered n has = numbered n (has-tail e es n has)

pub plain-value : (rows : List Entry) → AreNumbered rows → (key : ℕ) → key < 18446744073709551616 → value_at (plain_in rows) key ≡ value_at rows (number key)
plain-value [] numbered key small = refl
plain-value (e ∷ es) numbered key small = elim (cases_eq key (e.key % 18446744073709551616)) [
  | inl same ↦ value-here (plain e) (plain_in es) key same ∙ sym (value-here e es (number key) (ap number same ∙ sym (numbered-head e es numbered)))
  | inr differ ↦ value-behind (plain e) (plain_in es) key differ ∙ plain-value es (numbered-tail e es numbered) key small ∙ sym (value-behind e es (number key) (λ same. differ (sym (number-rest key small) ∙ ap (λ n. n % 18446744073709551616) same)))
]

plain-beyond : (rows : List Entry) (key : ℕ) → 18446744073709551616 ≤ key → value_at (plain_in rows) key ≡ None
plain-beyond [] key great = refl
plain-beyond (e ∷ es) key great = value-behind (plain e) (plain_in es) key (λ same. omega (arith, same)) ∙ plain-beyond es key great

-- a key that the overflow has is one, and its number lies in the rows
pub plain-has : (rows : List Entry) → AreNumbered rows → (key : ℕ) → value_at (plain_in rows) key ≢ None → (key < 18446744073709551616) × (value_at rows (number key) ≢ None)
plain-has rows numbered key has = elim (cases_lt key 18446744073709551616) [
  | inl small ↦ (small, λ none. has (plain-value rows numbered key small ∙ none))
  | inr great ↦ absurd (has (plain-beyond rows key great))
]

module _ (old new : List Entry) (was : AreNumbered old) (key : ℕ) (small : key < 18446744073709551616) (value : Option ℕ) (puts : Puts old new (number key) value) where
  pub numbered-puts : AreNumbered new
  numbered-puts n has = elim (cases_eq n (number key)) [
    | inl same ↦ same ∙ ap number (sym (number-rest key small)) ∙ ap (λ m. number (m % 18446744073709551616)) (sym same)
    | inr away ↦ was n (λ none. has (puts n ∙ ap (λ b. cond b value (value_at old n)) (ne_eqb n (number key) away) ∙ none))
  ]

  pub plain-puts : Puts (plain_in old) (plain_in new) key value
  plain-puts other = elim (cases_eq other key) [
    | inl same ↦ rw (eq-eqb other key same) (ap (value_at (plain_in new)) same ∙ plain-value new numbered-puts key small ∙ puts (number key) ∙ ap (λ b. cond b value (value_at old (number key))) (eq-eqb (number key) (number key) refl))
    | inr away ↦ rw (ne_eqb other key away) (elim (cases_lt other 18446744073709551616) [
      | inl fits ↦ plain-value new numbered-puts other fits ∙ puts (number other) ∙ ap (λ b. cond b value (value_at old (number other))) (ne_eqb (number other) (number key) (λ same. away (sym (number-rest other fits) ∙ ap (λ n. n % 18446744073709551616) same ∙ number-rest key small))) ∙ sym (plain-value old was other fits)
      | inr great ↦ plain-beyond new other great ∙ sym (plain-beyond old other great)
    ])
  ]

-- ---- the first row from a number on

has-index : (es : List Entry) (n : ℕ) → value_at es n ≢ None → (j : ℕ) × (j < length es) × ((d : Entry) → (get_or es j d).key ≡ n)
has-index [] n has = absurd (has refl)
has-index (e ∷ es) n has = elim (cases_eq n e.key) [
  | inl same ↦ (zero, omega arith, λ d. sym same)
  | inr differ ↦ let there = has-index es n (λ none. has (value-behind e es n differ ∙ none)) in (suc there.0, omega (arith, there.1), there.2)
]

rising-tail : (e : Entry) (es : List Entry) → AreRising (e ∷ es) → AreRising es
rising-tail e es rising i j d lt inside = rising (suc i) (suc j) d (omega arith) (omega arith)

rising-head : (e : Entry) (es : List Entry) → AreRising (e ∷ es) → (n : ℕ) → value_at es n ≢ None → e.key < n
rising-head e es rising n has =
    let there = has-index es n has in
    subst (λ m. e.key < m) (there.2 e) (rising zero (suc there.0) e (omega arith) (omega (arith, there.1)))

least : (e : Entry) (es : List Entry) → AreRising (e ∷ es) → (n : ℕ) → value_at (e ∷ es) n ≢ None → e.key ≤ n
least e es rising n has = elim (cases_eq n e.key) [
  | inl same ↦ omega arith
  | inr differ ↦ let lt = rising-head e es rising n (λ none. has (value-behind e es n differ ∙ none)) in omega (arith, lt)
]

-- where entries are left from a number on, the first of them is one of all, and least
pub from-some : (rows : List Entry) → AreRising rows → (from : ℕ) (first : Entry) (rest : List Entry) → entries_from from rows ≡ first ∷ rest
    → (value_at rows first.key ≢ None) × (from ≤ first.key) × ((n : ℕ) → value_at rows n ≢ None → from ≤ n → first.key ≤ n)
from-some [] rising from first rest is = absurd cc
from-some (e ∷ es) rising from first rest is = elim (cases_lt e.key from) [
  | inl lt ↦
      let later = from-some es (rising-tail e es rising) from first rest (sym (ap (λ b. cond b (entries_from from es) (e ∷ es)) (lt-ltb e.key from lt)) ∙ is) in
      (has-tail e es first.key later.0, later.1, λ n has le. later.2 n (λ none. has (value-behind e es n (λ same. omega (arith, same)) ∙ none)) le)
  | inr le ↦
      let whole : e ∷ es ≡ first ∷ rest = sym (ap (λ b. cond b (entries_from from es) (e ∷ es)) (le-ltb e.key from le)) ∙ is in
      let one : e ≡ first = cc in
      subst (λ (f : Entry). (value_at (e ∷ es) f.key ≢ None) × (from ≤ f.key) × ((n : ℕ) → value_at (e ∷ es) n ≢ None → from ≤ n → f.key ≤ n)) one
      (λ none. none-some e.value (sym none ∙ value-here e es e.key refl), le, λ n has from_le. least e es rising n has)
]

-- where none is left, all are below
pub from-none : (rows : List Entry) (from : ℕ) → entries_from from rows ≡ [] → (n : ℕ) → value_at rows n ≢ None → n < from
from-none [] from is n has = absurd (has refl)
from-none (e ∷ es) from is n has = elim (cases_lt e.key from) [
  | inl lt ↦ elim (cases_eq n e.key) [
    | inl same ↦ omega arith
    | inr differ ↦ from-none es from (sym (ap (λ b. cond b (entries_from from es) (e ∷ es)) (lt-ltb e.key from lt)) ∙ is) n (λ none. has (value-behind e es n differ ∙ none))
  ]
  | inr le ↦ let whole : e ∷ es ≡ [] = sym (ap (λ b. cond b (entries_from from es) (e ∷ es)) (le-ltb e.key from le)) ∙ is in absurd cc
]

module _ (rows : List Entry) (numbered : AreNumbered rows) (from : ℕ) where
  pub next-is : AreRising rows → (first : Entry) (rest : List Entry) → entries_from from rows ≡ first ∷ rest → IsNext (plain_in rows) from (first.key % 18446744073709551616)
  next-is rising first rest is =
      let parts = from-some rows rising from first rest is in
      let key : ℕ = first.key % 18446744073709551616 in
      let small : key < 18446744073709551616 = omega arith in
      let own : first.key ≡ number key = numbered first.key parts.0 in
      record {
        there = λ none. parts.0 (ap (value_at rows) own ∙ sym (plain-value rows numbered key small) ∙ none);
        in_order = subst (λ n. from ≤ n) own parts.1;
        side = λ other has le.
            let lies = plain-has rows numbered other has in
            let least = parts.2 (number other) lies.1 le in
            number-side key other lies.0 (subst (λ n. n ≤ number other) own least);
        least = λ other has le differ.
            let lies = plain-has rows numbered other has in
            let least = subst (λ n. n ≤ number other) own (parts.2 (number other) lies.1 le) in
            elim (cases_lt (number key) (number other)) [
              | inl lt ↦ lt
              | inr ge ↦ let same : number other ≡ number key = omega (arith, least, ge) in absurd (differ (sym (number-rest other lies.0) ∙ ap (λ n. n % 18446744073709551616) same ∙ number-rest key small))
            ];
      }

  pub past-is : entries_from from rows ≡ [] → IsPast (plain_in rows) from
  past-is is key has = let lies = plain-has rows numbered key has in from-none rows from is (number key) lies.1
