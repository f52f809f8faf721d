-- Entries of which each key has one place: what a look-up gives, and what a change of one place makes of it.
use Rattle.std.proofs.Common.{Bool, true, ◌≡◌, ◌≢◌, ℕ, ◌<◌, ◌≤◌, List, cond, length, get_or, Option, Some, None, refl, sym, ap, ◌∙◌, subst, inl, inr, ◌⊎◌, arith}
use Rattle.std.proofs.lemmas.Bool.{cases_eq, eq-eqb, ne_eqb}
use Rattle.std.proofs.lemmas.List.{get_or_default}
use Rattle.std.proofs.lemmas.Option.{none-some, same_Some}
use Rattle.std.specs.Bool.{OnFalse}
use Rattle.std.specs.Prelude.{IsSomeAnd}
use Rattle.std.specs.Option.{option_map}
use Rattle.rows.specs.declared.Entry.{Entry}
use Rattle.rows.specs.Held.{value_at, Puts}
use Rattle.buckets.specs.Places.{all_in, HasAt, HasKey, HasNowhere, AreApart, IsExtended, IsSetTo}
use Rattle.buckets.specs.ByPort.{AreAtHome, ArePlaced, place_of}
use Rattle.buckets.proofs.Values.{vals, either, some-stands, has-stands, stands-some, stands-inside, same-vals, all-both, all-some, all-none, all-nowhere, nowhere-all}

-- each key stands once
pub home-apart : (ps : List (Option Entry)) → AreAtHome ps → AreApart ps
home-apart ps home i j e f is_e is_f same = home i e is_e ∙ ap place_of same ∙ sym (home j f is_f)

-- where another key or none stands at the place of a key, no place has it
pub home-nowhere : (ps : List (Option Entry)) (key : ℕ) → AreAtHome ps → ((e : Entry) → HasAt ps (place_of key) e → e.key ≢ key) → HasNowhere ps key
home-nowhere ps key home other i e is same = other e (ap (λ k. get_or ps k None) (sym (home i e is ∙ ap place_of same)) ∙ is) same

pub home-none : (ps : List (Option Entry)) (key : ℕ) → AreAtHome ps → get_or ps (place_of key) None ≡ None → HasNowhere ps key
home-none ps key home none = home-nowhere ps key home (λ e is. absurd (none-some e (sym none ∙ is)))

-- where the place of a key hasn't it, or isn't there, no place has it
pub home-lacks : (ps : List (Option Entry)) (key : ℕ) → AreAtHome ps → ¬ HasKey ps key (place_of key) → HasNowhere ps key
home-lacks ps key home lacks = home-nowhere ps key home (λ e there same. lacks (subst (λ o. IsSomeAnd o (λ (f : Entry). f.key ≡ key)) (sym there) same))

pub home-outside : (ps : List (Option Entry)) (key at : ℕ) → AreAtHome ps → at ≡ place_of key → length ps ≤ at → HasNowhere ps key
home-outside ps key at home same past = home-nowhere ps key home (λ e there. let inside = stands-inside ps (place_of key) e there in absurd (omega (arith, inside, past, same)))

-- what was read is what the place has
pub home-read : (ps : List (Option Entry)) (key at : ℕ) (o : Option Entry) → at ≡ place_of key → at < length ps → o ≡ get_or ps at o → get_or ps (place_of key) None ≡ o
home-read ps key at o same inside is = sym (is ∙ get_or_default ps at o None inside ∙ ap (λ k. get_or ps k None) same)

-- what is read at a place that has the key is what a look-up gives
pub has-value : (ps : List (Option Entry)) (key at : ℕ) (o : Option Entry) → AreAtHome ps → HasKey ps key at → option_map (λ (e : Entry). e.value) (get_or ps at o) ≡ vals ps key
has-value ps key at o home has =
    let there = has-stands ps key at has in
    ap (option_map (λ (e : Entry). e.value)) (get_or_default ps at o None (stands-inside ps at there.0 there.1) ∙ there.1) ∙ sym (ap (vals ps) (sym there.2) ∙ stands-some ps (home-apart ps home) at there.0 there.1)

-- ---- an entry more

module _ (old new : List (Option Entry)) (e : Entry) (over : List Entry) (to : IsSetTo old new (place_of e.key) (Some e)) (home : AreAtHome old) (once : (i : ℕ) (f : Entry) → HasAt old i f → value_at over f.key ≡ None) (free : get_or old (place_of e.key) None ≡ None) (absent : value_at (all_in old over) e.key ≡ None) where
  put-stands : (i : ℕ) (f : Entry) → HasAt new i f → (HasAt old i f) ⊎ ((i ≡ place_of e.key) × (e ≡ f))
  put-stands i f is = elim (cases_eq i (place_of e.key)) [
    | inl here ↦ inr (here, same_Some e f (sym to.there ∙ ap (λ k. get_or new k None) (sym here) ∙ is))
    | inr away ↦ inl (sym (to.others i away) ∙ is)
  ]

  put-keeps : (i : ℕ) (f : Entry) → HasAt old i f → HasAt new i f
  put-keeps i f is = to.others i (λ here. none-some f (sym free ∙ ap (λ k. get_or old k None) (sym here) ∙ is)) ∙ is

  pub put-home : AreAtHome new
  put-home i f is = elim (put-stands i f is) [
    | inl was ↦ home i f was
    | inr here ↦ here.0 ∙ ap (λ (x : Entry). place_of x.key) here.1
  ]

  pub put-once : (i : ℕ) (f : Entry) → HasAt new i f → value_at over f.key ≡ None
  put-once i f is = elim (put-stands i f is) [
    | inl was ↦ once i f was
    | inr here ↦ ap (λ (x : Entry). value_at over x.key) (sym here.1) ∙ sym (all-none old over e.key (all-nowhere old over e.key absent)) ∙ absent
  ]

  pub put-puts : Puts (all_in old over) (all_in new over) e.key (Some e.value)
  put-puts other = elim (cases_eq other e.key) [
    | inl same ↦ rw (eq-eqb other e.key same) (all-some new over other e.value (ap (vals new) same ∙ stands-some new (home-apart new put-home) (place_of e.key) e to.there))
    | inr away ↦ rw (ne_eqb other e.key away) (all-both new over other ∙ ap (λ o. either o (value_at over other)) (same-vals old new other (home-apart new put-home) (λ i f key is. put-keeps i f is) (λ i f key is. elim (put-stands i f is) [
      | inl was ↦ was
      | inr here ↦ absurd (away (sym key ∙ ap (λ (x : Entry). x.key) (sym here.1)))
    ])) ∙ sym (all-both old over other))
  ]

  pub put-placed : (has_others : Bool) → OnFalse has_others ((key : ℕ) → value_at over key ≡ None) → ArePlaced new over has_others
  put-placed has_others none = record { home = put-home; once = put-once; none = none }

-- ---- an entry less

module _ (old new : List (Option Entry)) (key v : ℕ) (over : List Entry) (to : IsSetTo old new (place_of key) None) (home : AreAtHome old) (found : vals old key ≡ Some v) (once : (i : ℕ) (f : Entry) → HasAt old i f → value_at over f.key ≡ None) where
  taken-stands : (i : ℕ) (f : Entry) → HasAt new i f → (i ≢ place_of key) × HasAt old i f
  taken-stands i f is =
      let away : i ≢ place_of key = λ here. none-some f (sym to.there ∙ ap (λ k. get_or new k None) (sym here) ∙ is) in
      (away, sym (to.others i away) ∙ is)

  -- what stood at the place had the key
  was-own : (i : ℕ) (f : Entry) → i ≡ place_of key → HasAt old i f → f.key ≡ key
  was-own i f here is =
      let there = some-stands old key v found in
      let at : there.0 ≡ place_of key = home there.0 there.1 there.2 ∙ ap place_of there.3 in
      ap (λ (x : Entry). x.key) (same_Some f there.1 (sym is ∙ ap (λ k. get_or old k None) (here ∙ sym at) ∙ there.2)) ∙ there.3

  taken-home : AreAtHome new
  taken-home i f is = home i f (taken-stands i f is).1

  pub taken-placed : (has_others : Bool) → OnFalse has_others ((other : ℕ) → value_at over other ≡ None) → ArePlaced new over has_others
  taken-placed has_others none = record { home = taken-home; once = λ i f is. once i f (taken-stands i f is).1; none = none }

  pub taken-puts : Puts (all_in old over) (all_in new over) key None
  taken-puts other = elim (cases_eq other key) [
    | inl same ↦
        let there = some-stands old key v found in
        rw (eq-eqb other key same) (ap (value_at (all_in new over)) same ∙ nowhere-all new over key (home-none new key taken-home to.there) ∙ sym (ap (value_at over) there.3) ∙ once there.0 there.1 there.2)
    | inr away ↦ rw (ne_eqb other key away) (all-both new over other ∙ ap (λ o. either o (value_at over other)) (same-vals old new other (home-apart new taken-home)
        (λ i f at is. to.others i (λ here. away (sym at ∙ was-own i f here is)) ∙ is)
        (λ i f at is. (taken-stands i f is).1)) ∙ sym (all-both old over other))
  ]

-- ---- a change of the others

pub others-placed : (ps : List (Option Entry)) (old new : List Entry) (key : ℕ) (value : Option ℕ) → HasNowhere ps key → Puts old new key value → AreAtHome ps → ((i : ℕ) (f : Entry) → HasAt ps i f → value_at old f.key ≡ None) → ArePlaced ps new true
others-placed ps old new key value nowhere puts home once = record {
  home = home;
  once = λ i e is. puts e.key ∙ ap (λ b. cond b value (value_at old e.key)) (ne_eqb e.key key (nowhere i e is)) ∙ once i e is;
  none = tt;
}

pub kept-placed : (ps : List (Option Entry)) (old new : List Entry) → ((key : ℕ) → value_at new key ≡ value_at old key) → AreAtHome ps → ((i : ℕ) (f : Entry) → HasAt ps i f → value_at old f.key ≡ None) → ArePlaced ps new true
kept-placed ps old new same home once = record { home = home; once = λ i e is. same e.key ∙ once i e is; none = tt }

pub others-same : (ps qs : List (Option Entry)) (old new : List Entry) (key : ℕ) → qs ≡ ps → value_at new key ≡ value_at old key → value_at (all_in qs new) key ≡ value_at (all_in ps old) key
others-same ps qs old new key places same = ap (λ p. value_at (all_in p new) key) places ∙ all-both ps new key ∙ ap (either (vals ps key)) same ∙ sym (all-both ps old key)

-- what nothing has can be taken out
pub none-gone : (ps : List (Option Entry)) (over : List Entry) (key : ℕ) → value_at (all_in ps over) key ≡ None → Puts (all_in ps over) (all_in ps over) key None
none-gone ps over key none other = elim (cases_eq other key) [
  | inl same ↦ rw (eq-eqb other key same) (ap (value_at (all_in ps over)) same ∙ none)
  | inr away ↦ rw (ne_eqb other key away) refl
]

-- ---- free places more

module _ (old new : List (Option Entry)) (over : List Entry) (same : IsExtended old new) (home : AreAtHome old) where
  pub extended-home : AreAtHome new
  extended-home i e is = home i e (sym (same i) ∙ is)

  pub extended-values : (key : ℕ) → value_at (all_in new over) key ≡ value_at (all_in old over) key
  extended-values key = all-both new over key ∙ ap (λ o. either o (value_at over key)) (same-vals old new key (home-apart new extended-home) (λ i e _ is. same i ∙ is) (λ i e _ is. sym (same i) ∙ is)) ∙ sym (all-both old over key)

  pub extended-placed : (has_others : Bool) → ((i : ℕ) (e : Entry) → HasAt old i e → value_at over e.key ≡ None) → OnFalse has_others ((key : ℕ) → value_at over key ≡ None) → ArePlaced new over has_others
  extended-placed has_others once none = record { home = extended-home; once = λ i e is. once i e (sym (same i) ∙ is); none = none }
