-- What a look-up by a key gives, and what a change of one place makes of it.
use Rattle.std.proofs.Common.{Bool, true, false, min, ◌/◌, ◌-◌, ◌≡◌, ◌≢◌, ℕ, zero, suc, ◌+◌, ◌<◌, ◌≤◌, ◌⊎◌, cond, List, [], ◌∷◌, ◌++◌, length, set, get_or, Option, Some, None, refl, sym, ap, ◌∙◌, subst, inl, inr, arith}
use Rattle.std.proofs.lemmas.List.{length-set, get_or-set_same, get_or-set_other}
use Rattle.std.proofs.lemmas.Bool.{cases_eq, cases_lt, eq-eqb, ne_eqb}
use Rattle.std.proofs.lemmas.Option.{none-some, same_Some}
use Rattle.std.specs.Prelude.{IsSomeAnd}
use Rattle.std.specs.Option.{option_map}
use Rattle.std.specs.Bool.{OnTrue}
use Rattle.std.proofs.Math.Nat.{mul-le-mul_right}
use Rattle.rows.specs.declared.Entry.{Entry}
use Rattle.rows.specs.Held.{value_at, Puts}
use Rattle.buckets.specs.Places.{entries_in, all_in, HasAt, HasKey, HasNowhere, AreHome, AreApart, AreSound, IsHome, AreInFront, IsFreeFor, IsNextFor, EndsSearch, IsClosed, IsFull, IsFilled, ArePacked, ArePackedBut, IsNext, IsPast, bucket_of, spread, number, IsSetTo, IsCopied, IsMoved, HaveSame}

-- the place has the last entry in the bucket of the key
pub record IsLast (places : List (Option Entry)) (key place : ℕ) : Type 0 where
  pub in_range : place < length places
  pub home : IsHome (length places) key place
  pub filled : get_or places place None ≢ None
  pub behind : (k : ℕ) → place < k → k / 8 ≡ place / 8 → get_or places k None ≡ None

-- each entry of the overflow whose number is below this one has a full bucket
abbrev pub ArePackedBelow : List (Option Entry) → List Entry → ℕ → Type 0
ArePackedBelow places overflow from = (key place : ℕ) → number key < from
    → IsFreeFor places key place → value_at overflow key ≡ None

-- ---- one list of entries behind another

-- the first of two, where there is one
abbrev pub either : Option ℕ → Option ℕ → Option ℕ
either None o = o
either (Some v) o = Some v

pub value-here : (e : Entry) (es : List Entry) (key : ℕ) → key ≡ e.key → value_at (e ∷ es) key ≡ Some e.value
value-here e es key same = rw (eq-eqb key e.key same) refl

pub value-behind : (e : Entry) (es : List Entry) (key : ℕ) → key ≢ e.key → value_at (e ∷ es) key ≡ value_at es key
value-behind e es key differ = rw (ne_eqb key e.key differ) refl

pub value-both : (a b : List Entry) (key : ℕ) → value_at (a ++ b) key ≡ either (value_at a key) (value_at b key)
value-both [] b key = refl
value-both (e ∷ a) b key = elim (cases_eq key e.key) [
  | inl same ↦ value-here e (a ++ b) key same ∙ sym (ap (λ o. either o (value_at b key)) (value-here e a key same))
  | inr differ ↦ value-behind e (a ++ b) key differ ∙ value-both a b key ∙ sym (ap (λ o. either o (value_at b key)) (value-behind e a key differ))
]

-- ---- the entries of the places

-- the value of a key in the places
abbrev pub vals : List (Option Entry) → ℕ → Option ℕ
vals ps key = value_at (entries_in ps) key

pub nowhere-none : (ps : List (Option Entry)) (key : ℕ) → HasNowhere ps key → vals ps key ≡ None
nowhere-none [] key none = refl
nowhere-none (None ∷ ps) key none = nowhere-none ps key (λ i e is. none (suc i) e is)
nowhere-none (Some e ∷ ps) key none = value-behind e (entries_in ps) key (λ same. none zero e refl (sym same)) ∙ nowhere-none ps key (λ i f is. none (suc i) f is)

pub none-nowhere : (ps : List (Option Entry)) (key : ℕ) → vals ps key ≡ None → HasNowhere ps key
none-nowhere [] key none i e is = λ same. none-some e is
none-nowhere (None ∷ ps) key none zero e is = λ same. none-some e is
none-nowhere (None ∷ ps) key none (suc i) e is = none-nowhere ps key none i e is
none-nowhere (Some f ∷ ps) key none zero e is = λ same. none-some f.value (sym none ∙ value-here f (entries_in ps) key (sym same ∙ ap (λ (x : Entry). x.key) (sym (same_Some f e is))))
none-nowhere (Some f ∷ ps) key none (suc i) e is = elim (cases_eq key f.key) [
  | inl same ↦ absurd (none-some f.value (sym none ∙ value-here f (entries_in ps) key same))
  | inr differ ↦ none-nowhere ps key (sym (value-behind f (entries_in ps) key differ) ∙ none) i e is
]

-- an entry that a look-up gave stands somewhere
pub some-stands : (ps : List (Option Entry)) (key v : ℕ) → vals ps key ≡ Some v → (i : ℕ) × (e : Entry) × (HasAt ps i e) × (e.key ≡ key) × (e.value ≡ v)
some-stands [] key v some = absurd (none-some v some)
some-stands (None ∷ ps) key v some = let there = some-stands ps key v some in (suc there.0, there.1, there.2, there.3, there.4)
some-stands (Some e ∷ ps) key v some = elim (cases_eq key e.key) [
  | inl same ↦ (zero, e, refl, sym same, same_Some e.value v (sym (value-here e (entries_in ps) key same) ∙ some))
  | inr differ ↦ let there = some-stands ps key v (sym (value-behind e (entries_in ps) key differ) ∙ some) in (suc there.0, there.1, there.2, there.3, there.4)
]

-- an entry that stands is what a look-up gives
pub stands-some : (ps : List (Option Entry)) → AreApart ps → (i : ℕ) (e : Entry) → HasAt ps i e → vals ps e.key ≡ Some e.value
stands-some ps apart i e is = by-cases (vals ps e.key) refl where
  by-cases : (o : Option ℕ) → vals ps e.key ≡ o → vals ps e.key ≡ Some e.value
  by-cases None none = absurd (none-nowhere ps e.key none i e is refl)
  by-cases (Some v) some =
      let there = some-stands ps e.key v some in
      let same : there.0 ≡ i = apart there.0 i there.1 e there.2 is there.3 in
      let one : there.1 ≡ e = same_Some there.1 e (sym there.2 ∙ ap (λ k. get_or ps k None) same ∙ is) in
      some ∙ ap Some (sym there.4 ∙ ap (λ (x : Entry). x.value) one)

-- places that have the same entries of a key, wherever they stand
pub same-entries : (ps qs : List (Option Entry)) (key : ℕ) → AreApart qs → ((i : ℕ) (e : Entry) → e.key ≡ key → HasAt ps i e → (j : ℕ) × HasAt qs j e) → ((i : ℕ) (e : Entry) → e.key ≡ key → HasAt qs i e → (j : ℕ) × HasAt ps j e) → vals qs key ≡ vals ps key
same-entries ps qs key apart to from = by-cases (vals ps key) refl where
  by-cases : (o : Option ℕ) → vals ps key ≡ o → vals qs key ≡ vals ps key
  by-cases None none = nowhere-none qs key (λ i e is same. let was = from i e same is in none-nowhere ps key none was.0 e was.1 same) ∙ sym none
  by-cases (Some v) some =
      let there = some-stands ps key v some in
      let now = to there.0 there.1 there.3 there.2 in
      ap (vals qs) (sym there.3) ∙ stands-some qs apart now.0 there.1 now.1 ∙ ap Some there.4 ∙ sym some

-- or in the same places
pub same-vals : (ps qs : List (Option Entry)) (key : ℕ) → AreApart qs → ((i : ℕ) (e : Entry) → e.key ≡ key → HasAt ps i e → HasAt qs i e) → ((i : ℕ) (e : Entry) → e.key ≡ key → HasAt qs i e → HasAt ps i e) → vals qs key ≡ vals ps key
same-vals ps qs key apart to from = same-entries ps qs key apart (λ i e same is. (i, to i e same is)) (λ i e same is. (i, from i e same is))

-- a place with an entry is one of the places
pub stands-inside : (ps : List (Option Entry)) (i : ℕ) (e : Entry) → HasAt ps i e → i < length ps
stands-inside [] i e is = absurd (none-some e is)
stands-inside (p ∷ ps) zero e is = omega arith
stands-inside (p ∷ ps) (suc i) e is = let inside = stands-inside ps i e is in omega (arith, inside)

-- ---- what a look-up among all gives

pub has-stands : (ps : List (Option Entry)) (key i : ℕ) → HasKey ps key i → (e : Entry) × (HasAt ps i e) × (e.key ≡ key)
has-stands ps key i has = by-cases (get_or ps i None) refl has where
  by-cases : (o : Option Entry) → get_or ps i None ≡ o → IsSomeAnd o (λ e. e.key ≡ key) → (e : Entry) × (HasAt ps i e) × (e.key ≡ key)
  by-cases None is h = absurd h
  by-cases (Some e) is h = (e, is, h)

module _ (ps : List (Option Entry)) (over : List Entry) where
  pub all-both : (key : ℕ) → value_at (all_in ps over) key ≡ either (vals ps key) (value_at over key)
  all-both key = value-both (entries_in ps) over key

  pub all-some : (key v : ℕ) → vals ps key ≡ Some v → value_at (all_in ps over) key ≡ Some v
  all-some key v some = all-both key ∙ ap (λ o. either o (value_at over key)) some

  pub all-none : (key : ℕ) → vals ps key ≡ None → value_at (all_in ps over) key ≡ value_at over key
  all-none key none = all-both key ∙ ap (λ o. either o (value_at over key)) none

  pub nowhere-all : (key : ℕ) → HasNowhere ps key → value_at (all_in ps over) key ≡ value_at over key
  nowhere-all key nowhere = all-none key (nowhere-none ps key nowhere)

  -- where none has the key, no place has it
  pub all-nowhere : (key : ℕ) → value_at (all_in ps over) key ≡ None → vals ps key ≡ None
  all-nowhere key none = by-cases (vals ps key) refl where
    by-cases : (o : Option ℕ) → vals ps key ≡ o → o ≡ None
    by-cases None is = refl
    by-cases (Some v) is = absurd (none-some v (sym none ∙ all-some key v is))

  pub found-all : AreSound ps over → (key i : ℕ) → HasKey ps key i → option_map (λ (e : Entry). e.value) (get_or ps i None) ≡ value_at (all_in ps over) key
  found-all sound key i has =
      let there = has-stands ps key i has in
      ap (option_map (λ (e : Entry). e.value)) there.1 ∙ sym (all-some key there.0.value (ap (vals ps) (sym there.2) ∙ stands-some ps sound.apart i there.0 there.1))

-- ---- an entry more in a place

module _ (old new : List (Option Entry)) (place : ℕ) (e : Entry) (over : List Entry) (to : IsSetTo old new place (Some e)) (sound : AreSound old over) (free : IsNextFor old e.key place) (absent : value_at (all_in old over) e.key ≡ None) where
  more-stands : (i : ℕ) (f : Entry) → HasAt new i f → (HasAt old i f) ⊎ ((i ≡ place) × (e ≡ f))
  more-stands i f is = elim (cases_eq i place) [
    | inl here ↦ inr (here, same_Some e f (sym to.there ∙ ap (λ k. get_or new k None) (sym here) ∙ is))
    | inr away ↦ inl (sym (to.others i away) ∙ is)
  ]

  more-keeps : (i : ℕ) (f : Entry) → HasAt old i f → HasAt new i f
  more-keeps i f is = to.others i (λ here. none-some f (sym free.vacant.free ∙ ap (λ k. get_or old k None) (sym here) ∙ is)) ∙ is

  nowhere : HasNowhere old e.key
  nowhere = none-nowhere old e.key (all-nowhere old over e.key absent)

  more-home : AreHome new
  more-home i f is = subst (λ n. IsHome n f.key i) (sym to.same_length) (elim (more-stands i f is) [
    | inl was ↦ sound.home i f was
    | inr here ↦ subst (λ k. IsHome (length old) f.key k) (sym here.0) (subst (λ (x : Entry). IsHome (length old) x.key place) here.1 free.vacant.home)
  ])

  more-front : AreInFront new
  more-front i j lt same none =
      let away : i ≢ place = λ here. none-some e (sym none ∙ ap (λ k. get_or new k None) here ∙ to.there) in
      let was : get_or old i None ≡ None = sym (to.others i away) ∙ none in
      elim (cases_eq j place) [
        | inl here ↦ absurd (free.taken i (omega (arith, lt, here)) (same ∙ ap (λ k. k / 8) here) was)
        | inr other ↦ to.others j other ∙ sound.front i j lt same was
      ]

  more-apart : AreApart new
  more-apart i j f g is_f is_g same = elim (more-stands i f is_f) [
    | inl was_f ↦ elim (more-stands j g is_g) [
      | inl was_g ↦ sound.apart i j f g was_f was_g same
      | inr here_g ↦ absurd (nowhere i f was_f (same ∙ ap (λ (x : Entry). x.key) (sym here_g.1)))
    ]
    | inr here_f ↦ elim (more-stands j g is_g) [
      | inl was_g ↦ absurd (nowhere j g was_g (sym same ∙ ap (λ (x : Entry). x.key) (sym here_f.1)))
      | inr here_g ↦ here_f.0 ∙ sym here_g.0
    ]
  ]

  more-once : (i : ℕ) (f : Entry) → HasAt new i f → value_at over f.key ≡ None
  more-once i f is = elim (more-stands i f is) [
    | inl was ↦ sound.once i f was
    | inr here ↦ ap (λ (x : Entry). value_at over x.key) (sym here.1) ∙ sym (all-none old over e.key (all-nowhere old over e.key absent)) ∙ absent
  ]

  pub more-sound : AreSound new over
  more-sound = record { home = more-home; front = more-front; apart = more-apart; once = more-once }

  pub more-puts : Puts (all_in old over) (all_in new over) e.key (Some e.value)
  more-puts other = elim (cases_eq other e.key) [
    | inl same ↦ rw (eq-eqb other e.key same) (all-some new over other e.value (ap (vals new) same ∙ stands-some new more-apart place e to.there))
    | inr away ↦ rw (ne_eqb other e.key away) (all-both new over other ∙ ap (λ o. either o (value_at over other)) (same-vals old new other more-apart (λ i f key is. more-keeps i f is) (λ i f key is. elim (more-stands i f is) [
      | inl was ↦ was
      | inr here ↦ absurd (away (sym key ∙ ap (λ (x : Entry). x.key) (sym here.1)))
    ])) ∙ sym (all-both old over other))
  ]

-- ---- an entry less, and the last one of its bucket in its place

-- the places of a bucket
pub home-beside : (count key a b : ℕ) → a / 8 ≡ b / 8 → IsHome count key a → IsHome count key b
unfolding bucket_of
home-beside count key a b same home = let from = home.from in let to = home.to in record { from = omega (arith, same, from, to); to = omega (arith, same, from, to) }

pub home-same : (count key a b : ℕ) → IsHome count key a → IsHome count key b → a / 8 ≡ b / 8
unfolding bucket_of
home-same count key a b one other = let from_a = one.from in let to_a = one.to in let from_b = other.from in let to_b = other.to in omega (arith, from_a, to_a, from_b, to_b)

module _ (old new : List (Option Entry)) (place last : ℕ) (e : Entry) (over : List Entry) (to : IsClosed old new place last) (sound : AreSound old over) (there : HasAt old place e) (end : IsLast old e.key last) where
  beside : place / 8 ≡ last / 8
  beside = home-same (length old) e.key place last (sound.home place e there) end.home

  in-order : place ≤ last
  in-order = elim (cases_lt last place) [
    | inl lt ↦ absurd (none-some e (sym (end.behind place lt beside) ∙ there))
    | inr le ↦ le
  ]

  -- where an entry stood
  origin : (i : ℕ) (f : Entry) → HasAt new i f → (i ≢ last) × (((i ≡ place) × HasAt old last f) ⊎ ((i ≢ place) × HasAt old i f))
  origin i f is =
      let differs : i ≢ last = λ here. none-some f (sym to.gone ∙ ap (λ k. get_or new k None) (sym here) ∙ is) in
      elim (cases_eq i place) [
        | inl here ↦ (differs, inl (here, sym (to.moved (λ same. differs (here ∙ same))) ∙ ap (λ k. get_or new k None) (sym here) ∙ is))
        | inr away ↦ (differs, inr (away, sym (to.others i away differs) ∙ is))
      ]

  -- where it stands now
  stays : (j : ℕ) (f : Entry) → HasAt old j f → j ≢ place → (i : ℕ) × HasAt new i f
  stays j f is away = elim (cases_eq j last) [
    | inl here ↦ (place, to.moved (λ same. away (here ∙ sym same)) ∙ ap (λ k. get_or old k None) (sym here) ∙ is)
    | inr differs ↦ (j, to.others j away differs ∙ is)
  ]

  closed-home : AreHome new
  closed-home i f is = subst (λ n. IsHome n f.key i) (sym to.same_length) (elim (origin i f is).1 [
    | inl moved ↦ subst (IsHome (length old) f.key) (sym moved.0) (home-beside (length old) f.key last place (sym beside) (sound.home last f moved.1))
    | inr kept ↦ sound.home i f kept.1
  ])

  closed-apart : AreApart new
  closed-apart i j f g is_f is_g same =
      let a = origin i f is_f in
      let b = origin j g is_g in
      elim a.1 [
        | inl m ↦ elim b.1 [
          | inl n ↦ m.0 ∙ sym n.0
          | inr n ↦ absurd (b.0 (sym (sound.apart last j f g m.1 n.1 same)))
        ]
        | inr m ↦ elim b.1 [
          | inl n ↦ absurd (a.0 (sound.apart i last f g m.1 n.1 same))
          | inr n ↦ sound.apart i j f g m.1 n.1 same
        ]
      ]

  -- a place that is free now was it, unless it is the last
  was-free : (i : ℕ) → i ≢ last → get_or new i None ≡ None → (i ≢ place) × (get_or old i None ≡ None)
  was-free i differs none = elim (cases_eq i place) [
    | inl here ↦ absurd (end.filled (sym (to.moved (λ same. differs (here ∙ same))) ∙ ap (λ k. get_or new k None) (sym here) ∙ none))
    | inr away ↦ (away, sym (to.others i away differs) ∙ none)
  ]

  closed-front : AreInFront new
  closed-front i j lt same none = elim (cases_eq j last) [
    | inl here ↦ ap (λ k. get_or new k None) here ∙ to.gone
    | inr differs ↦ elim (cases_eq i last) [
      | inl at ↦
          let later : last < j = omega (arith, lt, at) in
          let away : j ≢ place = λ here. omega (arith, later, here, in-order) in
          to.others j away differs ∙ end.behind j later (sym same ∙ ap (λ k. k / 8) at)
      | inr off ↦
          let was = was-free i off none in
          let next = sound.front i j lt same was.1 in
          let away : j ≢ place = λ here. none-some e (sym next ∙ ap (λ k. get_or old k None) here ∙ there) in
          to.others j away differs ∙ next
    ]
  ]

  closed-once : (i : ℕ) (f : Entry) → HasAt new i f → value_at over f.key ≡ None
  closed-once i f is = elim (origin i f is).1 [
    | inl moved ↦ sound.once last f moved.1
    | inr kept ↦ sound.once i f kept.1
  ]

  pub closed-sound : AreSound new over
  closed-sound = record { home = closed-home; front = closed-front; apart = closed-apart; once = closed-once }

  closed-nowhere : HasNowhere new e.key
  closed-nowhere i f is = λ same. let was = origin i f is in elim was.1 [
    | inl moved ↦ was.0 (moved.0 ∙ sym (sound.apart last place f e moved.1 there same))
    | inr kept ↦ kept.0 (sound.apart i place f e kept.1 there same)
  ]

  pub closed-puts : Puts (all_in old over) (all_in new over) e.key None
  closed-puts other = elim (cases_eq other e.key) [
    | inl same ↦ rw (eq-eqb other e.key same) (ap (value_at (all_in new over)) same ∙ nowhere-all new over e.key closed-nowhere ∙ sound.once place e there)
    | inr away ↦ rw (ne_eqb other e.key away) (all-both new over other ∙ ap (λ o. either o (value_at over other)) (same-entries old new other closed-apart
        (λ i f key is. stays i f is (λ here. away (sym key ∙ ap (λ (x : Entry). x.key) (same_Some f e (sym is ∙ ap (λ k. get_or old k None) here ∙ there)))))
        (λ i f key is. elim (origin i f is).1 [
          | inl moved ↦ (last, moved.1)
          | inr kept ↦ (i, kept.1)
        ])) ∙ sym (all-both old over other))
  ]

  -- the last place is the first free one now
  pub closed-next : IsNextFor new e.key last
  closed-next = record {
    vacant = record {
      in_range = subst (λ n. last < n) (sym to.same_length) end.in_range;
      free = to.gone;
      home = subst (λ n. IsHome n e.key last) (sym to.same_length) end.home;
    };
    taken = λ k lt same none. end.filled (sound.front k last lt same (was-free k (λ here. omega (arith, lt, here)) none).1);
  }

  closed-free : (key k : ℕ) → k ≢ last → IsFreeFor new key k → IsFreeFor old key k
  closed-free key k away free = record {
    in_range = subst (λ n. k < n) to.same_length free.in_range;
    free = (was-free k away free.free).1;
    home = subst (λ n. IsHome n key k) to.same_length free.home;
  }

  -- of a bucket that was full
  pub closed-hole : ArePacked old over → ArePackedBut new over last
  closed-hole packed key k away free = packed key k (closed-free key k away free)

  -- of a bucket that had a free place
  pub closed-packed : (spare : ℕ) → IsFreeFor old e.key spare → ArePacked old over → ArePacked new over
  closed-packed spare vacant packed key k free = elim (cases_eq k last) [
    | inr away ↦ packed key k (closed-free key k away free)
    | inl here ↦
        let home : IsHome (length old) key last = subst (λ n. IsHome n key last) to.same_length (subst (IsHome (length new) key) here free.home) in
        packed key spare (record { in_range = vacant.in_range; free = vacant.free; home = home-beside (length old) key last spare (home-same (length old) e.key last spare end.home vacant.home) home })
  ]

-- ---- the last entry of a bucket

module _ (ps : List (Option Entry)) (over : List Entry) (key place : ℕ) (sound : AreSound ps over) (has : HasKey ps key place) where
  key-home : IsHome (length ps) key place
  key-home = let there = has-stands ps key place has in subst (λ k. IsHome (length ps) k place) there.2 (sound.home place there.0 there.1)

  key-taken : get_or ps place None ≢ None
  key-taken none = let there = has-stands ps key place has in none-some there.0 (sym none ∙ there.1)

  module _ (free : ℕ) (next : IsNextFor ps key free) where
    pub before-free : place < free
    before-free = elim (cases_lt place free) [
      | inl lt ↦ lt
      | inr le ↦ elim (cases_eq free place) [
        | inl same ↦ absurd (key-taken (ap (λ k. get_or ps k None) (sym same) ∙ next.vacant.free))
        | inr differ ↦ absurd (key-taken (sound.front free place (omega (arith, le, differ)) (home-same (length ps) key free place next.vacant.home key-home) next.vacant.free))
      ]
    ]

    pub last-before : IsLast ps key (free - 1)
    last-before =
        let lt = before-free in
        let inside = next.vacant.in_range in
        let from = key-home.from in
        let to = next.vacant.home.to in
        let home : IsHome (length ps) key (free - 1) = record { from = omega (arith, lt, from); to = omega (arith, to) } in
        let beside = home-same (length ps) key (free - 1) free home next.vacant.home in
        record {
          in_range = omega (arith, inside);
          home = home;
          filled = next.taken (free - 1) (omega (arith, lt)) beside;
          behind = λ k more same. elim (cases_eq k free) [
            | inl here ↦ ap (λ i. get_or ps i None) here ∙ next.vacant.free
            | inr differ ↦ sound.front free k (omega (arith, more, differ, lt)) (sym beside ∙ sym same) next.vacant.free
          ];
        }

  module _ (full : IsFull ps key) (end : ℕ) (bound : end ≤ length ps) (short : end ≤ bucket_of (length ps) key + 8) (whole : (k : ℕ) → k < bucket_of (length ps) key + 8 → k < length ps → k < end) where
    pub before-end : place < end
    before-end = let there = has-stands ps key place has in whole place key-home.to (stands-inside ps place there.0 there.1)

    pub last-full : IsLast ps key (end - 1)
    last-full =
        let lt = before-end in
        let from = key-home.from in
        let home : IsHome (length ps) key (end - 1) = record { from = omega (arith, lt, from); to = omega (arith, lt, short) } in
        let inside : end - 1 < length ps = omega (arith, lt, bound) in
        record {
          in_range = inside;
          home = home;
          filled = full (end - 1) inside home;
          behind = λ k more same. by-cases k more (home-beside (length ps) key (end - 1) k (sym same) home) (get_or ps k None) refl;
        } where
          by-cases : (k : ℕ) → end - 1 < k → IsHome (length ps) key k → (o : Option Entry) → get_or ps k None ≡ o → o ≡ None
          by-cases k more home None is = refl
          by-cases k more home (Some f) is = let under = whole k home.to (stands-inside ps k f is) in absurd (omega (arith, more, under))

-- ---- a change of the overflow

module _ (ps : List (Option Entry)) (old new : List Entry) (key : ℕ) (value : Option ℕ) (nowhere : HasNowhere ps key) (puts : Puts old new key value) where
  pub overflow-puts : Puts (all_in ps old) (all_in ps new) key value
  overflow-puts other = elim (cases_eq other key) [
    | inl same ↦ rw (eq-eqb other key same) (all-none ps new other (ap (vals ps) same ∙ nowhere-none ps key nowhere) ∙ puts other ∙ ap (λ b. cond b value (value_at old other)) (eq-eqb other key same))
    | inr away ↦ rw (ne_eqb other key away) (all-both ps new other ∙ ap (either (vals ps other)) (puts other ∙ ap (λ b. cond b value (value_at old other)) (ne_eqb other key away)) ∙ sym (all-both ps old other))
  ]

  pub overflow-sound : AreSound ps old → AreSound ps new
  overflow-sound sound = record {
    home = sound.home;
    front = sound.front;
    apart = sound.apart;
    once = λ i e is. puts e.key ∙ ap (λ b. cond b value (value_at old e.key)) (ne_eqb e.key key (nowhere i e is)) ∙ sound.once i e is;
  }

-- ---- all entries in other places

pub moved-none : (old new : List (Option Entry)) → ((k : ℕ) → get_or new k None ≡ None) → IsMoved old 0 new
moved-none old new free = record {
  sound = record {
    home = λ i e is. absurd (none-some e (sym (free i) ∙ is));
    front = λ i j lt same none. free j;
    apart = λ i j e f is_e is_f same. absurd (none-some e (sym (free i) ∙ is_e));
    once = λ i e is. refl;
  };
  to = λ i e lt is. absurd (omega arith);
  from = λ i e is. absurd (none-some e (sym (free i) ∙ is));
}

pub moved-step : (old new next : List (Option Entry)) (count : ℕ) (o : Option Entry) → AreApart old → get_or old count None ≡ o → IsCopied o new next → IsMoved old count new → IsMoved old (count + 1) next
moved-step old new next count None apart is copied moved = subst (IsMoved old (count + 1)) (sym copied) (record {
  sound = moved.sound;
  to = λ i e lt stands. elim (cases_eq i count) [
    | inl here ↦ absurd (none-some e (sym is ∙ ap (λ k. get_or old k None) (sym here) ∙ stands))
    | inr away ↦ moved.to i e (omega arith) stands
  ];
  from = λ i e stands. let was = moved.from i e stands in (was.0, omega (arith, was.1), was.2);
})
moved-step old new next count (Some e) apart is copied moved =
    let place = copied.0 in
    let free = copied.1 in
    let to = copied.2 in
    let nowhere : HasNowhere new e.key = λ i f stands same. let was = moved.from i f stands in let one = apart was.0 count f e was.2 is same in omega (arith, was.1, one) in
    let absent = nowhere-all new [] e.key nowhere in
    record {
      sound = more-sound new next place e [] to moved.sound free absent;
      to = λ i f lt stands. elim (cases_eq i count) [
        | inl here ↦ (place, to.there ∙ ap Some (same_Some e f (sym is ∙ ap (λ k. get_or old k None) (sym here) ∙ stands)))
        | inr away ↦ let now = moved.to i f (omega arith) stands in (now.0, more-keeps new next place e [] to moved.sound free absent now.0 f now.1)
      ];
      from = λ i f stands. elim (more-stands new next place e [] to moved.sound free absent i f stands) [
        | inl was ↦ let before = moved.from i f was in (before.0, omega (arith, before.1), before.2)
        | inr here ↦ (count, omega arith, is ∙ ap Some here.1)
      ];
    }

module _ (old new : List (Option Entry)) (over : List Entry) (same : HaveSame old new) (sound : AreSound old over) where
  pub same-sound : AreSound new over
  same-sound = record {
    home = same.sound.home;
    front = same.sound.front;
    apart = same.sound.apart;
    once = λ i e is. let was = same.from i e is in sound.once was.0 e was.2;
  }

  pub same-all : (key : ℕ) → value_at (all_in new over) key ≡ value_at (all_in old over) key
  same-all key = all-both new over key ∙ ap (λ o. either o (value_at over key)) (same-entries old new key same.sound.apart
      (λ i e at is. same.to i e (stands-inside old i e is) is)
      (λ i e at is. let was = same.from i e is in (was.0, was.2))) ∙ sym (all-both old over key)

-- ---- an entry of the overflow goes into a place

module _ (old new : List (Option Entry)) (place key value : ℕ) (before after : List Entry) (free : IsNextFor old key place) (to : IsSetTo old new place (Some (record { key = key; value = value }))) (there : value_at before key ≡ Some value) (puts : Puts before after key None) (sound : AreSound old before) where
  lift-nowhere : HasNowhere old key
  lift-nowhere i e is same = none-some value (sym (sound.once i e is) ∙ ap (value_at before) same ∙ there)

  without : AreSound old after
  without = overflow-sound old before after key None lift-nowhere puts sound

  without-puts : Puts (all_in old before) (all_in old after) key None
  without-puts = overflow-puts old before after key None lift-nowhere puts

  without-absent : value_at (all_in old after) key ≡ None
  without-absent = without-puts key ∙ ap (λ b. cond b None (value_at (all_in old before) key)) (eq-eqb key key refl)

  pub lift-sound : AreSound new after
  lift-sound = more-sound old new place (record { key = key; value = value }) after to without free without-absent

  pub lift-same : (other : ℕ) → value_at (all_in new after) other ≡ value_at (all_in old before) other
  lift-same other =
      let now = more-puts old new place (record { key = key; value = value }) after to without free without-absent other in
      elim (cases_eq other key) [
        | inl here ↦ now ∙ ap (λ b. cond b (Some value) (value_at (all_in old after) other)) (eq-eqb other key here) ∙ sym (ap (value_at (all_in old before)) here ∙ nowhere-all old before key lift-nowhere ∙ there)
        | inr away ↦ now ∙ ap (λ b. cond b (Some value) (value_at (all_in old after) other)) (ne_eqb other key away) ∙ without-puts other ∙ ap (λ b. cond b None (value_at (all_in old before) other)) (ne_eqb other key away)
      ]

-- ---- what is packed

-- of a value that may be there: there is none, or it is another than none
pub none-or : (o : Option ℕ) → (o ≡ None) ⊎ (o ≢ None)
none-or None = inl refl
none-or (Some v) = inr (λ none. none-some v (sym none))

-- the places that two keys may have are the same, where they have one in common
pub same-bucket : (count a b place : ℕ) → IsHome count a place → IsHome count b place → bucket_of count a ≡ bucket_of count b
unfolding bucket_of
same-bucket count a b place one other =
    let from_a = one.from in let to_a = one.to in let from_b = other.from in let to_b = other.to in omega (arith, from_a, to_a, from_b, to_b)

-- an entry more leaves no other place free
pub set-free : (old new : List (Option Entry)) (place : ℕ) (value : Option Entry) → IsSetTo old new place value → (key k : ℕ) → k ≢ place → IsFreeFor new key k → IsFreeFor old key k
set-free old new place value to key k away free = record {
  in_range = subst (λ n. k < n) to.same_length free.in_range;
  free = sym (to.others k away) ∙ free.free;
  home = subst (λ n. IsHome n key k) to.same_length free.home;
}

pub taken-away : (new : List (Option Entry)) (place key k : ℕ) → get_or new place None ≢ None → IsFreeFor new key k → k ≢ place
taken-away new place key k taken free = λ same. taken (ap (λ i. get_or new i None) (sym same) ∙ free.free)

pub full-free : (ps : List (Option Entry)) (key place : ℕ) {P : Type 0} → IsFull ps key → IsFreeFor ps key place → P
full-free ps key place full free = absurd (full place free.in_range free.home free.free)

pub add-packed : (old new : List (Option Entry)) (place : ℕ) (e : Entry) (over : List Entry) → IsSetTo old new place (Some e) → ArePacked old over → ArePacked new over
add-packed old new place e over to packed key k free =
    packed key k (set-free old new place (Some e) to key k (taken-away new place key k (λ none. none-some e (sym none ∙ to.there)) free) free)

pub over-packed : (ps : List (Option Entry)) (old new : List Entry) (key : ℕ) (value : Option ℕ) → IsFull ps key → Puts old new key value → ArePacked ps old → ArePacked ps new
over-packed ps old new key value full puts packed other k free = elim (cases_eq other key) [
  | inl same ↦ full-free ps key k full (subst (λ n. IsFreeFor ps n k) same free)
  | inr away ↦ puts other ∙ ap (λ b. cond b value (value_at old other)) (ne_eqb other key away) ∙ packed other k free
]

pub fewer-packed : (ps : List (Option Entry)) (old new : List Entry) (key : ℕ) → Puts old new key None → ArePacked ps old → ArePacked ps new
fewer-packed ps old new key puts packed other k free = elim (cases_eq other key) [
  | inl same ↦ puts other ∙ ap (λ b. cond b None (value_at old other)) (eq-eqb other key same)
  | inr away ↦ puts other ∙ ap (λ b. cond b None (value_at old other)) (ne_eqb other key away) ∙ packed other k free
]

pub refilled-packed : (old new : List (Option Entry)) (before after : List Entry) (hole : ℕ) → IsFilled old new before after → get_or new hole None ≢ None → ArePackedBut old before hole → ArePacked new after
refilled-packed old new before after hole filled taken packed k i free = filled.fewer k (packed k i (taken-away new hole k i taken free) (filled.free k i free))

-- no entry of the overflow belongs to the bucket of the hole
pub unwanted-packed : (ps : List (Option Entry)) (over : List Entry) (hole key : ℕ) → IsFreeFor ps key hole → ((other : ℕ) → value_at over other ≢ None → bucket_of (length ps) other ≢ bucket_of (length ps) key) → ArePackedBut ps over hole → ArePacked ps over
unwanted-packed ps over hole key at others packed k i free = elim (cases_eq i hole) [
  | inr away ↦ packed k i away free
  | inl here ↦ elim (none-or (value_at over k)) [
    | inl none ↦ none
    | inr has ↦ absurd (others k has (same-bucket (length ps) k key hole (subst (λ j. IsHome (length ps) k j) here free.home) at.home))
  ]
]

-- ---- an order of buckets

pub bucket-order : (count a b : ℕ) → spread a ≤ spread b → bucket_of count a ≤ bucket_of count b
unfolding bucket_of
bucket-order count a b le =
    let more = mul-le-mul_right (min (count / 8) 16777216) le in omega (arith, more)

-- where the next entry has a bucket behind, none has this one
pub behind-unwanted : (count bucket from key : ℕ) (over : List Entry) → ((k : ℕ) → number k < from → bucket_of count k < bucket) → IsNext over from key → bucket < bucket_of count key → (other : ℕ) → value_at over other ≢ None → bucket_of count other ≢ bucket
behind-unwanted count bucket from key over before next lt other has same = elim (cases_lt (number other) from) [
  | inl below ↦ let less = before other below in omega (arith, less, same)
  | inr above ↦ let more = bucket-order count key other (next.side other has above) in omega (arith, more, lt, same)
]

pub past-unwanted : (count bucket from : ℕ) (over : List Entry) → ((k : ℕ) → number k < from → bucket_of count k < bucket) → IsPast over from → (other : ℕ) → value_at over other ≢ None → bucket_of count other ≢ bucket
past-unwanted count bucket from over before past other has same = let less = before other (past other has) in omega (arith, less, same)

-- ---- a walk through the overflow

pub past-packed : (ps : List (Option Entry)) (over : List Entry) (from : ℕ) → ArePackedBelow ps over from → IsPast over from → ArePacked ps over
past-packed ps over from below past key place free = elim (none-or (value_at over key)) [
  | inl none ↦ none
  | inr has ↦ below key place (past key has) free
]

pub next-packed : (old new : List (Option Entry)) (before after : List Entry) (from key : ℕ) → ArePackedBelow old before from → IsNext before from key → IsFilled old new before after → ((place : ℕ) → IsFreeFor new key place → value_at after key ≡ None) → ArePackedBelow new after (number key + 1)
next-packed old new before after from key below next filled settled k place lt free = elim (cases_eq k key) [
  | inl same ↦ ap (value_at after) same ∙ settled place (subst (λ n. IsFreeFor new n place) same free)
  | inr differ ↦ filled.fewer k (elim (cases_lt (number k) from) [
    | inl under ↦ below k place under (filled.free k place free)
    | inr above ↦ elim (none-or (value_at before k)) [
      | inl none ↦ none
      | inr has ↦ let more = next.least k has above differ in absurd (omega (arith, more, lt))
    ]
  ])
]

pub on-true : {P Q : Type 0} (b : Bool) → (P → Q) → OnTrue b P → OnTrue b Q
on-true true f p = f p
on-true false f p = tt

pub set-to : (ps : List (Option Entry)) (place : ℕ) (value : Option Entry) (e : Entry) → place < length ps → value ≡ Some e → IsSetTo ps (set ps place value) place (Some e)
set-to ps place value e inside is = record {
  same_length = length-set ps place value;
  there = get_or-set_same ps place value None inside ∙ is;
  others = λ k away. get_or-set_other ps place k value None away;
}

-- what a search among the places of a bucket says of all
pub search-nowhere : (ps : List (Option Entry)) (key start stop end : ℕ) → AreHome ps → AreInFront ps → start ≡ bucket_of (length ps) key → start ≤ stop → stop < end → end ≤ start + 8 → end ≤ length ps → get_or ps stop None ≡ None
    → ((k : ℕ) (e : Entry) → start ≤ k → k < stop → HasAt ps k e → e.key ≢ key) → IsFreeFor ps key stop × HasNowhere ps key
search-nowhere ps key start stop end homes front begin from to short bound free before =
    let home : IsHome (length ps) key stop = record { from = omega (arith, begin, from); to = omega (arith, begin, to, short) } in (
      record { in_range = omega (arith, to, bound); free = free; home = home },
      λ k e is same.
          let own : IsHome (length ps) key k = subst (λ n. IsHome (length ps) n k) same (homes k e is) in
          let own_from = own.from in
          elim (cases_lt k stop) [
            | inl lt ↦ before k e (omega (arith, begin, own_from)) lt is same
            | inr le ↦ elim (cases_eq stop k) [
              | inl here ↦ none-some e (sym free ∙ ap (λ i. get_or ps i None) here ∙ is)
              | inr differ ↦ none-some e (sym (front stop k (omega (arith, le, differ)) (home-same (length ps) key stop k home own) free) ∙ is)
            ]
          ],
    )

pub next-for : (ps : List (Option Entry)) (key start free end : ℕ) → start ≡ bucket_of (length ps) key → start ≤ free → free < end → end ≤ start + 8 → end ≤ length ps → get_or ps free None ≡ None
    → ((k : ℕ) → start ≤ k → k < free → get_or ps k None ≢ None) → IsNextFor ps key free
next-for ps key start free end begin from to short bound none before =
    let home : IsHome (length ps) key free = record { from = omega (arith, begin, from); to = omega (arith, begin, to, short) } in
    record {
      vacant = record { in_range = omega (arith, to, bound); free = none; home = home };
      taken = λ k lt same. let own = home-beside (length ps) key free k (sym same) home in let own_from = own.from in before k (omega (arith, begin, own_from)) lt;
    }

-- what a search behind a key says of the whole bucket
module _ (ps : List (Option Entry)) (key place start end : ℕ) (homes : AreHome ps) (front : AreInFront ps) (has : HasKey ps key place) (begin : start ≡ bucket_of (length ps) key) where
  here-home : IsHome (length ps) key place
  here-home = let there = has-stands ps key place has in subst (λ k. IsHome (length ps) k place) there.2 (homes place there.0 there.1)

  -- no place up to this one is free
  taken-before : (k : ℕ) → k ≤ place → k / 8 ≡ place / 8 → get_or ps k None ≢ None
  taken-before k le same none =
      let there = has-stands ps key place has in
      none-some there.0 (sym (elim (cases_eq k place) [
        | inl here ↦ ap (λ i. get_or ps i None) (sym here) ∙ none
        | inr away ↦ front k place (omega (arith, le, away)) same none
      ]) ∙ there.1)

  pub next-behind : (free : ℕ) → place + 1 ≤ free → free < end → end ≤ start + 8 → end ≤ length ps → get_or ps free None ≡ None
      → ((k : ℕ) → place + 1 ≤ k → k < free → get_or ps k None ≢ None) → IsNextFor ps key free
  next-behind free from to short bound none between =
      let own_from = here-home.from in
      let home : IsHome (length ps) key free = record { from = omega (arith, from, own_from); to = omega (arith, begin, to, short) } in
      let beside = home-same (length ps) key free place home here-home in
      record {
        vacant = record { in_range = omega (arith, to, bound); free = none; home = home };
        taken = λ k lt same. elim (cases_lt place k) [
          | inl more ↦ between k (omega (arith, more)) lt
          | inr le ↦ taken-before k le (same ∙ beside)
        ];
      }

  pub full-behind : ((k : ℕ) → k < start + 8 → k < length ps → k < end) → ((k : ℕ) → place + 1 ≤ k → k < end → get_or ps k None ≢ None) → IsFull ps key
  full-behind whole between k inside home = elim (cases_lt place k) [
    | inl more ↦ let to = home.to in between k (omega (arith, more)) (whole k (omega (arith, begin, to)) inside)
    | inr le ↦ taken-before k le (home-same (length ps) key k place home here-home)
  ]

pub closed-is : (ps : List (Option Entry)) (place last : ℕ) (value : Option Entry) → place < length ps → last < length ps → value ≡ get_or ps last None → IsClosed ps (set (set ps place value) last None) place last
closed-is ps place last value inside in_range is = record {
  same_length = length-set (set ps place value) last None ∙ length-set ps place value;
  gone = get_or-set_same (set ps place value) last None None (subst (λ n. last < n) (sym (length-set ps place value)) in_range);
  moved = λ differ. get_or-set_other (set ps place value) last place None None differ ∙ get_or-set_same ps place value None inside ∙ is;
  others = λ k away differs. get_or-set_other (set ps place value) last k None None differs ∙ get_or-set_other ps place k value None away;
}

pub ends-inside : (ps : List (Option Entry)) (key place : ℕ) → EndsSearch ps key place → place < length ps
ends-inside ps key place ends = elim ends [
  | inl has ↦ let there = has-stands ps key place has in stands-inside ps place there.0 there.1
  | inr free ↦ free.0.in_range
]

pub found-value : (ps : List (Option Entry)) (over : List Entry) (key place : ℕ) → AreSound ps over → EndsSearch ps key place → (v : ℕ) → option_map (λ (e : Entry). e.value) (get_or ps place None) ≡ Some v → Some v ≡ value_at (all_in ps over) key
found-value ps over key place sound ends v is = elim ends [
  | inl has ↦ sym is ∙ found-all ps over sound key place has
  | inr free ↦ absurd (none-some v (sym (ap (option_map (λ (e : Entry). e.value)) free.0.free) ∙ is))
]

pub missed : (ps : List (Option Entry)) (key place : ℕ) → EndsSearch ps key place → option_map (λ (e : Entry). e.value) (get_or ps place None) ≡ None → IsFreeFor ps key place × HasNowhere ps key
missed ps key place ends is = elim ends [
  | inl has ↦ let there = has-stands ps key place has in absurd (none-some there.0.value (sym is ∙ ap (option_map (λ (e : Entry). e.value)) there.1))
  | inr free ↦ free
]

-- what is taken out by its key
module _ (old new : List (Option Entry)) (over : List Entry) (key place last : ℕ) (to : IsClosed old new place last) (sound : AreSound old over) (has : HasKey old key place) (end : IsLast old key last) where
  abbrev entry : Entry
  entry = (has-stands old key place has).0

  there : HasAt old place entry
  there = (has-stands old key place has).1

  own : entry.key ≡ key
  own = (has-stands old key place has).2

  its-end : IsLast old entry.key last
  its-end = subst (λ k. IsLast old k last) (sym own) end

  pub taken-sound : AreSound new over
  taken-sound = closed-sound old new place last entry over to sound there its-end

  pub taken-puts : Puts (all_in old over) (all_in new over) key None
  taken-puts = subst (λ k. Puts (all_in old over) (all_in new over) k None) own (closed-puts old new place last entry over to sound there its-end)

  pub taken-next : IsNextFor new key last
  taken-next = subst (λ k. IsNextFor new k last) own (closed-next old new place last entry over to sound there its-end)

  pub taken-packed : (spare : ℕ) → IsFreeFor old key spare → ArePacked old over → ArePacked new over
  taken-packed spare vacant packed = closed-packed old new place last entry over to sound there its-end spare (subst (λ k. IsFreeFor old k spare) (sym own) vacant) packed
