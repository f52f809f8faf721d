-- The entry of a change, as the table tells it.
use Rattle.std.proofs.Common.{◌≡◌, ◌≢◌, ◌<◌, ◌≤◌, ◌+◌, arith, inr, inl, ◌++◌, ℕ, List, [], ◌∷◌, Option, Some, None, true, get_or, bit_or, refl, sym, ap, subst, ◌∙◌}
use Rattle.std.specs.Prelude.{find}
use Rattle.std.proofs.lemmas.Bool.{cases_lt}
use Rattle.std.proofs.lemmas.Option.{same_Some}
use Rattle.packet.specs.Config.{Pool}
use Rattle.sessions.specs.declared.session.Session.{Session}
use Rattle.sessions.specs.Life.{IsSeen}
use Rattle.sessions.specs.Listing.{Rises, key, listing, put, same_flow}
use Rattle.sessions.specs.declared.session.Change as changes
use Rattle.sessions.specs.declared.session.Change.TheVariants as change
use Rattle.sessions.specs.Stilled.{stilled}
use Rattle.sessions.specs.Table.{AnyClash, IsSoundTable}
use Rattle.sessions.proofs.LifeLemmas.{IsSeen-or}
use Rattle.sessions.proofs.Puts.{find-is, find-none, flow-keys, has_inside-true, keys-flow}
use Rattle.sessions.proofs.Sets.{Apart, Apart-sound, In-listing, Rises-listing, listing-In}
use Rattle.sessions.proofs.Stilled.{one-of-key}
use Rattle.hairpin.specs.Plans.{Gives, GivesThen, GiveAll, IsApart, IsOf, MayBegin}
use Rattle.durable.specs.Coding.{Begin, Entry}
use Rattle.machine.specs.Flows.{adds, adds_second}
use Rattle.machine.specs.Noted.{between, entries_for, entries_for_all, entries_making}
use Rattle.machine.specs.Sizes.{bytes_of}
use Rattle.machine.proofs.Costs.{bytes_of-one, bytes_of-two, noted-few}
use Rattle.machine.proofs.Later.{HasSuccessor, change-leads}

-- ---- what a table holds

module _ (held : List (Option Session)) (apart : Apart held) where
  rises : Rises (listing held)
  rises = Rises-listing held apart

  pub noted-held : (slot : ℕ) (s t : Session) → get_or held slot None ≡ Some s → same_flow t s ≡ true → entries_for (listing held) t ≡ between s t
  noted-held slot s t is own =
      let in_s = listing-In held s slot is in
      ap (λ o. entries_making o t) (find-is (same_flow t) (listing held) s in_s own (λ u in_u h. one-of-key (listing held) rises u s in_u in_s (flow-keys t u h ∙ sym (flow-keys t s own))))

  pub noted-new : (t : Session) → ¬ AnyClash held t → entries_for (listing held) t ≡ Begin (stilled t) ∷ []
  noted-new t free =
      ap (λ o. entries_making o t) (find-none (same_flow t) (listing held) (λ u in_u h.
      let at = In-listing held u in_u in
      free (record { place = at.0; held = u; is_held = at.1; clash = inl (has_inside-true t.proto t.inside t.remote u h) })))

  pub begin-told : (external : Pool) (now : ℕ) (s t : Session) → Gives external held now (change.Begin s) t → Begin (stilled s) ∷ [] ≡ entries_for (listing held) t
  begin-told external now s t gives =
      let may : MayBegin external held now t = subst (MayBegin external held now) gives.0 gives.1 in
      ap (λ u. Begin (stilled u) ∷ []) gives.0 ∙ sym (noted-new t may.apart)

  -- what is made of a session that is held, under its own key
  pub made-told : (make : Session → Session) → ((s : Session) → key (make s) ≡ key s) → (slot : ℕ) (s t : Session) → get_or held slot None ≡ Some s
      → (x : Session) → get_or held slot None ≡ Some x → t ≡ make x → between s (make s) ≡ entries_for (listing held) t
  made-told make own slot s t is x at made =
      let t_is : make s ≡ t = ap make (same_Some s x (sym is ∙ at)) ∙ sym made in
      ap (between s) t_is ∙ sym (noted-held slot s t is (keys-flow t s (ap key (sym t_is) ∙ own s)))

-- what a change makes of a session has seen bits of its protocol
pub seen-fits : (external : Pool) (held : List (Option Session)) (now slot bits : ℕ) (s t : Session) → IsSoundTable held → get_or held slot None ≡ Some s
    → Gives external held now (change.Seen slot bits) t → IsSeen s.proto (bit_or s.seen bits)
seen-fits external held now slot bits s t sound is gives =
    let same : gives.0 ≡ s = same_Some gives.0 s (sym gives.1 ∙ is) in
    IsSeen-or s.proto s.seen bits (sound.seen slot s is) (subst (λ (u : Session). IsSeen u.proto bits) same gives.2)

-- the second change of a plan, told before the first is made
module _ (held : List (Option Session)) (apart : Apart held) (external : Pool) (now : ℕ) (first : changes.Change) (t : Session) (gives : Gives external held now first t) where
  leads : HasSuccessor held first t
  leads = change-leads external held now first t apart gives

  -- a session that is held, and that the first change leaves alone
  told-before : (slot : ℕ) (s u : Session) → (¬ IsOf first slot) × (x : Session) × (get_or held slot None ≡ Some x) → get_or leads.later slot None ≡ Some s → same_flow u s ≡ true
      → (get_or held slot None ≡ Some s) × (entries_for (put t (listing held)) u ≡ entries_for (listing held) u)
  told-before slot s u alone at own =
      let here = leads.became.kept slot alone.1 alone.2 alone.0 in
      let same : s ≡ alone.1 = same_Some s alone.1 (sym at ∙ here) in
      let was : get_or held slot None ≡ Some s = alone.2 ∙ ap Some (sym same) in
      (was, ap (λ ss. entries_for ss u) (sym leads.became.listing) ∙ noted-held leads.later leads.apart slot s u at own ∙ sym (noted-held held apart slot s u was own))

  -- so it gives the same session, and the same entry
  pub second-told : (second : changes.Change) (u : Session) → IsApart held first second → GivesThen external held now first t second u → ((s : Session) → second ≢ change.Begin s)
      → Gives external held now second u × (entries_for (put t (listing held)) u ≡ entries_for (listing held) u)
  second-told (change.Begin s) u alone then new = absurd (new s refl)
  second-told (change.Seen slot bits) u alone then new =
      let g = then leads.later leads.became in
      let told = told-before slot g.0 u (alone slot refl) g.1 (keys-flow u g.0 (ap key g.3)) in ((g.0, told.0, g.2, g.3), told.1)
  second-told (change.Restart slot opener) u alone then new =
      let g = then leads.later leads.became in
      let told = told-before slot g.0 u (alone slot refl) g.1 (keys-flow u g.0 (ap key g.2)) in ((g.0, told.0, g.2), told.1)

  -- one that begins makes an entry
  pub begun-told : (s u : Session) → GivesThen external held now first t (change.Begin s) u → entries_for (put t (listing held)) u ≡ Begin (stilled u) ∷ []
  begun-told s u then =
      let g = then leads.later leads.became in
      let may : MayBegin external leads.later now u = subst (MayBegin external leads.later now) g.0 g.1 in
      ap (λ ss. entries_for ss u) (sym leads.became.listing) ∙ noted-new leads.later leads.apart u may.apart

-- ---- whether there is one

pub cons≢nil : (x : Entry) (xs : List Entry) → x ∷ xs ≢ []
cons≢nil x xs e = absurd cc

some-behind : (es : List Entry) (x : Entry) (xs : List Entry) → es ++ x ∷ xs ≢ []
some-behind [] x xs e = absurd cc
some-behind (y ∷ ys) x xs e = absurd cc

-- a change that adds no session begins none
no_begin : (second : changes.Change) → adds second ≡ 0 → (s : Session) → second ≢ change.Begin s
no_begin second none s e = let one : adds second ≡ 1 = ap adds e in omega (arith, none, one)

-- a change that adds one begins it
begins-one : (second : changes.Change) → 0 < adds second → (s : Session) × (second ≡ change.Begin s)
begins-one (change.Begin s) some = (s, refl)
begins-one (change.Seen slot bits) some = absurd (omega (arith, some))
begins-one (change.Restart slot opener) some = absurd (omega (arith, some))

first-adds : (held : List (Option Session)) → Apart held → (external : Pool) (now : ℕ) (first : changes.Change) (t : Session) → Gives external held now first t → (more : List Entry)
    → entries_for (listing held) t ++ more ≡ [] → adds first ≡ 0
first-adds held apart external now (change.Begin s) t gives more none =
    absurd (some-behind [] (Begin (stilled s)) more (ap (λ es. es ++ more) (begin-told held apart external now s t gives) ∙ none))
first-adds held apart external now (change.Seen slot bits) t gives more none = refl
first-adds held apart external now (change.Restart slot opener) t gives more none = refl

-- what a plan with two changes tells, where the first makes no entry
module _ (held : List (Option Session)) (sound : IsSoundTable held) (external : Pool) (now : ℕ) (first second : changes.Change) (ts : List Session)
    (gives : GiveAll external held now first (Some second) ts) where
  second-so : adds second ≡ 0 → Gives external held now second gives.1 × (entries_for (put gives.0 (listing held)) gives.1 ≡ entries_for (listing held) gives.1)
  second-so none = second-told held (Apart-sound held sound) external now first gives.0 gives.2 second gives.1 gives.3 gives.4 (no_begin second none)

  pub second-gives : adds second ≡ 0 → Gives external held now second gives.1
  second-gives none = (second-so none).0

  both-noted : entries_for_all ts (listing held) ≡ entries_for (listing held) gives.0 ++ (entries_for (put gives.0 (listing held)) gives.1 ++ [])
  both-noted = ap (λ us. entries_for_all us (listing held)) gives.5

  pub begin-is-noted : 0 < adds second → entries_for_all ts (listing held) ≢ []
  begin-is-noted some none =
      let begins = begins-one second some in
      let then = subst (λ c. GivesThen external held now first gives.0 c gives.1) begins.1 gives.4 in
      let told = begun-told held (Apart-sound held sound) external now first gives.0 gives.2 begins.0 gives.1 then in
      some-behind (entries_for (listing held) gives.0) (Begin (stilled gives.1)) []
      (sym (ap (λ es. entries_for (listing held) gives.0 ++ (es ++ [])) told) ∙ sym both-noted ∙ none)

  pub both-told : adds second ≡ 0 → entries_for (listing held) gives.0 ≡ [] → entries_for_all ts (listing held) ≡ entries_for (listing held) gives.1 ++ []
  both-told none quiet =
      both-noted ∙ ap (λ es. es ++ (entries_for (put gives.0 (listing held)) gives.1 ++ [])) quiet
      ∙ ap (λ es. es ++ []) (second-so none).1

-- where no entry is made, no session begins
pub quiet-adds : (held : List (Option Session)) → IsSoundTable held → (external : Pool) (now : ℕ) (first : changes.Change) (second : Option changes.Change) (ts : List Session)
    → GiveAll external held now first second ts → entries_for_all ts (listing held) ≡ [] → adds first + adds_second second ≡ 0
quiet-adds held sound external now first None ts gives none =
    let one = first-adds held (Apart-sound held sound) external now first gives.0 gives.1 [] (sym (ap (λ us. entries_for_all us (listing held)) gives.2) ∙ none) in
    omega (arith, one)
quiet-adds held sound external now first (Some second) ts gives none =
    let one = first-adds held (Apart-sound held sound) external now first gives.0 gives.2 (entries_for (put gives.0 (listing held)) gives.1 ++ [])
    (sym (both-noted held sound external now first second ts gives) ∙ none) in
    elim (cases_lt 0 (adds second)) [ inl some ↦ absurd (begin-is-noted held sound external now first second ts gives some none) | inr le ↦ omega (arith, one, le) ]

pub nil-unless : (es : List Entry) → (es ≢ [] → ⊥) → es ≡ []
nil-unless [] h = refl
nil-unless (e ∷ es) h = absurd (h (λ q. absurd cc))

pub nil-before : (es more : List Entry) → es ++ more ≡ [] → es ≡ []
nil-before [] more none = refl
nil-before (e ∷ es) more none = absurd (cons≢nil e (es ++ more) none)

-- a plan makes few bytes of entries
pub plan-few : (external : Pool) (held : List (Option Session)) (now : ℕ) (first : changes.Change) (second : Option changes.Change) (ts : List Session)
    → GiveAll external held now first second ts → bytes_of (entries_for_all ts (listing held)) ≤ 44
plan-few external held now first None ts gives =
    let L = listing held in
    omega (arith, ap (λ us. bytes_of (entries_for_all us L)) gives.2, bytes_of-one gives.0 L, noted-few (find (same_flow gives.0) L) gives.0)
plan-few external held now first (Some second) ts gives =
    let L = listing held in
    omega (arith, ap (λ us. bytes_of (entries_for_all us L)) gives.5, bytes_of-two gives.0 gives.1 L, noted-few (find (same_flow gives.0) L) gives.0, noted-few (find (same_flow gives.1) (put gives.0 L)) gives.1)
