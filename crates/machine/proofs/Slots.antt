-- The sessions that end, by the slots that hold them.
use Rattle.std.proofs.Common.{◌≡◌, ◌⊎◌, ◌↔◌, inl, inr, ℕ, zero, suc, ◌<◌, List, [], ◌∷◌, Option, Some, None, IsSome, IsSomeAnd, get_or, slice_index, length, refl, sym, ap, subst, ◌∙◌, arith}
use Rattle.std.specs.List.{Contains}
use Rattle.std.proofs.lemmas.Bool.{cases_Bool}
use Rattle.std.proofs.lemmas.List.{get_or_default}
use Rattle.sessions.specs.declared.session.Session.{Session}
use Rattle.sessions.specs.Life.{alive}
use Rattle.sessions.specs.Listing.{In, listing}
use Rattle.sessions.specs.Table.{IsSoundTable}
use Rattle.sessions.proofs.Sets.{In-listing, listing-In}
use Rattle.timers.specs.Due.{AreOnce}
use Rattle.machine.specs.Flows.{IsDue}
use Rattle.machine.proofs.Expiry.{alive-not_due, due-not_alive, due_held}
use Rattle.machine.proofs.Updated.{held_there}
use Rattle.machine.specs.Noted.{AreDistinct, AreOver, sessions_at, with_it}

contains-cases : (x : ℕ) (xs : List ℕ) (y : ℕ) → Contains (x ∷ xs) y → (y ≡ x) ⊎ Contains xs y
contains-cases x xs y (zero, lt, e) = inl (sym e)
contains-cases x xs y (suc k, lt, e) = inr (k, omega (arith, lt), e)

contains-tail : (x : ℕ) (xs : List ℕ) (y : ℕ) → Contains xs y → Contains (x ∷ xs) y
contains-tail x xs y (k, lt, e) = (suc k, omega (arith, lt), e)

module _ (held : List (Option Session)) where
  abbrev Holding : List ℕ → Session → Type 0
  Holding slots t = (slot : ℕ) × Contains slots slot × (get_or held slot None ≡ Some t)

  at-slot : (x : ℕ) (more : List ℕ) (t : Session) → (In t (sessions_at held more) → Holding more t) → (o : Option Session) → get_or held x None ≡ o
      → In t (with_it o (sessions_at held more)) → Holding (x ∷ more) t
  at-slot x more t rest None e is = let old = rest is in (old.0, contains-tail x more old.0 old.1, old.2)
  at-slot x more t rest (Some s) e (inl q) = (x, (zero, omega arith, refl), e ∙ ap Some (sym q))
  at-slot x more t rest (Some s) e (inr there) = let old = rest there in (old.0, contains-tail x more old.0 old.1, old.2)

  In-at : (slots : List ℕ) (t : Session) → In t (sessions_at held slots) → Holding slots t
  In-at [] t not_in = absurd not_in
  In-at (x ∷ more) t is = at-slot x more t (In-at more t) (get_or held x None) refl is

  behind : (o : Option Session) (ss : List Session) (t : Session) → In t ss → In t (with_it o ss)
  behind None ss t is = is
  behind (Some s) ss t is = inr is

  at-In : (slots : List ℕ) (slot : ℕ) (t : Session) → Contains slots slot → get_or held slot None ≡ Some t → In t (sessions_at held slots)
  at-In [] slot t has at = absurd (omega (arith, has.1))
  at-In (x ∷ more) slot t has at = elim (contains-cases x more slot has) [
    | inl e ↦ subst (λ o. In t (with_it o (sessions_at held more))) (sym at ∙ ap (λ k. get_or held k None) e) (inl refl)
    | inr there ↦ behind (get_or held x None) (sessions_at held more) t (at-In more slot t there at)
  ]

  module _ (sound : IsSoundTable held) where
    distinct-slot : (x : ℕ) (more : List ℕ) → AreOnce (x ∷ more) → AreDistinct (sessions_at held more) → (o : Option Session) → get_or held x None ≡ o → AreDistinct (with_it o (sessions_at held more))
    distinct-slot x more once rest None e = rest
    distinct-slot x more once rest (Some s) e = (
      (λ is.
          let at = In-at more s is in
          let k = at.1 in
          let same : get_or more k.0 0 ≡ at.0 = get_or_default more k.0 0 at.0 k.1 ∙ k.2 in
          sound.apart x at.0 s s (λ q. once zero (suc k.0) (omega arith) (omega (arith, k.1)) (q ∙ sym same)) e at.2 (inl (refl, refl, refl))),
      rest,
    )

    distinct-at : (slots : List ℕ) → AreOnce slots → AreDistinct (sessions_at held slots)
    distinct-at [] once = tt
    distinct-at (x ∷ more) once = distinct-slot x more once (distinct-at more (λ i j lt few. once (suc i) (suc j) (omega (arith, lt)) (omega (arith, few)))) (get_or held x None) refl

    pub slots-over : (now : ℕ) (slots : List ℕ) → ((slot : ℕ) → Contains slots slot ↔ IsSomeAnd (get_or held slot None) (IsDue now)) → AreOnce slots
        → AreOver now (listing held) (sessions_at held slots)
    slots-over now slots exactly once = record {
      distinct = distinct-at slots once;
      over = λ t is.
          let at = In-at slots t is in
          let due : IsDue now t = subst (λ o. IsSomeAnd o (IsDue now)) at.2 ((exactly at.0).0 at.1) in
          (listing-In held t at.0 at.2, elim (cases_Bool (alive now t)) [ inl lives ↦ absurd (alive-not_due now t lives due) | inr over ↦ over ]);
      all = λ t is over.
          let at = In-listing held t is in
          at-In slots at.0 t ((exactly at.0).1 (subst (λ o. IsSomeAnd o (IsDue now)) (sym at.1) (due-not_alive now t over))) at.1;
    }

-- each of these slots holds a session, so there are as many
pub length-at : (held : List (Option Session)) (slots : List ℕ) → ((k : ℕ) → k < length slots → IsSome (get_or held (slice_index slots k) None)) → length (sessions_at held slots) ≡ length slots
length-at held [] some = refl
length-at held (x ∷ more) some =
    let there = held_there (get_or held x None) (some zero (omega arith)) in
    ap (λ o. length (with_it o (sessions_at held more))) there.1 ∙ ap suc (length-at held more (λ k lt. some (suc k) (omega (arith, lt))))

-- the slots of the sessions that end hold them
pub some-at : (held : List (Option Session)) (now : ℕ) (slots : List ℕ) → ((slot : ℕ) → Contains slots slot ↔ IsSomeAnd (get_or held slot None) (IsDue now))
    → (k : ℕ) → k < length slots → IsSome (get_or held (slice_index slots k) None)
some-at held now slots exactly k lt = due_held (get_or held (slice_index slots k) None) now ((exactly (slice_index slots k)).0 (k, lt, get_or_default slots k (slice_index slots k) 0 lt))

-- where no slot is due, none ends
pub none-over : (held : List (Option Session)) → IsSoundTable held → (now : ℕ) (slots : List ℕ) → ((slot : ℕ) → Contains slots slot ↔ IsSomeAnd (get_or held slot None) (IsDue now))
    → AreOnce slots → length slots ≡ 0 → AreOver now (listing held) []
none-over held sound now [] exactly once none = slots-over held sound now [] exactly once
none-over held sound now (x ∷ more) exactly once none = absurd (omega (arith, none))
