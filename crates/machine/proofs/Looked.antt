-- Reasons that are looked for in turn.
use Rattle.std.proofs.Common.{◌≡◌, ℕ, zero, suc, get_or, ◌+◌, ◌<◌, ◌≤◌, ◌^◌, Bool, true, false, cond, List, [], ◌∷◌, ◌++◌, length, Contains, Option, Some, None, is_some, Result, Ok, Err, not, nat_lt, if◌then◌else◌, refl, sym, ap, ◌∙◌, subst, inl, inr, arith}
use Rattle.std.specs.Prelude.{find}
use Rattle.std.specs.List.{AllByRecursion}
use Rattle.std.specs.Option.{option_map}
use Rattle.std.proofs.lemmas.Bool.{and_from, eq-eqb, cases_Bool, false≢true, lt-ltb, ltb-true, false_from_ne_true}
use Rattle.std.proofs.lemmas.Option.{none-some, same_Some}
use Rattle.packet.specs.Config.{Pool}
use Rattle.packet.specs.declared.endpoint.Endpoint.{Endpoint}
use Rattle.packet.specs.declared.endpoint.Proto.{Proto}
use Rattle.portpick.specs.Choice.{AllTaken}
use Rattle.portpick.specs.Pool.{endpoint, first_port, or_else, port_at}
use Rattle.portpick.proofs.Chosen.{determined}
use Rattle.sessions.specs.Listing.{insert, put, same_flow}
use Rattle.sessions.specs.declared.session.Session.{Session}
use Rattle.sessions.proofs.Clashing.{differ}
use Rattle.sessions.proofs.Puts.{find-some, has_inside-true, length-insert}
use Rattle.verdict.specs.declared.hook.Forwarding.{Forwarding}
use Rattle.verdict.specs.declared.hook.Forwarding.TheVariants as forwarding
use Rattle.hairpin.specs.Legs.{Passage, is_taken, unless_dropped, uses, uses_in}
use Rattle.hairpin.specs.Paired.{IsAt}
use Rattle.hairpin.specs.declared.cause.Cause.{Cause}
use Rattle.hairpin.proofs.Apart.{taken-from}
use Rattle.hairpin.proofs.Pairs.{uses-is}
use Rattle.hairpin.proofs.Soundness.{filter-all}
use Rattle.machine.specs.Hosts.{IsOccupied}
use Rattle.machine.specs.Order.{FirstDrops, Reason, cause_of, ForwardDrops}
use Rattle.machine.specs.Requirements.{NoneInside}
use Rattle.machine.proofs.Choosing.{full-at}

-- what drops and passes so does what follows from it
pub first-map : (Holds Drops Drops' : Reason → Type 0) (Passes Passes' : Type 0) → ((why : Reason) → Drops why → Drops' why) → (Passes → Passes') → (l : List Reason) → FirstDrops Holds Drops Passes l → FirstDrops Holds Drops' Passes' l
first-map Holds Drops Drops' Passes Passes' drops passes [] first = passes first
first-map Holds Drops Drops' Passes Passes' drops passes (why ∷ more) first =
    ((λ holds. drops why (first.0 holds)), (λ none. first-map Holds Drops Drops' Passes Passes' drops passes more (first.1 none)))

module _ (Holds : Reason → Type 0) where
  -- a leg is dropped for the first reason, or lets pass
  abbrev pub Ordered : Result Passage Cause → List Reason → Type 0
  Ordered way reasons = FirstDrops Holds (λ why. way ≡ Err (cause_of why)) ((p : Passage) × (way ≡ Ok p)) reasons

  pub skipped : (way : Result Passage Cause) (why : Reason) (more : List Reason) → ¬ Holds why → Ordered way more → Ordered way (why ∷ more)
  skipped way why more never rest = ((λ holds. absurd (never holds)), (λ none. rest))

  -- several that don't hold
  pub skips : (way : Result Passage Cause) (whys more : List Reason) → AllByRecursion (λ why. ¬ Holds why) whys → Ordered way more → Ordered way (whys ++ more)
  skips way [] more never rest = rest
  skips way (why ∷ whys) more never rest = skipped way why (whys ++ more) never.0 (skips way whys more never.1 rest)

  pub holding : (way : Result Passage Cause) (why : Reason) (more : List Reason) → Holds why → way ≡ Err (cause_of why) → Ordered way (why ∷ more)
  holding way why more holds is = ((λ h. is), (λ none. absurd (none holds)))

  pub tested : (why : Reason) (more : List Reason) (b : Bool) (way : Result Passage Cause) → (b ≡ true → Holds why) → (Holds why → b ≡ true) → (b ≡ false → Ordered way more)
      → Ordered (if b then Err (cause_of why) else way) (why ∷ more)
  tested why more true way is has rest = ((λ h. refl), (λ none. absurd (none (is refl))))
  tested why more false way is has rest = ((λ h. absurd (false≢true (has h))), (λ none. rest refl))

  pub filtered : (more : List Reason) (verdict : Forwarding) (way : Result Passage Cause) → (verdict ≡ forwarding.Drop → Holds ForwardDrops) → (Holds ForwardDrops → verdict ≡ forwarding.Drop) → Ordered way more
      → Ordered (unless_dropped verdict way) (ForwardDrops ∷ more)
  filtered more forwarding.Drop way is has rest = ((λ h. refl), (λ none. absurd (none (is refl))))
  filtered more forwarding.Pass way is has rest = ((λ h. let drops : forwarding.Pass ≡ forwarding.Drop = has h in absurd cc), (λ none. rest))

  pub moved : (way way' : Result Passage Cause) (l : List Reason) → way ≡ way' → Ordered way' l → Ordered way l
  moved way way' l e first = subst (λ w. Ordered w l) (sym e) first

-- ---- one session more

-- the test of too many
pub one-more : (t : Session) (sessions : List Session) → NoneInside sessions t.proto t.inside t.remote → (nat_lt 65536 (length (put t sessions)) ≡ true → 65536 ≤ length sessions) × (65536 ≤ length sessions → nat_lt 65536 (length (put t sessions)) ≡ true)
one-more t sessions none =
    let others = filter-all (λ u. not (same_flow t u)) sessions (λ u in_u. ap not (false_from_ne_true _ (λ h. none u in_u (has_inside-true t.proto t.inside t.remote u h)))) in
    let many : length (put t sessions) ≡ length sessions + 1 = ap (λ (xs : List Session). length (insert t xs)) others ∙ length-insert t sessions in (
      (λ h. omega (arith, many, ltb-true 65536 (length (put t sessions)) h)),
      (λ le. lt-ltb 65536 (length (put t sessions)) (omega (arith, many, le))),
    )

-- ---- full addresses

module _ (sessions : List Session) (proto : Proto) (port : ℕ) (some : 0 < port) (fits : port < 2 ^ 16) where
  abbrev IsFull : ℕ → Type 0
  IsFull addr = AllTaken (IsOccupied sessions proto addr) port

  pub none-at : (addr : ℕ) → IsFull addr → port_at (is_taken sessions proto) port addr ≡ None
  none-at addr full = ap (option_map (endpoint addr)) ((determined (is_taken sessions proto addr) port some fits).none.1 (λ other alike.
      let held = full other alike in taken-from sessions proto addr other held.0 held.1 held.2 held.3))

  -- each of the addresses
  pub all-none : (pool : Pool) → AllByRecursion IsFull pool → first_port (is_taken sessions proto) port pool ≡ None
  all-none [] full = refl
  all-none (addr ∷ pool) full = ap (λ o. or_else o (first_port (is_taken sessions proto) port pool)) (none-at addr full.0) ∙ all-none pool full.1

  none-or : (addr : ℕ) (pool : Pool) (o : Option Endpoint) → port_at (is_taken sessions proto) port addr ≡ o → or_else o (first_port (is_taken sessions proto) port pool) ≡ None
      → (first_port (is_taken sessions proto) port pool ≡ None → AllByRecursion IsFull pool) → AllByRecursion IsFull (addr ∷ pool)
  none-or addr pool None here h more = (full-at sessions proto port some fits addr here, more h)
  none-or addr pool (Some e) here h more = absurd (none-some e (sym h))

  pub none-all : (pool : Pool) → first_port (is_taken sessions proto) port pool ≡ None → AllByRecursion IsFull pool
  none-all [] h = tt
  none-all (addr ∷ pool) h = none-or addr pool (port_at (is_taken sessions proto) port addr) refl h (none-all pool)

-- ---- the first address of a host

is-uses : (sessions : List Session) (host addr : ℕ) → IsAt sessions host addr → uses_in sessions host addr ≡ true
unfolding uses
is-uses sessions host addr at =
    let s = at.0 in
    let passes : uses host addr s ≡ true = and_from _ _ (ap not (differ s.inside s.outside at.2.0)) (and_from _ _ (eq-eqb _ _ at.2.1) (eq-eqb _ _ at.3)) in
    ap is_some (find-some (uses host addr) sessions s at.1 passes).1

module _ (sessions : List Session) (host : ℕ) where
  abbrev IsFirstOf : Pool → ℕ → Type 0
  IsFirstOf pool addr = (before : Pool) × (behind : Pool) × (pool ≡ before ++ addr ∷ behind) × AllByRecursion (λ a. ¬ IsAt sessions host a) before × IsAt sessions host addr

  pub first-of : (pool : Pool) (addr : ℕ) → find (uses_in sessions host) pool ≡ Some addr → IsFirstOf pool addr
  first-of [] addr h = absurd (none-some addr h)
  first-of (a ∷ pool) addr h = elim (cases_Bool (uses_in sessions host a)) [
    | inl is ↦
        let same : a ≡ addr = same_Some a addr (sym (ap (λ b. cond b (Some a) (find (uses_in sessions host) pool)) is) ∙ h) in
        subst (IsFirstOf (a ∷ pool)) same ([], pool, refl, tt, uses-is sessions host a is)
    | inr isnt ↦
        let rest = first-of pool addr (sym (ap (λ b. cond b (Some a) (find (uses_in sessions host) pool)) isnt) ∙ h) in
        (a ∷ rest.0, rest.1, ap (λ (p : Pool). a ∷ p) rest.2, ((λ at. false≢true (sym isnt ∙ is-uses sessions host a at)), rest.3), rest.4)
  ]

  find-behind : (before behind : Pool) (addr : ℕ) → AllByRecursion (λ a. ¬ IsAt sessions host a) before → IsAt sessions host addr → find (uses_in sessions host) (before ++ addr ∷ behind) ≡ Some addr
  find-behind [] behind addr none at = ap (λ b. cond b (Some addr) (find (uses_in sessions host) behind)) (is-uses sessions host addr at)
  find-behind (a ∷ before) behind addr none at =
      ap (λ b. cond b (Some a) (find (uses_in sessions host) (before ++ addr ∷ behind))) (false_from_ne_true _ (λ h. none.0 (uses-is sessions host a h)))
      ∙ find-behind before behind addr none.1 at

  pub of-first : (pool : Pool) (addr : ℕ) → IsFirstOf pool addr → find (uses_in sessions host) pool ≡ Some addr
  of-first pool addr first = ap (find (uses_in sessions host)) first.2 ∙ find-behind first.0 first.1 addr first.3 first.4

  pub none-of : (pool : Pool) → ((a : ℕ) → ¬ IsAt sessions host a) → find (uses_in sessions host) pool ≡ None
  none-of [] nowhere = refl
  none-of (a ∷ pool) nowhere = ap (λ b. cond b (Some a) (find (uses_in sessions host) pool)) (false_from_ne_true _ (λ h. nowhere a (uses-is sessions host a h))) ∙ none-of pool nowhere

  -- one that is at an address of the pool is found
  some-of : (pool : Pool) (k addr : ℕ) → k < length pool → get_or pool k addr ≡ addr → uses_in sessions host addr ≡ true → ¬ (find (uses_in sessions host) pool ≡ None)
  some-of [] k addr lt is so none = omega (arith, lt)
  some-of (a ∷ pool) zero addr lt is so none = none-some a (sym none ∙ ap (λ b. cond b (Some a) (find (uses_in sessions host) pool)) (ap (uses_in sessions host) is ∙ so))
  some-of (a ∷ pool) (suc k) addr lt is so none = elim (cases_Bool (uses_in sessions host a)) [
    | inl here ↦ none-some a (sym none ∙ ap (λ b. cond b (Some a) (find (uses_in sessions host) pool)) here)
    | inr away ↦ some-of pool k addr (omega (arith, lt)) is so (sym (ap (λ b. cond b (Some a) (find (uses_in sessions host) pool)) away) ∙ none)
  ]

  pub nowhere-of : (pool : Pool) → ((a : ℕ) → IsAt sessions host a → Contains pool a) → find (uses_in sessions host) pool ≡ None → (a : ℕ) → ¬ IsAt sessions host a
  nowhere-of pool listed none a at = let k = listed a at in some-of pool k.0 a k.1 k.2 (is-uses sessions host a at) none
