-- Hosts stay at one external address.
use Rattle.std.proofs.Common.{◌≡◌, ◌⊎◌, ℕ, zero, suc, ◌<◌, List, [], ◌∷◌, length, get_or, Some, Bool, true, cond, not, is_some, refl, sym, ap, ◌∙◌, subst, inl, inr, arith}
use Rattle.std.specs.Prelude.{find}
use Rattle.std.specs.List.{filter}
use Rattle.std.specs.Option.{unwrap_or}
use Rattle.std.proofs.lemmas.Bool.{and_from, and_parts, cases_Bool, eq-eqb, false≢true, not-true}
use Rattle.packet.proofs.Accepted.{same_eq}
use Rattle.packet.specs.Config.{Pool}
use Rattle.portpick.specs.Pool.{choice_by, near_choice, pool_choice, port_at}
use Rattle.portpick.proofs.Pooled.{used_is_kept}
use Rattle.sessions.specs.Listing.{In, put, same_flow}
use Rattle.sessions.specs.declared.session.Session.{Session}
use Rattle.sessions.proofs.Clashing.{apart-from, differ}
use Rattle.sessions.proofs.Puts.{find-some}
use Rattle.sessions.proofs.Sets.{In-filter, In-insert}
use Rattle.hairpin.specs.Legs.{uses, uses_in}
use Rattle.hairpin.specs.Paired.{HairpinStays, HostsKeepOneAddress, IsAt, MasqueradeStays, PutStays, Translates}

-- ---- what is found

pub found-in : (p : Session → Bool) (xs : List Session) → is_some (find p xs) ≡ true → (s : Session) × In s xs × (p s ≡ true)
found-in p [] h = absurd (false≢true h)
found-in p (x ∷ xs) h = elim (cases_Bool (p x)) [
  | inl is_so ↦ (x, inl refl, is_so)
  | inr not_so ↦
      let old = found-in p xs (ap (λ b. is_some (cond b (Some x) (find p xs))) (sym not_so) ∙ h) in
      (old.0, inr old.1, old.2)
]

pub uses-is : (sessions : List Session) (host addr : ℕ) → uses_in sessions host addr ≡ true → IsAt sessions host addr
unfolding uses
uses-is sessions host addr h =
    let s = found-in (uses host addr) sessions h in
    let a = and_parts _ _ s.2 in
    let b = and_parts _ _ a.1 in
    (s.0, s.1, (apart-from _ _ (not-true _ a.0), same_eq _ _ b.0), same_eq _ _ b.1)

pub is-uses : (sessions : List Session) (host addr : ℕ) → IsAt sessions host addr → uses_in sessions host addr ≡ true
unfolding uses
is-uses sessions host addr at =
    let s = at.0 in
    let passes : uses host addr s ≡ true = and_from _ _ (ap not (differ s.inside s.outside at.2.0)) (and_from _ _ (eq-eqb _ _ at.2.1) (eq-eqb _ _ at.3)) in
    ap is_some (find-some (uses host addr) sessions s at.1 passes).1

-- ---- what is chosen for a host that is at an address of the pool

pub masquerade : MasqueradeStays
masquerade pool sessions taken host port addr e at listed choice =
    uses-is sessions host e.addr (used_is_kept (uses_in sessions host) taken pool port addr e listed (is-uses sessions host addr at) choice)

first-used : (p : ℕ → Bool) (pool : Pool) (k addr : ℕ) → k < length pool → get_or pool k addr ≡ addr → p addr ≡ true → (found : ℕ) × (find p pool ≡ Some found)
first-used p [] k addr lt is so = absurd (omega (arith, lt))
first-used p (a ∷ pool) zero addr lt is so = (a, ap (λ b. cond b (Some a) (find p pool)) (ap p is ∙ so))
first-used p (a ∷ pool) (suc k) addr lt is so = elim (cases_Bool (p a)) [
  | inl here ↦ (a, ap (λ b. cond b (Some a) (find p pool)) here)
  | inr none ↦
      let there = first-used p pool k addr (omega (arith, lt)) is so in
      (there.0, ap (λ b. cond b (Some a) (find p pool)) none ∙ there.1)
]

-- where an address is used, a hairpin is given what masquerade would be
as-masquerade : (p : ℕ → Bool) (taken : ℕ → ℕ → Bool) (pool : Pool) (far port addr : ℕ) → find p pool ≡ Some addr → pool_choice p taken pool port ≡ near_choice p taken pool far port
unfolding pool_choice near_choice
as-masquerade p taken pool far port addr is = ap (choice_by taken port pool) is ∙ sym (ap (λ o. port_at taken port (unwrap_or o far)) is)

pub hairpin : HairpinStays
hairpin pool sessions taken host far port addr e at listed choice =
    let found = first-used (uses_in sessions host) pool listed.0 addr listed.1 listed.2 (is-uses sessions host addr at) in
    masquerade pool sessions taken host port addr e at listed (as-masquerade (uses_in sessions host) taken pool far port found.0 found.1 ∙ choice)

-- ---- a session that is put in

-- an address of the host then is that of the session, or one of those before
put-at : (host : ℕ) (t : Session) (sessions : List Session) (addr : ℕ) → IsAt (put t sessions) host addr → (Translates host t × (addr ≡ t.outside.addr)) ⊎ IsAt sessions host addr
put-at host t sessions addr at = elim (In-insert t (filter (λ u. not (same_flow t u)) sessions) at.0 at.1) [
  | inl e ↦ inl (subst (Translates host) e at.2, sym at.3 ∙ ap (λ (v : Session). v.outside.addr) e)
  | inr old ↦ inr (at.0, (In-filter (λ u. not (same_flow t u)) sessions at.0 old).0, at.2, at.3)
]

pub put_in : PutStays
put_in host t sessions one fits addr other at at_other = elim (put-at host t sessions addr at) [
  | inl a ↦ elim (put-at host t sessions other at_other) [ inl b ↦ a.1 ∙ sym b.1 | inr old ↦ a.1 ∙ sym (fits a.0 other old) ]
  | inr old ↦ elim (put-at host t sessions other at_other) [ inl b ↦ fits b.0 addr old ∙ sym b.1 | inr old_other ↦ one addr other old old_other ]
]

pub one_address : HostsKeepOneAddress
one_address = record { masquerade = masquerade; hairpin = hairpin; put_in = put_in }
