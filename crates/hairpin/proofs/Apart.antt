-- Sessions that are sound, and what may join them.
use Rattle.std.proofs.Common.{◌≡◌, ◌≢◌, ◌⊎◌, ℕ, zero, suc, ◌<◌, List, [], ◌∷◌, Option, Some, None, is_some, Result, Ok, Err, Bool, true, false, cond, not, ◌&&◌, if◌then◌else◌, Contains, refl, sym, ap, ◌∙◌, subst, inl, inr, arith}
use Rattle.std.specs.Prelude.{find}
use Rattle.std.specs.Option.{ok_or, option_map}
use Rattle.std.proofs.lemmas.Bool.{cases_Bool, and_parts, and_from, false≢true, not-true}
use Rattle.std.proofs.lemmas.Bool.Decides.{nat_tests}
use Rattle.std.proofs.lemmas.Option.{none-some, same_Some}
use Rattle.std.proofs.lemmas.Result.{IfOk-at_ok}
use Rattle.packet.specs.Config.{Config, is_config, is_inside}
use Rattle.packet.specs.Same.{same_proto, same_endpoint}
use Rattle.packet.specs.declared.bounds.Filtering.{Filtering}
use Rattle.packet.specs.declared.endpoint.Endpoint.{Endpoint}
use Rattle.packet.specs.declared.endpoint.Proto.{Proto}
use Rattle.packet.proofs.Configs.{is_checked}
use Rattle.packet.proofs.Pools.{listed-is}
use Rattle.packet.proofs.SameLemmas.{same_proto-true, same_endpoint-true, same_endpoint-itself}
use Rattle.portpick.specs.Choice.{port_choice, first_free, size_of_class, step as next}
use Rattle.portpick.specs.Pool.{endpoint}
use Rattle.sessions.specs.Listing.{In, has_inside}
use Rattle.sessions.specs.Table.{Clash}
use Rattle.sessions.specs.declared.session.Session.{Session}
use Rattle.sessions.proofs.Clashing.{apart-from, differ, same_endpoint-from, same_proto-from}
use Rattle.sessions.proofs.Puts.{find-some, has_inside-from}
use Rattle.hairpin.specs.Legs.{by_mapping, is_at, is_taken, lets_in, maps_inside, maps_outside, or_no_port}
use Rattle.sessions.specs.Sound.{IsPlaced}
use Rattle.hairpin.specs.declared.cause.Cause.{Cause}
use Rattle.hairpin.specs.declared.cause.Cause.TheVariants.{Filtered, NoMapping, NoPort}
use Rattle.hairpin.proofs.Pairs.{found-in}

pub cases_endpoint : (e f : Endpoint) → (e ≡ f) ⊎ (e ≢ f)
cases_endpoint e f = elim (cases_Bool (same_endpoint e f)) [
  | inl h ↦ inl (same_endpoint-true e f h)
  | inr h ↦ inr (λ same. false≢true (sym h ∙ sym (ap (same_endpoint e) same) ∙ same_endpoint-itself e))
]

pub maps-parts : (proto : Proto) (inside : Endpoint) (s : Session) → maps_inside proto inside s ≡ true → (s.inside ≢ s.outside) × (s.proto ≡ proto) × (s.inside ≡ inside)
unfolding maps_inside
maps-parts proto inside s h =
    let a = and_parts (not (same_endpoint s.inside s.outside) && same_proto s.proto proto) (same_endpoint s.inside inside) h in
    let b = and_parts (not (same_endpoint s.inside s.outside)) (same_proto s.proto proto) a.0 in
    (apart-from _ _ (not-true _ b.0), same_proto-true _ _ b.1, same_endpoint-true _ _ a.1)

pub maps-from : (proto : Proto) (inside : Endpoint) (s : Session) → s.inside ≢ s.outside → s.proto ≡ proto → s.inside ≡ inside → maps_inside proto inside s ≡ true
unfolding maps_inside
maps-from proto inside s away p i = and_from _ _ (and_from _ _ (ap not (differ s.inside s.outside away)) (same_proto-from s.proto proto p)) (same_endpoint-from s.inside inside i)

pub maps_outside-parts : (proto : Proto) (outside : Endpoint) (s : Session) → maps_outside proto outside s ≡ true → (s.inside ≢ s.outside) × (s.proto ≡ proto) × (s.outside ≡ outside)
unfolding maps_outside
maps_outside-parts proto outside s h =
    let a = and_parts (not (same_endpoint s.inside s.outside) && same_proto s.proto proto) (same_endpoint s.outside outside) h in
    let b = and_parts (not (same_endpoint s.inside s.outside)) (same_proto s.proto proto) a.0 in
    (apart-from _ _ (not-true _ b.0), same_proto-true _ _ b.1, same_endpoint-true _ _ a.1)

pub maps_outside-from : (proto : Proto) (outside : Endpoint) (s : Session) → s.inside ≢ s.outside → s.proto ≡ proto → s.outside ≡ outside → maps_outside proto outside s ≡ true
unfolding maps_outside
maps_outside-from proto outside s away p o = and_from _ _ (and_from _ _ (ap not (differ s.inside s.outside away)) (same_proto-from s.proto proto p)) (same_endpoint-from s.outside outside o)

pub at-parts : (proto : Proto) (outside : Endpoint) (s : Session) → is_at proto outside s ≡ true → (s.proto ≡ proto) × (s.outside ≡ outside)
unfolding is_at
at-parts proto outside s h = let a = and_parts _ _ h in (same_proto-true _ _ a.0, same_endpoint-true _ _ a.1)

pub at-from : (proto : Proto) (outside : Endpoint) (s : Session) → s.proto ≡ proto → s.outside ≡ outside → is_at proto outside s ≡ true
unfolding is_at
at-from proto outside s p o = and_from _ _ (same_proto-from s.proto proto p) (same_endpoint-from s.outside outside o)

-- what is found is a member that passes
pub find-In : (p : Session → Bool) (xs : List Session) (s : Session) → find p xs ≡ Some s → In s xs × (p s ≡ true)
find-In p [] s e = absurd (none-some s e)
find-In p (x ∷ xs) s e = elim (cases_Bool (p x)) [
  | inl is_so ↦
      let is : x ≡ s = same_Some x s (sym (ap (λ b. cond b (Some x) (find p xs)) is_so) ∙ e) in
      (inl (sym is), ap p (sym is) ∙ is_so)
  | inr not_so ↦
      let old = find-In p xs s (sym (ap (λ b. cond b (Some x) (find p xs)) not_so) ∙ e) in
      (inr old.0, old.1)
]

pub taken-from : (sessions : List Session) (proto : Proto) (addr port : ℕ) (s : Session) → In s sessions → s.proto ≡ proto → s.outside ≡ endpoint addr port → is_taken sessions proto addr port ≡ true
taken-from sessions proto addr port s is p o =
    let found = find-some (is_at proto (endpoint addr port)) sessions s is (at-from proto (endpoint addr port) s p o) in
    ap is_some found.1

pub taken-by : (sessions : List Session) (proto : Proto) (addr port : ℕ) → is_taken sessions proto addr port ≡ true → (s : Session) × In s sessions × (s.proto ≡ proto) × (s.outside ≡ endpoint addr port)
taken-by sessions proto addr port h =
    let is = found-in (is_at proto (endpoint addr port)) sessions h in
    let parts = at-parts proto (endpoint addr port) is.0 is.2 in
    (is.0, is.1, parts.0, parts.1)

-- an external address isn't inside
pub outside_away : (config : Config) → is_config config ≡ true → (addr : ℕ) → Contains config.external addr → is_inside config addr ≡ true → ⊥
outside_away config is_one addr listed inside = false≢true (sym ((is_checked config is_one).outside addr ((listed-is config.external addr).1 listed)) ∙ inside)

-- a session at an external address is translated
pub translated_at : (config : Config) (s : Session) → is_config config ≡ true → IsPlaced config s → Contains config.external s.outside.addr → s.inside ≢ s.outside
translated_at config s is_one placed at e = outside_away config is_one s.outside.addr at (subst (λ (x : Endpoint). is_inside config x.addr ≡ true) e placed.inside)

module _ (sessions : List Session) (apart : (s t : Session) → In s sessions → In t sessions → s ≢ t → ¬ Clash s t) where
  -- of two that are translated, the inside endpoints are one exactly where the outside endpoints are
  pub agree : (s t : Session) → In s sessions → In t sessions → s.inside ≢ s.outside → t.inside ≢ t.outside → s.proto ≡ t.proto
      → (s.inside ≡ t.inside → s.outside ≡ t.outside) × (s.outside ≡ t.outside → s.inside ≡ t.inside)
  agree s t in_s in_t s_away t_away proto = (
    (λ e. elim (cases_endpoint s.outside t.outside) [
      | inl is ↦ is
      | inr ne ↦ absurd (apart s t in_s in_t (λ same. ne (ap (λ (u : Session). u.outside) same)) (inr (inr (s_away, t_away, proto, inl (e, ne)))))
    ]),
    (λ e. elim (cases_endpoint s.inside t.inside) [
      | inl is ↦ is
      | inr ne ↦ absurd (apart s t in_s in_t (λ same. ne (ap (λ (u : Session). u.inside) same)) (inr (inr (s_away, t_away, proto, inr (e, ne)))))
    ]),
  )

  -- a new session, of which none is of the same protocol, inside and remote endpoint
  module _ (new : Session) (none : find (has_inside new.proto new.inside new.remote) sessions ≡ None) (s : Session) (in_s : In s sessions) where
    pub fresh : s.proto ≡ new.proto → s.inside ≡ new.inside → s.remote ≡ new.remote → ⊥
    fresh p i r =
        let found = find-some (has_inside new.proto new.inside new.remote) sessions s in_s (has_inside-from new.proto new.inside new.remote s (p, i, r)) in
        none-some found.0 (sym none ∙ found.1)

    -- by a mapping that lives
    pub mapped_apart : (m : Session) → In m sessions → m.inside ≢ m.outside → m.proto ≡ new.proto → m.inside ≡ new.inside → m.outside ≡ new.outside → s.inside ≢ m.outside → ¬ Clash new s
    mapped_apart m in_m m_away m_proto m_inside m_outside placed (inl h) = fresh h.0 h.1 h.2
    mapped_apart m in_m m_away m_proto m_inside m_outside placed (inr (inl h)) = elim (cases_endpoint s.inside s.outside) [
      | inl plain ↦ placed (plain ∙ h.1 ∙ sym m_outside)
      | inr away ↦
          let same = agree s m in_s in_m away m_away (h.0 ∙ sym m_proto) in
          fresh h.0 (same.1 (h.1 ∙ sym m_outside) ∙ m_inside) h.2
    ]
    mapped_apart m in_m m_away m_proto m_inside m_outside placed (inr (inr h)) =
        let same = agree s m in_s in_m h.1 m_away (sym h.2 ∙ sym m_proto) in
        elim h.3 [ inl i ↦ i.1 (sym (same.0 (sym i.0 ∙ sym m_inside) ∙ m_outside)) | inr o ↦ o.1 (sym (same.1 (sym o.0 ∙ sym m_outside) ∙ m_inside)) ]

    -- at a port that none has
    pub chosen_apart : find (maps_inside new.proto new.inside) sessions ≡ None → is_taken sessions new.proto new.outside.addr new.outside.port ≡ false → ¬ Clash new s
    chosen_apart unmapped free clash =
        let taken : s.proto ≡ new.proto → s.outside ≡ new.outside → ⊥ = λ p o.
        false≢true (sym free ∙ taken-from sessions new.proto new.outside.addr new.outside.port s in_s p o) in
        elim clash [
          | inl h ↦ fresh h.0 h.1 h.2
          | inr more ↦ elim more [
            | inl h ↦ taken h.0 h.1
            | inr h ↦ elim h.3 [
              | inl i ↦
                  let found = find-some (maps_inside new.proto new.inside) sessions s in_s (maps-from new.proto new.inside s h.1 (sym h.2) (sym i.0)) in
                  none-some found.0 (sym unmapped ∙ found.1)
              | inr o ↦ taken (sym h.2) (sym o.0)
            ]
          ]
        ]

-- a port that is chosen is free, and not 0
next-some : (p : ℕ) → 0 < p → 0 < next p
next-some p lt = grind (arith, nat_tests)

first_free-free : (taken : ℕ → Bool) (n p q : ℕ) → 0 < p → first_free taken n p ≡ Some q → (taken q ≡ false) × (0 < q)
first_free-free taken zero p q lt e = absurd (none-some _ e)
first_free-free taken (suc n) p q lt e = elim (cases_Bool (taken p)) [
  | inl hit ↦ first_free-free taken n (next p) q (next-some p lt) (ap (λ b. cond b (first_free taken n (next p)) (Some p)) (sym hit) ∙ e)
  | inr miss ↦
      let same : p ≡ q = same_Some _ _ (ap (λ b. cond b (first_free taken n (next p)) (Some p)) (sym miss) ∙ e) in
      subst (λ x. (taken x ≡ false) × (0 < x)) same (miss, lt)
]

pub choice-free : (taken : ℕ → Bool) (p q : ℕ) → 0 < p → port_choice taken p ≡ Some q → (taken q ≡ false) × (0 < q)
unfolding port_choice
choice-free taken p q lt e = first_free-free taken (size_of_class p) p q lt e

pub mapped-some : {X Y : Type 0} (f : X → Y) (o : Option X) (y : Y) → option_map f o ≡ Some y → (x : X) × (o ≡ Some x) × (f x ≡ y)
mapped-some f (Some x) y e = (x, refl, same_Some _ _ e)
mapped-some f None y e = absurd (none-some _ e)

-- what a result tells
pub same_Ok : {A : Type 0} (a b : A) → ◌≡◌ {A = Result A Cause} (Ok a) (Ok b) → a ≡ b
same_Ok a b e = IfOk-at_ok (λ x. a ≡ x) e refl

pub err-ok : {A : Type 0} (cause : Cause) (a : A) → ◌≡◌ {A = Result A Cause} (Err cause) (Ok a) → ⊥
err-ok cause a e = IfOk-at_ok (λ _. ⊥) e tt

-- a choice, or the cause that there is none
pub or_no_port-is : (o : Option Endpoint) → ok_or o NoPort ≡ or_no_port o
or_no_port-is (Some outside) = refl
or_no_port-is None = refl

-- what a mapping gives is the inside endpoint of the session that is found
pub some-mapping : (filter : Filtering) (sessions : List Session) (remote : ℕ) (o : Option Session) (e : Endpoint) → by_mapping filter sessions remote o ≡ Ok e
    → (m : Session) × (o ≡ Some m) × (m.inside ≡ e)
some-mapping filter sessions remote None e h = absurd (err-ok NoMapping e h)
some-mapping filter sessions remote (Some m) e h = elim (cases_Bool (lets_in filter sessions m remote)) [
  | inl is ↦ (m, refl, same_Ok m.inside e (sym (ap (λ b. if b then Ok m.inside else Err Filtered) is) ∙ h))
  | inr isnt ↦ absurd (err-ok Filtered e (sym (ap (λ b. if b then Ok m.inside else Err Filtered) isnt) ∙ h))
]

pub port-ok : (o : Option Endpoint) (outside : Endpoint) → or_no_port o ≡ Ok outside → o ≡ Some outside
port-ok (Some x) outside e = ap Some (same_Ok x outside e)
port-ok None outside e = absurd (err-ok NoPort outside e)
