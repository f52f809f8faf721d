-- The ports that are taken follow the mappings that are held.
use Rattle.std.proofs.Common.{◌≡◌, ◌⊎◌, ◌↔◌, ℕ, ◌<◌, List, Bool, cond, refl, sym, ap, ◌∙◌, subst, inl, inr, arith}
use Rattle.std.proofs.lemmas.Bool.{cases_Bool}
use Rattle.portpick.specs.Choice.{IsTestOf}
use Rattle.packet.specs.declared.endpoint.Proto.{Proto}
use Rattle.packet.specs.declared.endpoint.Endpoint.{Endpoint}
use Rattle.portpick.specs.Taken.{TakenPorts, IsTaken, Takes, SameTaken}
use Rattle.mappings.specs.declared.map.Mapping.{Mapping}
use Rattle.mappings.specs.Map.{Mappings, times, mapping, one_at, same_mapping, Gains, SameTimes}
use Rattle.mappings.proofs.Times.{same_mapping-true, one_at-itself}
use Rattle.hairpin.specs.Translations.{IsExternal, IsOutside, IsOutsideOf, Follows}
use Rattle.portpick.specs.Pool.{endpoint}

pub as_held : (m : Mappings) (p : Mapping) (q : Proto) (e : Endpoint) → IsOutsideOf p q e → IsOutside m p.proto p.outside → IsOutside m q e
as_held m p q e is held = subst (λ r. IsOutside m r e) (sym is.0) (subst (λ f. IsOutside m p.proto f) (sym is.1) held)

module _ (p : Mapping) (old new : TakenPorts) where
  -- a port is taken, that was free or taken already
  pub took_new : Takes old new p.proto p.outside.addr p.outside.port → (q : Proto) (a r : ℕ) → IsTaken new q a r ↔ (IsTaken old q a r ⊎ IsOutsideOf p q (endpoint a r))
  took_new takes q a r = (
    (λ t. elim ((takes q a r).0 t) [ inl was ↦ inl was | inr is ↦ inr (is.0, ap (λ x. endpoint x r) is.1 ∙ ap (endpoint p.outside.addr) is.2) ]),
    (λ h. elim h [ inl was ↦ (takes q a r).1 (inl was) | inr is ↦ (takes q a r).1 (inr (is.0, ap (λ (e : Endpoint). e.addr) is.1, ap (λ (e : Endpoint). e.port) is.1)) ]),
  )

module _ (m : Mappings) (p : Mapping) (old new : TakenPorts) where
  -- a port is free again, or stays taken
  pub freed_none : ((q : Proto) (a r : ℕ) → IsTaken old q a r ↔ (IsOutside m q (endpoint a r) ⊎ IsOutsideOf p q (endpoint a r))) → IsOutside m p.proto p.outside
      → (q : Proto) (a r : ℕ) → IsTaken old q a r ↔ IsOutside m q (endpoint a r)
  freed_none taken held q a r = (
    (λ t. elim ((taken q a r).0 t) [ inl o ↦ o | inr is ↦ as_held m p q (endpoint a r) is held ]),
    (λ o. (taken q a r).1 (inl o)),
  )

  pub freed_one : ((q : Proto) (a r : ℕ) → IsTaken old q a r ↔ (IsOutside m q (endpoint a r) ⊎ IsOutsideOf p q (endpoint a r)))
      → ((inside : Endpoint) → times m (mapping p.proto inside p.outside) ≡ 0) → Takes new old p.proto p.outside.addr p.outside.port → ¬ IsTaken new p.proto p.outside.addr p.outside.port
      → (q : Proto) (a r : ℕ) → IsTaken new q a r ↔ IsOutside m q (endpoint a r)
  freed_one taken none takes free q a r = (
    (λ t. elim ((taken q a r).0 ((takes q a r).1 (inl t))) [
      | inl o ↦ o
      | inr is ↦ absurd (free (subst (λ x. IsTaken new x p.outside.addr p.outside.port) is.0 (subst (λ (e : Endpoint). IsTaken new q e.addr e.port) is.1 t)))
    ]),
    (λ o. elim ((takes q a r).0 ((taken q a r).1 (inl o))) [
      | inl t ↦ t
      | inr is ↦
          let e : endpoint a r ≡ p.outside = ap (λ x. endpoint x r) is.1 ∙ ap (endpoint p.outside.addr) is.2 in
          let here : 0 < times m (mapping p.proto o.0 p.outside) = subst (λ x. 0 < times m (mapping x o.0 p.outside)) is.0 (subst (λ x. 0 < times m (mapping q o.0 x)) e o.1) in
          absurd (omega (arith, here, none o.0))
    ]),
  )

  pub was_taken : ((q : Proto) (a r : ℕ) → IsTaken old q a r ↔ (IsOutside m q (endpoint a r) ⊎ IsOutsideOf p q (endpoint a r))) → IsTaken old p.proto p.outside.addr p.outside.port
  was_taken taken = (taken p.proto p.outside.addr p.outside.port).1 (inr (refl, refl))

-- the outside endpoints once a mapping is held once more
gained_here : (old new : Mappings) (g p : Mapping) → Gains old new g → 0 < times new p → (0 < times old p) ⊎ (p ≡ g)
gained_here old new g p gains lt = elim (cases_Bool (same_mapping p g)) [
  | inl one ↦ inr (same_mapping-true p g one)
  | inr other ↦ let none : one_at p g ≡ 0 = ap (λ b. cond b 1 0) other in inl (omega (arith, gains p))
]

gains_outside : (old new : Mappings) (g : Mapping) → Gains old new g → (q : Proto) (e : Endpoint) → IsOutside new q e ↔ (IsOutside old q e ⊎ IsOutsideOf g q e)
gains_outside old new g gains q e = (
  (λ h. elim (gained_here old new g (mapping q h.0 e) gains h.1) [ inl was ↦ inl (h.0, was) | inr is ↦ inr (ap (λ (p : Mapping). p.proto) is, ap (λ (p : Mapping). p.outside) is) ]),
  (λ h. elim h [ inl o ↦ (o.0, omega (arith, o.1, gains (mapping q o.0 e))) | inr is ↦ as_held new g q e is (g.inside, omega (arith, gains g, one_at-itself g)) ]),
)

module _ (old new : Mappings) (p : Mapping) (ports ports' : TakenPorts) (follows : Follows old ports) where
  pub after_hold : IsExternal ports.external p.outside → Gains old new p → ports'.external ≡ ports.external
      → ((q : Proto) (a r : ℕ) → IsTaken ports' q a r ↔ (IsTaken ports q a r ⊎ IsOutsideOf p q (endpoint a r))) → Follows new ports'
  after_hold at gains same taken = record {
    taken = λ q a r.
        let t = taken q a r in
        let f = follows.taken q a r in
        let g = gains_outside old new p gains q (endpoint a r) in (
          (λ h. g.1 (elim (t.0 h) [ inl was ↦ inl (f.0 was) | inr is ↦ inr is ])),
          (λ h. t.1 (elim (g.0 h) [ inl held ↦ inl (f.1 held) | inr is ↦ inr is ])),
        );
    placed = λ x lt. subst (λ (xs : List ℕ). IsExternal xs x.outside) (sym same) (elim (gained_here old new p x gains lt) [
      | inl was ↦ follows.placed x was
      | inr is ↦ subst (λ (y : Mapping). IsExternal ports.external y.outside) (sym is) at
    ]);
  }

  pub before_release : Gains new old p → (q : Proto) (a r : ℕ) → IsTaken ports q a r ↔ (IsOutside new q (endpoint a r) ⊎ IsOutsideOf p q (endpoint a r))
  before_release loses q a r =
      let t = follows.taken q a r in
      let g = gains_outside new old p loses q (endpoint a r) in
      ((λ h. g.0 (t.0 h)), (λ h. t.1 (g.1 h)))

  pub after_release : Gains new old p → ports'.external ≡ ports.external → ((q : Proto) (a r : ℕ) → IsTaken ports' q a r ↔ IsOutside new q (endpoint a r)) → Follows new ports'
  after_release loses same taken = record { taken = taken; placed = λ x lt. subst (λ (xs : List ℕ). IsExternal xs x.outside) (sym same) (follows.placed x (omega (arith, loses x))) }

-- the same mappings and the same ports
pub follows-same : (old new : Mappings) (ports ports' : TakenPorts) → Follows old ports → SameTimes old new → SameTaken ports ports' → ports'.external ≡ ports.external → Follows new ports'
follows-same old new ports ports' follows times_same taken_same same = record {
  taken = λ q a r.
      let t = follows.taken q a r in
      let s = taken_same q a r in (
        (λ h. let o = t.0 (s.0 h) in (o.0, omega (arith, o.1, times_same (mapping q o.0 (endpoint a r))))),
        (λ h. s.1 (t.1 (h.0, omega (arith, h.1, times_same (mapping q h.0 (endpoint a r)))))),
      );
  placed = λ x lt. subst (λ (xs : List ℕ). IsExternal xs x.outside) (sym same) (follows.placed x (omega (arith, times_same x)));
}

pub follows-none : (m : Mappings) (ports : TakenPorts) → ((p : Mapping) → times m p ≡ 0) → ((q : Proto) (a r : ℕ) → ¬ IsTaken ports q a r) → Follows m ports
follows-none m ports none free = record {
  taken = λ q a r. ((λ t. absurd (free q a r t)), (λ h. absurd (omega (arith, h.1, none (mapping q h.0 (endpoint a r))))));
  placed = λ p lt. absurd (omega (arith, none p));
}

-- a test that says which outside endpoints are held says which ports are taken
pub chosen : (m : Mappings) (ports : TakenPorts) → Follows m ports → (proto : Proto) (addr : ℕ) (test : ℕ → Bool) → IsTestOf test (λ q. IsOutside m proto (endpoint addr q))
    → IsTestOf test (IsTaken ports proto addr)
chosen m ports follows proto addr test says port = (
  (λ h. (follows.taken proto addr port).1 ((says port).0 h)),
  (λ t. (says port).1 ((follows.taken proto addr port).0 t)),
)
