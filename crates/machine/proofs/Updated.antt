-- The tie over an update of one slot.
use Rattle.std.proofs.Common.{◌≡◌, ◌≢◌, ℕ, ◌+◌, ◌≤◌, true, false, Option, Some, None, IsSome, refl, sym, ap, ◌∙◌, subst, inl, inr, arith}
use Rattle.std.specs.Option.{option_map}
use Rattle.std.proofs.lemmas.Bool.{cases_eq, cases_Bool, false≢true}
use Rattle.sessions.specs.declared.session.Session.{Session}
use Rattle.sessions.specs.Table as table
use Rattle.timers.specs.Due as due
use Rattle.mappings.specs.declared.map.Mapping.{Mapping}
use Rattle.mappings.specs.Map.{Mappings, times, KeepsOneToOne}
use Rattle.packet.specs.declared.endpoint.Endpoint.{Endpoint}
use Rattle.packet.specs.Same.{same_endpoint}
use Rattle.packet.proofs.SameLemmas.{same_endpoint-true, same_endpoint-itself}
use Rattle.timers.specs.Laws.{idle_of}
use Rattle.hairpin.specs.Tallies.{weight, mapping_of}
use Rattle.hairpin.proofs.Tally.{tally-update, tally-at, tally-some, weighs}
use Rattle.machine.specs.Flows.{Tied}

-- the table, the timers and the mappings after the slot got this
pub Tied-update : (t t' : table.Sessions) (d d' : due.Watched) (m m' : Mappings) (slot : ℕ) (o : Option Session) → Tied t d m → table.Updates t t' slot o
    → due.Updates d d' slot (option_map idle_of o)
    → ((p : Mapping) → times m' p + weight p (table.at t slot) ≡ times m p + weight p o)
    → Tied t' d' m'
Tied-update t t' d d' m m' slot o tied updates watched counted = record {
  idle = λ k. elim (cases_eq k slot) [
    | inl here ↦ subst (λ j. due.at d' j ≡ option_map idle_of (table.at t' j)) (sym here) (watched.changed ∙ sym (ap (option_map idle_of) updates.changed))
    | inr away ↦ watched.others k away ∙ tied.idle k ∙ sym (ap (option_map idle_of) (updates.others k away))
  ];
  counts = λ p.
      let a = counted p in
      let b = tied.counts p in
      let e = tally-update p t.held t'.held slot o updates.changed updates.others in
      omega arith;
}

-- what a slot holds is held in the mappings
pub Tied-at : (t : table.Sessions) (d : due.Watched) (m : Mappings) (slot : ℕ) (o : Option Session) → Tied t d m → table.at t slot ≡ o → (p : Mapping) → weight p o ≤ times m p
Tied-at t d m slot o tied is p = let a = tied.counts p in let b = tally-at p t.held slot o is in omega arith

-- a session that clashes with none that is held keeps the mappings one-to-one
pub one_to_one : (t : table.Sessions) (d : due.Watched) (m : Mappings) (s : Session) → Tied t d m → ¬ table.ClashesWith t s → same_endpoint s.inside s.outside ≡ false → KeepsOneToOne m (mapping_of s)
one_to_one t d m s tied none away p held proto =
    let some = tally-some p t.held (omega (arith, tied.counts p)) in
    let u = some.1 in
    let is = weighs p u some.3 in
    let u_proto : u.proto ≡ s.proto = sym (ap (λ (q : Mapping). q.proto) is.1) ∙ proto in
    let translated : (a b : Endpoint) → same_endpoint a b ≡ false → a ≢ b = λ a b f e. false≢true (sym f ∙ subst (λ x. same_endpoint a x ≡ true) e (same_endpoint-itself a)) in
    let apart : ¬ table.Clash s u = λ clash. none (record { place = some.0; held = u; is_held = some.2; clash = clash }) in
    let inside_is : p.inside ≡ u.inside = ap (λ (q : Mapping). q.inside) is.1 in
    let outside_is : p.outside ≡ u.outside = ap (λ (q : Mapping). q.outside) is.1 in (
      (λ e. elim (cases_Bool (same_endpoint p.outside s.outside)) [
        | inl same ↦ same_endpoint-true _ _ same
        | inr not_same ↦ absurd (apart (inr (inr (translated _ _ away, translated _ _ is.0, sym u_proto, inl (sym e ∙ inside_is, (λ f. translated _ _ not_same (outside_is ∙ sym f)))))))
      ]),
      (λ e. elim (cases_Bool (same_endpoint p.inside s.inside)) [
        | inl same ↦ same_endpoint-true _ _ same
        | inr not_same ↦ absurd (apart (inr (inr (translated _ _ away, translated _ _ is.0, sym u_proto, inr (sym e ∙ outside_is, (λ f. translated _ _ not_same (inside_is ∙ sym f)))))))
      ]),
    )

-- the session that a slot holds
pub held_there : (o : Option Session) → IsSome o → (s : Session) × (o ≡ Some s)
held_there None h = absurd (false≢true h)
held_there (Some s) h = (s, refl)
