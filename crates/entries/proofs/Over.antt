-- Sessions that end, in any order, leave those that are alive.
use Rattle.std.proofs.Common.{◌≡◌, inl, inr, ℕ, List, [], ◌∷◌, Bool, true, false, not, refl, sym, ap, subst, ◌∙◌, map}
use Rattle.std.specs.List.{filter}
use Rattle.std.proofs.lemmas.Bool.{false≢true, false_from_ne_true, not-true}
use Rattle.packet.specs.Config.{Config}
use Rattle.sessions.specs.declared.session.Session.{Session}
use Rattle.sessions.specs.Life.{alive}
use Rattle.sessions.specs.Listing.{key, In, Rises, same_flow}
use Rattle.sessions.specs.Stilled.{stilled}
use Rattle.sessions.proofs.Puts.{flow-keys, keys-flow}
use Rattle.sessions.proofs.Stilled.{one-of-key}
use Rattle.sessions.proofs.Sets.{rising-unique, Rises-filter, In-filter, filter-In}
use Rattle.hairpin.proofs.Soundness.{filter-all}
use Rattle.machine.specs.Noted.{AreOver, ends}
use Rattle.durable.specs.Entering.{durable, Enters, flow_of, ended}
use Rattle.entries.proofs.Stilled.{ended-stilled, named-stilled}

true_unless : (b : Bool) → (b ≡ false → ⊥) → b ≡ true
true_unless true h = refl
true_unless false h = absurd (h refl)

-- the sessions of other flows
abbrev others : Session → List Session → List Session
others t ss = filter (λ u. not (same_flow t u)) ss

module _ (now : ℕ) (t : Session) (ss : List Session) (rises : Rises ss) (in_t : In t ss) (dead : alive now t ≡ false) where
  one : (u : Session) → In u ss → same_flow t u ≡ true → u ≡ t
  one u in_u h = one-of-key ss rises u t in_u in_t (flow-keys t u h)

  same-living : filter (alive now) (others t ss) ≡ filter (alive now) ss
  same-living = rising-unique (filter (alive now) (others t ss)) (filter (alive now) ss)
      (Rises-filter (alive now) (others t ss) (Rises-filter (λ u. not (same_flow t u)) ss rises))
      (Rises-filter (alive now) ss rises)
      (λ u is.
      let a = In-filter (alive now) (others t ss) u is in
      filter-In (alive now) ss u (In-filter (λ v. not (same_flow t v)) ss u a.0).0 a.1)
      (λ u is.
      let a = In-filter (alive now) ss u is in
      filter-In (alive now) (others t ss) u
      (filter-In (λ v. not (same_flow t v)) ss u a.0 (ap not (false_from_ne_true _ (λ h. false≢true (sym dead ∙ ap (alive now) (sym (one u a.0 h)) ∙ a.1)))))
      a.1)

  rest-over : (ts : List Session) → AreOver now ss (t ∷ ts) → AreOver now (others t ss) ts
  rest-over ts are = record {
    distinct = are.distinct.1;
    over = λ u in_u.
        let old = are.over u (inr in_u) in
        (filter-In (λ v. not (same_flow t v)) ss u old.0 (ap not (false_from_ne_true _ (λ h. are.distinct.0 (subst (λ x. In x ts) (one u old.0 h) in_u)))), old.1);
    all = λ u in_u gone.
        let old = In-filter (λ v. not (same_flow t v)) ss u in_u in
        elim (are.all u old.0 gone) [
          | inl e ↦ absurd (false≢true (sym (not-true _ old.1) ∙ keys-flow t u (ap key (sym e))))
          | inr there ↦ there
        ];
  }

module _ (config : Config) (now : ℕ) (text : List ℕ) where
  pub ends-enter : (ts ss : List Session) → Rises ss → AreOver now ss ts → Enters config (ends ts) (durable text (map stilled ss)) (durable text (map stilled (filter (alive now) ss)))
  ends-enter [] ss rises are = ap (λ (l : List Session). durable text (map stilled l)) (filter-all (alive now) ss (λ s is. true_unless (alive now s) (λ dead. are.all s is dead)))
  ends-enter (t ∷ ts) ss rises are =
      let is = are.over t (inl refl) in
      let way : ended (flow_of t) (map stilled ss) ≡ map stilled (others t ss) = ended-stilled (flow_of t) ss in
      let rest = ends-enter ts (others t ss) (Rises-filter (λ u. not (same_flow t u)) ss rises) (rest-over now t ss rises is.0 is.1 ts are) in
      let new : List Session = map stilled (filter (alive now) ss) in (
        named-stilled (flow_of t) ss t is.0 (keys-flow t t refl),
        subst (λ (l : List Session). Enters config (ends ts) (durable text l) (durable text new)) (sym way)
            (subst (λ (l : List Session). Enters config (ends ts) (durable text (map stilled (others t ss))) (durable text (map stilled l))) (same-living now t ss rises is.0 is.1) rest),
      )
