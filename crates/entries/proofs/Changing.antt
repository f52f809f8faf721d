-- Entries by which sessions take their places.
use Rattle.std.proofs.Common.{◌≡◌, inl, inr, ℕ, List, [], ◌∷◌, Option, Some, None, Bool, true, false, cond, not, nat_lt, ◌==◌, if◌then◌else◌, refl, sym, ap, subst, ◌∙◌, map}
use Rattle.std.specs.Prelude.{find}
use Rattle.std.specs.List.{filter}
use Rattle.std.proofs.lemmas.Bool.{cases_Bool, false≢true, false_from_ne_true, not-true, and_parts}
use Rattle.std.proofs.lemmas.Option.{none-some}
use Rattle.packet.specs.Config.{Config}
use Rattle.packet.specs.declared.endpoint.Endpoint.{Endpoint}
use Rattle.packet.specs.declared.endpoint.Proto.{Proto}
use Rattle.packet.proofs.Accepted.{same_eq}
use Rattle.sessions.specs.declared.session.Opener.{Opener}
use Rattle.sessions.specs.declared.session.Opener.TheVariants.{Inside, Remote}
use Rattle.sessions.specs.declared.session.Session.{Session}
use Rattle.sessions.specs.Life.{same_side}
use Rattle.sessions.specs.Listing.{key, In, Rises, insert, put, same_flow}
use Rattle.sessions.specs.Stilled.{stilled}
use Rattle.sessions.proofs.Stilled.{In-map, map-In, Rises-map, insert-moved, one-of-key, sound-moved}
use Rattle.sessions.proofs.Puts.{find-some, flow-keys, has_inside-true}
use Rattle.sessions.proofs.Sets.{rising-unique, In-filter, In-insert, filter-In, insert-In}
use Rattle.hairpin.specs.Legs.{put_all}
use Rattle.sessions.specs.Sound.{AreSound}
use Rattle.sessions.specs.Table.{amended}
use Rattle.hairpin.proofs.Apart.{find-In}
use Rattle.hairpin.proofs.Soundness.{Joins, JoinEach, filter-all}
use Rattle.machine.specs.Noted.{goes_on, is_unchanged, entries_for, entries_for_all, entries_making}
use Rattle.durable.specs.Coding.{Entry, Begin, Seen, Restart}
use Rattle.durable.specs.Entering.{durable, Enters, is_of_flow, flow_of, changed, seen_so}
use Rattle.durable.specs.declared.entry.Flow.{Flow}
use Rattle.entries.proofs.Stilled.{join, named-stilled, stilled-of}

-- ---- what makes one session

made : Proto → Endpoint → Endpoint → Endpoint → Opener → ℕ → Session
made proto inside outside remote opener seen = record { proto = proto; inside = inside; outside = outside; remote = remote; opener = opener; seen = seen; last = 0 }

-- two sessions without their moments are one where all else is one
pub same-stilled : (s t : Session) → s.proto ≡ t.proto → s.inside ≡ t.inside → s.outside ≡ t.outside → s.remote ≡ t.remote → s.opener ≡ t.opener → s.seen ≡ t.seen → stilled s ≡ stilled t
unfolding made
same-stilled s t p i o r op se =
    ap (λ x. made x s.inside s.outside s.remote s.opener s.seen) p
    ∙ ap (λ x. made t.proto x s.outside s.remote s.opener s.seen) i
    ∙ ap (λ x. made t.proto t.inside x s.remote s.opener s.seen) o
    ∙ ap (λ x. made t.proto t.inside t.outside x s.opener s.seen) r
    ∙ ap (λ x. made t.proto t.inside t.outside t.remote x s.seen) op
    ∙ ap (λ x. made t.proto t.inside t.outside t.remote t.opener x) se

pub side-true : (a b : Opener) → same_side a b ≡ true → a ≡ b
side-true Inside Inside h = refl
side-true Inside Remote h = absurd (false≢true h)
side-true Remote Inside h = absurd (false≢true h)
side-true Remote Remote h = refl

unchanged : (f : Flow) (ss : List Session) → changed f (λ s. s) ss ≡ ss
unchanged f [] = refl
unchanged f (s ∷ ss) = elim (cases_Bool (is_of_flow f s)) [
  | inl yes_of ↦ ap (λ (b : Bool). cond b s s ∷ changed f (λ x. x) ss) yes_of ∙ ap (λ (l : List Session). s ∷ l) (unchanged f ss)
  | inr no_of ↦ ap (λ (b : Bool). cond b s s ∷ changed f (λ x. x) ss) no_of ∙ ap (λ (l : List Session). s ∷ l) (unchanged f ss)
]

-- ---- a change of the session of a flow, against the session put in

module _ (t s : Session) (ss : List Session) (rises : Rises ss) (rises_put : Rises (put t ss)) (in_s : In s ss) (own : same_flow t s ≡ true)
    (g : Session → Session) (keeps : (x : Session) → key (g x) ≡ key x) (fits : g (stilled s) ≡ stilled t) where
  abbrev h : Session → Session
  h x = cond (is_of_flow (flow_of t) x) (g x) x

  h-own : h (stilled s) ≡ stilled t
  h-own = ap (λ (b : Bool). cond b (g (stilled s)) (stilled s)) (stilled-of (flow_of t) s ∙ own) ∙ fits

  h-other : (u : Session) → same_flow t u ≡ false → h (stilled u) ≡ stilled u
  h-other u other = ap (λ (b : Bool). cond b (g (stilled u)) (stilled u)) (stilled-of (flow_of t) u ∙ other)

  h-key : (x : Session) → key (h x) ≡ key x
  h-key x = elim (cases_Bool (is_of_flow (flow_of t) x)) [
    | inl yes_of ↦ ap (λ (b : Bool). key (cond b (g x) x)) yes_of ∙ keeps x
    | inr no_of ↦ ap (λ (b : Bool). key (cond b (g x) x)) no_of
  ]

  to-put : (x : Session) → In x (map h (map stilled ss)) → In x (map stilled (put t ss))
  to-put x is =
      let y = In-map h (map stilled ss) x is in
      let u = In-map stilled ss y.0 y.1 in
      let e : x ≡ h (stilled u.0) = y.2 ∙ ap h u.2 in
      elim (cases_Bool (same_flow t u.0)) [
        | inl same ↦
            let k : u.0 ≡ s = one-of-key ss rises u.0 s u.1 in_s (flow-keys t u.0 same ∙ sym (flow-keys t s own)) in
            subst (λ z. In z (map stilled (put t ss))) (sym (e ∙ ap (λ z. h (stilled z)) k ∙ h-own))
            (map-In stilled (put t ss) t (insert-In t (filter (λ v. not (same_flow t v)) ss) t (inl refl)))
        | inr other ↦
            subst (λ z. In z (map stilled (put t ss))) (sym (e ∙ h-other u.0 other))
            (map-In stilled (put t ss) u.0 (insert-In t (filter (λ v. not (same_flow t v)) ss) u.0 (inr (filter-In (λ v. not (same_flow t v)) ss u.0 u.1 (ap not other)))))
      ]

  from-put : (x : Session) → In x (map stilled (put t ss)) → In x (map h (map stilled ss))
  from-put x is =
      let v = In-map stilled (put t ss) x is in
      elim (In-insert t (filter (λ u. not (same_flow t u)) ss) v.0 v.1) [
        | inl e ↦
            subst (λ z. In z (map h (map stilled ss))) (h-own ∙ ap stilled (sym e) ∙ sym v.2) (map-In h (map stilled ss) (stilled s) (map-In stilled ss s in_s))
        | inr old ↦
            let kept = In-filter (λ u. not (same_flow t u)) ss v.0 old in
            subst (λ z. In z (map h (map stilled ss))) (h-other v.0 (not-true _ kept.1) ∙ sym v.2) (map-In h (map stilled ss) (stilled v.0) (map-In stilled ss v.0 kept.0))
      ]

  pub changed-put : changed (flow_of t) g (map stilled ss) ≡ map stilled (put t ss)
  changed-put =
      rising-unique (map h (map stilled ss)) (map stilled (put t ss))
      (Rises-map h h-key (map stilled ss) (Rises-map stilled (λ x. refl) ss rises))
      (Rises-map stilled (λ x. refl) (put t ss) rises_put)
      to-put from-put

-- ---- the entries of one change

module _ (config : Config) (now : ℕ) (text : List ℕ) where
  abbrev Leads : List Entry → List Session → List Session → Type 0
  Leads es old new = Enters config es (durable text (map stilled old)) (durable text (map stilled new))

  module _ (ss : List Session) (t : Session) (sound : AreSound config ss) (joins : Joins config ss now t) where
    begin-enters : find (same_flow t) ss ≡ None → Leads (Begin (stilled t) ∷ []) ss (put t ss)
    begin-enters none =
        let none_of : (u : Session) → In u ss → same_flow t u ≡ false = λ u in_u. false_from_ne_true _ (λ h.
        let found = find-some (same_flow t) ss u in_u h in none-some found.0 (sym none ∙ found.1)) in
        let same : insert (stilled t) (map stilled ss) ≡ map stilled (put t ss) = insert-moved 0 t ss
        ∙ ap (λ (l : List Session). map stilled (insert t l)) (sym (filter-all (λ u. not (same_flow t u)) ss (λ u in_u. ap not (none_of u in_u)))) in (
          subst (AreSound config) (sym same) (sound-moved config 0 (put t ss) joins.sound),
          ap (durable text) (sym same),
        )

    module _ (s : Session) (in_s : In s ss) (own : same_flow t s ≡ true) where
      on-enters : (b c : Bool) → is_unchanged s t ≡ b → goes_on s t ≡ c
          → Leads (if b then [] else (if c then Seen (flow_of t) t.seen ∷ [] else Restart (flow_of t) t.opener t.seen ∷ [])) ss (put t ss)
      on-enters true c same e =
          let has = has_inside-true t.proto t.inside t.remote s own in
          let parts = and_parts (same_side s.opener t.opener) (s.seen == t.seen) same in
          let fits = same-stilled s t has.0 has.1 (joins.keeps s in_s own) has.2 (side-true s.opener t.opener parts.0) (same_eq s.seen t.seen parts.1) in
          ap (durable text) (sym (changed-put t s ss sound.rises joins.sound.rises in_s own (λ x. x) (λ x. refl) fits) ∙ unchanged (flow_of t) (map stilled ss))
      on-enters false true other e =
          let has = has_inside-true t.proto t.inside t.remote s own in
          let parts = and_parts (same_side s.opener t.opener) (nat_lt 0 t.seen) e in
          let fits : seen_so t.seen (stilled s) ≡ stilled t = same-stilled (seen_so t.seen s) t has.0 has.1 (joins.keeps s in_s own) has.2 (side-true s.opener t.opener parts.0) refl in
          (named-stilled (flow_of t) ss s in_s own, ap (durable text) (sym (changed-put t s ss sound.rises joins.sound.rises in_s own (seen_so t.seen) (λ x. refl) fits)))
      on-enters false false other e =
          let has = has_inside-true t.proto t.inside t.remote s own in
          let fits : amended t.opener t.seen (stilled s) ≡ stilled t = same-stilled (amended t.opener t.seen s) t has.0 has.1 (joins.keeps s in_s own) has.2 refl refl in
          (named-stilled (flow_of t) ss s in_s own, ap (durable text) (sym (changed-put t s ss sound.rises joins.sound.rises in_s own (amended t.opener t.seen) (λ x. refl) fits)))

    by-enters : (o : Option Session) → find (same_flow t) ss ≡ o → Leads (entries_making o t) ss (put t ss)
    by-enters None e = begin-enters e
    by-enters (Some s) e = let is = find-In (same_flow t) ss s e in on-enters s is.0 is.1 (is_unchanged s t) (goes_on s t) refl refl

    pub noted-enters : Leads (entries_for ss t) ss (put t ss)
    noted-enters = by-enters (find (same_flow t) ss) refl

  -- and of several
  pub all-enter : (ts ss : List Session) → AreSound config ss → JoinEach config ss now ts → Leads (entries_for_all ts ss) ss (put_all ts ss)
  all-enter [] ss sound joins = refl
  all-enter (t ∷ ts) ss sound joins =
      join config (entries_for ss t) (entries_for_all ts (put t ss))
      (durable text (map stilled ss)) (durable text (map stilled (put t ss))) (durable text (map stilled (put_all ts (put t ss))))
      (noted-enters ss t sound joins.0) (all-enter ts (put t ss) joins.0.sound joins.1)
