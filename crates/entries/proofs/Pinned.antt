-- Which entry a session makes, and the passing of a packet.
use Rattle.std.proofs.Common.{◌≡◌, ◌≢◌, ℕ, ◌<◌, List, [], ◌∷◌, Bool, true, false, nat_lt, bit_or, ◌&&◌, ◌==◌, if◌then◌else◌, refl, sym, ap, subst, ◌∙◌, arith}
use Rattle.std.proofs.lemmas.Bool.{and_from, and_parts, false≢true, false_from_ne_true, lt-ltb}
use Rattle.std.proofs.lemmas.Nat.{le_or_l}
use Rattle.packet.specs.declared.endpoint.Flags.{Flags}
use Rattle.packet.proofs.Accepted.{same_eq}
use Rattle.sessions.specs.declared.session.Opener.{Opener}
use Rattle.sessions.specs.declared.session.Session.{Session}
use Rattle.sessions.specs.Life.{is_closing, is_syn_alone, restarts, same_side, shown}
use Rattle.sessions.specs.Listing.{In, Rises, put, same_flow}
use Rattle.sessions.specs.Table.{restarted, seen}
use Rattle.sessions.proofs.Stilled.{one-of-key}
use Rattle.sessions.proofs.Puts.{find-is, flow-keys, keys-flow}
use Rattle.hairpin.specs.Legs.{passed_by}
use Rattle.hairpin.proofs.Doubling.{find-put, passed-flow}
use Rattle.machine.specs.Noted.{between, goes_on, is_unchanged, entries_for, entries_making}
use Rattle.durable.specs.Coding.{Restart, Seen}
use Rattle.durable.specs.Entering.{flow_of}
use Rattle.entries.proofs.Changing.{side-true}
use Rattle.entries.proofs.Needed.{nothing-between, number-itself, side-itself}

right_false : (a b : Bool) → b ≡ false → (a && b) ≡ false
right_false true b h = h
right_false false b h = refl

seen-between : (s t : Session) → is_unchanged s t ≡ false → goes_on s t ≡ true → between s t ≡ Seen (flow_of t) t.seen ∷ []
seen-between s t other on =
    ap (λ (b : Bool). if b then [] else (if goes_on s t then Seen (flow_of t) t.seen ∷ [] else Restart (flow_of t) t.opener t.seen ∷ [])) other
    ∙ ap (λ (b : Bool). if b then Seen (flow_of t) t.seen ∷ [] else Restart (flow_of t) t.opener t.seen ∷ []) on

restart-between : (s t : Session) → is_unchanged s t ≡ false → goes_on s t ≡ false → between s t ≡ Restart (flow_of t) t.opener t.seen ∷ []
restart-between s t other anew =
    ap (λ (b : Bool). if b then [] else (if goes_on s t then Seen (flow_of t) t.seen ∷ [] else Restart (flow_of t) t.opener t.seen ∷ [])) other
    ∙ ap (λ (b : Bool). if b then Seen (flow_of t) t.seen ∷ [] else Restart (flow_of t) t.opener t.seen ∷ []) anew

other-bits : (s t : Session) → s.seen ≢ t.seen → is_unchanged s t ≡ false
other-bits s t other = right_false (same_side s.opener t.opener) (s.seen == t.seen) (false_from_ne_true _ (λ h. other (same_eq s.seen t.seen h)))

one-side : (a b : Opener) → a ≡ b → same_side a b ≡ true
one-side a b e = ap (same_side a) (sym e) ∙ side-itself a

module _ (s t : Session) where
  pub told-nothing : s.opener ≡ t.opener → s.seen ≡ t.seen → between s t ≡ []
  told-nothing opener bits =
      nothing-between s t (and_from (same_side s.opener t.opener) (s.seen == t.seen) (one-side s.opener t.opener opener) (ap (λ n. s.seen == n) (sym bits) ∙ number-itself s.seen))

  pub told-seen : s.opener ≡ t.opener → s.seen ≢ t.seen → 0 < t.seen → between s t ≡ Seen (flow_of t) t.seen ∷ []
  told-seen opener other some =
      seen-between s t (other-bits s t other) (and_from (same_side s.opener t.opener) (nat_lt 0 t.seen) (one-side s.opener t.opener opener) (lt-ltb _ _ some))

  pub told-emptied : s.seen ≢ t.seen → t.seen ≡ 0 → between s t ≡ Restart (flow_of t) t.opener t.seen ∷ []
  told-emptied other none = restart-between s t (other-bits s t other) (right_false (same_side s.opener t.opener) (nat_lt 0 t.seen) (ap (nat_lt 0) none))

  pub told-turned : s.opener ≢ t.opener → between s t ≡ Restart (flow_of t) t.opener t.seen ∷ []
  told-turned other =
      let side : same_side s.opener t.opener ≡ false = false_from_ne_true _ (λ h. other (side-true s.opener t.opener h)) in
      restart-between s t (ap (λ (b : Bool). b && (s.seen == t.seen)) side) (ap (λ (b : Bool). b && nat_lt 0 t.seen) side)

-- ---- the passing of a packet

-- a session that is closing has seen something
closing-some : (n : ℕ) → is_closing n ≡ true → n ≢ 0
unfolding is_closing
closing-some n h = λ none. false≢true (subst (λ m. is_closing m ≡ true) none h)

module _ (ss : List Session) (rises : Rises ss) (s : Session) (in_s : In s ss) (sender : Opener) (flags : Flags) (now : ℕ) where
  abbrev t : Session
  t = passed_by s sender flags now

  abbrev bits : ℕ
  bits = shown s.proto s.opener sender flags

  is-between : entries_for ss t ≡ between s t
  is-between =
      let own = passed-flow s sender flags now in
      ap (λ o. entries_making o t) (find-is (same_flow t) ss s in_s own (λ u in_u h. one-of-key ss rises u s in_u in_s (flow-keys t u h ∙ sym (flow-keys t s own))))

  pub pinned-restart : restarts s flags ≡ true → entries_for ss t ≡ Restart (flow_of s) sender 0 ∷ []
  pinned-restart anew =
      is-between
      ∙ ap (λ (b : Bool). between s (if b then restarted s sender now else seen s bits now)) anew
      ∙ told-emptied s (restarted s sender now) (closing-some s.seen (and_parts (is_syn_alone flags) (is_closing s.seen) anew).1) refl

  on-between : restarts s flags ≡ false → entries_for ss t ≡ between s (seen s bits now)
  on-between on = is-between ∙ ap (λ (b : Bool). between s (if b then restarted s sender now else seen s bits now)) on

  pub pinned-nothing : restarts s flags ≡ false → bit_or s.seen bits ≡ s.seen → entries_for ss t ≡ []
  pinned-nothing on old = on-between on ∙ told-nothing s (seen s bits now) refl (sym old)

  pub pinned-seen : restarts s flags ≡ false → bit_or s.seen bits ≢ s.seen → entries_for ss t ≡ Seen (flow_of s) (bit_or s.seen bits) ∷ []
  pinned-seen on new = on-between on ∙ told-seen s (seen s bits now) refl (λ e. new (sym e)) (omega (arith, le_or_l s.seen bits, new))

-- ---- a change of another flow makes no difference

other-way : (t u v : Session) → same_flow u t ≡ false → same_flow t v ≡ true → same_flow u v ≡ false
other-way t u v other h = false_from_ne_true _ (λ k. false≢true (sym other ∙ keys-flow u t (sym (flow-keys u v k) ∙ flow-keys t v h)))

pub noted-apart : (ss : List Session) (t u : Session) → same_flow u t ≡ false → entries_for (put t ss) u ≡ entries_for ss u
noted-apart ss t u other = ap (λ o. entries_making o u) (find-put (same_flow u) t ss other (λ v in_v h. other-way t u v other h))
