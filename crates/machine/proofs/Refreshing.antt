-- A packet that passes leaves by its session, and refreshes it.
use Rattle.std.proofs.Common.{◌≡◌, ◌⊎◌, ℕ, List, Some, Ok, true, false, not, refl, sym, ap, ◌∙◌, subst, inl, inr}
use Rattle.std.specs.List.{filter}
use Rattle.std.specs.Prelude.{find}
use Rattle.std.proofs.lemmas.Bool.{false≢true, false_from_ne_true}
use Rattle.packet.proofs.SameLemmas.{same_endpoint-itself}
use Rattle.packet.specs.Config.{Config}
use Rattle.packet.specs.Same.{same_endpoint}
use Rattle.packet.specs.Translated.{translated}
use Rattle.packet.specs.declared.endpoint.Endpoint.{Endpoint}
use Rattle.packet.specs.declared.endpoint.Iface.{Iface}
use Rattle.packet.specs.declared.route.Route.{Route}
use Rattle.packet.specs.declared.route.Route.TheVariants.{Out, Hairpin, In as InRoute}
use Rattle.packet.specs.declared.view.View.{View}
use Rattle.sessions.specs.Listing.{In, has_inside, has_outside, put, same_flow}
use Rattle.sessions.specs.declared.session.Opener.TheVariants.{Inside, Remote}
use Rattle.sessions.specs.declared.session.Session.{Session}
use Rattle.sessions.proofs.Found.{has_outside-true}
use Rattle.sessions.proofs.Puts.{has_inside-true}
use Rattle.sessions.proofs.Sets.{filter-In, insert-In}
use Rattle.hairpin.specs.Legs.{Passage, hairpin_leg, in_leg, out_leg, passed_by}
use Rattle.hairpin.proofs.Apart.{find-In}
use Rattle.hairpin.proofs.Doubling.{passed-keys, put-In}
use Rattle.machine.specs.Judged.{Judged}
use Rattle.machine.specs.Laws.{Came, living}
use Rattle.machine.specs.Machine.{State, leg, step}
use Rattle.machine.specs.Requirements.{LeavesBySession}
use Rattle.machine.specs.declared.event.Answer.TheVariants.{Forward}
use Rattle.machine.proofs.Left.{left, step-passed}
use Rattle.machine.proofs.Passages.{FirstBegins, FirstGoesOn, SecondBegins, SecondGoesOn, hairpin-told, in-told, new_in, new_out, out-told, passed-last}

-- a session of another flow stays
pub put-stays : (t u : Session) (sessions : List Session) → In u sessions → same_flow t u ≡ false → In u (put t sessions)
put-stays t u sessions is other = insert-In t (filter (λ v. not (same_flow t v)) sessions) u (inr (filter-In (λ v. not (same_flow t v)) sessions u is (ap not other)))

-- two sessions whose remote endpoints differ are of different flows
pub flows-differ : (t u : Session) → (t.remote ≡ u.remote → ⊥) → same_flow t u ≡ false
flows-differ t u away = false_from_ne_true _ (λ h. away (sym (has_inside-true t.proto t.inside t.remote u h).2))

module _ (config : Config) (live : State) (view : View) where
  -- the packet leaves so by the passage
  abbrev Leaves : List ℕ → Route → Passage → Type 0
  Leaves bytes r p = LeavesBySession (left live p) view r bytes p.iface (translated bytes p.src p.dst)

  abbrev sessions : List Session
  sessions = live.sessions

  abbrev now : ℕ
  now = live.clock

  -- the session that the packet goes out by, and the one that it comes in by from this endpoint
  abbrev IsFirst : Session → Type 0
  IsFirst t = (t.proto ≡ view.proto) × (t.inside ≡ view.src) × (t.remote ≡ view.dst) × (t.last ≡ now)

  abbrev IsFrom : Endpoint → Session → Type 0
  IsFrom src t = (t.proto ≡ view.proto) × (t.outside ≡ view.dst) × (t.remote ≡ src) × (t.last ≡ now)

  goes-on : (s : Session) → find (has_inside view.proto view.src view.dst) sessions ≡ Some s → IsFirst (passed_by s Inside view.flags now)
  goes-on s found =
      let has = has_inside-true view.proto view.src view.dst s (find-In (has_inside view.proto view.src view.dst) sessions s found).1 in
      let keys = passed-keys s Inside view.flags now in
      (sym keys.proto ∙ has.0, sym keys.inside ∙ has.1, sym keys.remote ∙ has.2, passed-last s Inside view.flags now)

  comes-on : (src : Endpoint) (held : List Session) (s : Session) → find (has_outside view.proto view.dst src) held ≡ Some s → IsFrom src (passed_by s Remote view.flags now)
  comes-on src held s found =
      let has = has_outside-true view.proto view.dst src s (find-In (has_outside view.proto view.dst src) held s found).1 in
      let keys = passed-keys s Remote view.flags now in
      (sym keys.proto ∙ has.0, sym keys.outside ∙ has.1, sym keys.remote ∙ has.2, passed-last s Remote view.flags now)

  leaves-out : (bytes : List ℕ) (p : Passage) → out_leg config live.rules sessions now view ≡ Ok p → Leaves bytes Out p
  leaves-out bytes p h = elim (out-told config live.rules sessions now view p h) [
    | inl on ↦
        let t = passed_by on.0 Inside view.flags now in
        let is = goes-on on.0 on.1 in
        subst (Leaves bytes Out) (sym on.2) (t, (is.0, is.1, is.2), (put-In t sessions, is.3), refl, refl)
    | inr new ↦
        let t = new_out config live.rules sessions now view new.2.0 in
        subst (Leaves bytes Out) (sym new.2.2) (t, (refl, refl, refl), (put-In t sessions, refl), refl, refl)
  ]

  leaves-in : (bytes : List ℕ) (p : Passage) → in_leg config live.rules sessions now view ≡ Ok p → Leaves bytes InRoute p
  leaves-in bytes p h = elim (in-told config live.rules sessions now view p h) [
    | inl on ↦
        let t = passed_by on.0 Remote view.flags now in
        let is = comes-on view.src sessions on.0 on.1 in
        subst (Leaves bytes InRoute) (sym on.2) (t, (is.0, is.1, is.2), (put-In t sessions, is.3), refl, refl)
    | inr new ↦
        let t = new_in config live.rules sessions now view new.2.0 in
        subst (Leaves bytes InRoute) (sym new.2.3) (t, (refl, refl, refl), (put-In t sessions, refl), refl, refl)
  ]

  -- ---- hairpin

  pub first-used : (first : Session) → FirstGoesOn config live.rules sessions now view first ⊎ FirstBegins config live.rules sessions now view first → IsFirst first
  first-used first (inl on) = subst IsFirst (sym on.2) (goes-on on.0 on.1)
  first-used first (inr new) = subst IsFirst (sym new.2.2) (refl, refl, refl, refl)

  pub second-used : (first t : Session) (held : List Session) → SecondGoesOn config live.rules sessions now view first held t ⊎ SecondBegins config live.rules sessions now view first held t → IsFrom first.outside t
  second-used first t held (inl on) = subst (IsFrom first.outside) (sym on.2) (comes-on first.outside held on.0 on.1)
  second-used first t held (inr new) = subst (IsFrom first.outside) (sym new.2.3) (refl, refl, refl, refl)

  -- the second is of another flow than the first
  pub apart-flows : (first t : Session) → IsFirst first → IsFrom first.outside t → same_endpoint first.outside view.dst ≡ false → same_flow t first ≡ false
  apart-flows first t is far away = flows-differ t first (λ e.
      false≢true (sym away ∙ subst (λ (x : Endpoint). same_endpoint first.outside x ≡ true) (sym far.2 ∙ e ∙ is.2) (same_endpoint-itself first.outside)))

  leaves-both : (bytes : List ℕ) (p : Passage) → hairpin_leg config live.rules sessions now view ≡ Ok p → Leaves bytes Hairpin p
  leaves-both bytes p h =
      let both = hairpin-told config live.rules sessions now view p h in
      let first = both.first in
      let t = both.far in
      let is = first-used first both.by_first in
      let far = second-used first t (put first sessions) both.by_far in
      let stays = put-stays t first (put first sessions) (put-In first sessions) (apart-flows first t is far both.away) in
      subst (Leaves bytes Hairpin) (sym both.are)
      (first, (is.0, is.1, is.2), (stays, is.3), (t, (far.0, far.1, far.2), (put-In t (put first sessions), far.3), refl, refl))

  pub leaves : (bytes : List ℕ) (r : Route) (p : Passage) → leg config live view r ≡ Ok p → Leaves bytes r p
  leaves bytes Out = leaves-out bytes
  leaves bytes InRoute = leaves-in bytes
  leaves bytes Hairpin = leaves-both bytes

pub packets-leave : (config : Config) (s : State) (judged : Judged) (iface : Iface) (bytes : List ℕ) (view : View) (r : Route) (out : Iface) (packet : List ℕ)
    → Came config judged iface bytes view r → (step config s judged).1 ≡ Forward out packet → LeavesBySession (step config s judged).0 view r bytes out packet
packets-leave config s judged iface bytes view r out packet came e =
    let passed = step-passed config s judged iface bytes view r out packet came e in
    let p = passed.passage in
    let leave : State → Iface → List ℕ → Type 0 = λ a o b. LeavesBySession a view r bytes o b in
    subst (λ a. leave a out packet) (sym passed.after_is)
    (subst (leave (left (living s judged) p) out) (sym passed.packet_is)
    (subst (λ o. leave (left (living s judged) p) o (translated bytes p.src p.dst)) (sym passed.out_is) (leaves config (living s judged) view bytes r p passed.passes)))
