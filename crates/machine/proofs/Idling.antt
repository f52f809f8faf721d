-- A session lives its time, and no longer.
use Rattle.std.proofs.Common.{◌≡◌, ℕ, ◌+◌, ◌<◌, ◌≤◌, true, List, [], ◌∷◌, bit_or, refl, sym, ap, ◌∙◌, subst, inl, inr, arith}
use Rattle.std.proofs.lemmas.Bool.{lt-ltb, ltb-true}
use Rattle.packet.specs.Config.{Config, is_config}
use Rattle.packet.specs.declared.endpoint.Flags.{Flags}
use Rattle.packet.specs.declared.endpoint.Proto.{Proto}
use Rattle.packet.specs.declared.endpoint.Proto.TheVariants.{Tcp, Udp}
use Rattle.sessions.specs.Life.{alive, is_acknowledged, is_closing, phase_of, shown, timeout_by, timeout_in, timeout_of}
use Rattle.sessions.specs.Listing.{In}
use Rattle.sessions.specs.Table.{HasInside, restarted, seen}
use Rattle.sessions.specs.declared.life.Phase.TheVariants.{Established}
use Rattle.sessions.specs.declared.session.Opener.{Opener}
use Rattle.sessions.specs.declared.session.Session.{Session}
use Rattle.sessions.proofs.Puts.{keys-from}
use Rattle.sessions.proofs.Sets.{In-filter, filter-In}
use Rattle.machine.specs.Judged.{AreJudged, Judged}
use Rattle.machine.specs.Machine.{State, after, later, step}
use Rattle.machine.specs.Requirements.{Began, GoesOn, GoesOnEstablished, MayAlwaysBeIdle, MayBeIdle, SessionsLiveTheirTime, StaysOpen, WentOn}
use Rattle.machine.specs.Sound.{IsSoundState}
use Rattle.machine.specs.declared.event.Event.{Event}
use Rattle.machine.proofs.Enduring.{established-on, never-restarts, stays-open}
use Rattle.machine.proofs.Lasting.{least-phase, step-clock, timeout-some}
use Rattle.machine.proofs.Lived.{living-stay}
use Rattle.machine.proofs.Passing.{one-of-flow}
use Rattle.machine.proofs.Soundness.{later-above, run-keeps, step-sound}

-- ---- the times

idle-time : (t : Session) (seconds : ℕ) → MayBeIdle t seconds → timeout_of t ≡ seconds
idle-time t seconds (inl udp) = ap (λ p. timeout_by p t.seen) udp.0 ∙ sym udp.1
idle-time t seconds (inr (inl partial)) = ap (λ p. timeout_by p t.seen) partial.0 ∙ ap timeout_in partial.1 ∙ sym partial.2
idle-time t seconds (inr (inr (inl established))) = ap (λ p. timeout_by p t.seen) established.0 ∙ ap timeout_in established.1 ∙ sym established.2
idle-time t seconds (inr (inr (inr closing))) = ap (λ p. timeout_by p t.seen) closing.0 ∙ ap timeout_in closing.1 ∙ sym closing.2

least-time : (proto : Proto) (seen seconds : ℕ) → MayAlwaysBeIdle proto seconds → seconds ≤ timeout_by proto seen
least-time Udp seen seconds least = omega (arith, least)
least-time Tcp seen seconds least = omega (arith, least, least-phase (is_closing seen) (is_acknowledged seen))

alive-within : (now : ℕ) (t : Session) (seconds : ℕ) → seconds ≤ timeout_of t → now < t.last + seconds → alive now t ≡ true
alive-within now t seconds within before = lt-ltb _ _ (omega (arith, timeout-some t.proto t.seen, within, before))

-- ---- over a step

abbrev itself : (s : State) (t : Session) → In t s.sessions → GoesOn s t
itself s t is = record { session = t; is_held = is; flow = (refl, refl, refl); outside = refl; last = omega arith }

-- what goes on from a later state of it goes on from this one
abbrev goes-further : (s : State) (t u : Session) → HasInside t.proto t.inside t.remote u → u.outside ≡ t.outside → t.last ≤ u.last → GoesOn s u → GoesOn s t
goes-further s t u flow outside le on =
    record { session = on.session; is_held = on.is_held; flow = (on.flow.0 ∙ flow.0, on.flow.1 ∙ flow.1, on.flow.2 ∙ flow.2); outside = on.outside ∙ outside; last = omega (arith, le, on.last) }

as-went : (s : State) (t u : Session) (sender : Opener) (flags : Flags) (now : ℕ) → t.last ≤ now → In u s.sessions → WentOn t sender flags now u → GoesOn s t
as-went s t u sender flags now le is (inl on) = let v = seen t (shown t.proto t.opener sender flags) now in goes-further s t v (refl, refl, refl) refl le (itself s v (subst (λ x. In x s.sessions) on.1 is))
as-went s t u sender flags now le is (inr anew) = let v = restarted t sender now in goes-further s t v (refl, refl, refl) refl le (itself s v (subst (λ x. In x s.sessions) anew.1 is))

goes-on : (config : Config) (s : State) (judged : Judged) (t : Session) → IsSoundState config s → In t s.sessions → alive (later s.clock judged.moment) t ≡ true → GoesOn (step config s judged).0 t
goes-on config s judged t sound is lives =
    let now = later s.clock judged.moment in
    let le : t.last ≤ now = omega (arith, sound.latest t is, later-above s.clock judged.moment) in
    elim (living-stay config s judged t sound (filter-In (alive now) s.sessions t is lives)) [
      | inl held ↦ itself (step config s judged).0 t held
      | inr passed ↦ as-went (step config s judged).0 t passed.session passed.sender passed.view.flags now le passed.is_held passed.went_on
    ]

begins-anew : (config : Config) (s : State) (judged : Judged) (t u : Session) (seconds : ℕ) → IsSoundState config s → In t s.sessions → timeout_of t ≡ seconds → t.last + seconds ≤ later s.clock judged.moment
    → In u (step config s judged).0.sessions → HasInside t.proto t.inside t.remote u → Began config s judged u
begins-anew config s judged t u seconds sound is time over held flow =
    let now = later s.clock judged.moment in
    record {
      is_held = held;
      new = λ v in_v own.
          let was = In-filter (alive now) s.sessions v in_v in
          let it = one-of-flow s.sessions sound.sessions.rises v t was.0 is (keys-from t v (own.0 ∙ flow.0, own.1 ∙ flow.1, own.2 ∙ flow.2)) in
          omega (arith, time, over, ltb-true _ _ (ap (alive now) (sym it) ∙ was.1));
    }

-- ---- over a run

module _ (config : Config) (is_one : is_config config ≡ true) where
  run-clock : (s : State) (events : List Event) (judged : List Judged) → AreJudged config events judged → IsSoundState config s → s.clock ≤ (after config s judged).clock
  run-clock s events judged are sound = run-keeps config is_one (λ at. s.clock ≤ at.clock)
      (λ at j right before le. omega (arith, le, later-above at.clock j.moment, step-clock config is_one at j before)) s events judged are sound (omega arith)

  run-goes-on : (s : State) (events : List Event) (judged : List Judged) (t : Session) (seconds : ℕ) → AreJudged config events judged → IsSoundState config s → In t s.sessions → MayAlwaysBeIdle t.proto seconds
      → (after config s judged).clock < t.last + seconds → GoesOn (after config s judged) t
  run-goes-on s [] [] t seconds are sound is least before = itself s t is
  run-goes-on s [] (j ∷ more) t seconds are sound is least before = absurd are
  run-goes-on s (event ∷ events) [] t seconds are sound is least before = absurd are
  run-goes-on s (event ∷ events) (j ∷ more) t seconds are sound is least before =
      let sound' = step-sound config is_one s j are.0.right sound in
      let until = run-clock (step config s j).0 events more are.1 sound' in
      let now_before : later s.clock j.moment < t.last + seconds = omega (arith, step-clock config is_one s j sound, until, before) in
      let on = goes-on config s j t sound is (alive-within (later s.clock j.moment) t seconds (least-time t.proto t.seen seconds least) now_before) in
      goes-further (after config (step config s j).0 more) t on.session on.flow on.outside on.last
      (run-goes-on (step config s j).0 events more on.session seconds are.1 sound' on.is_held (subst (λ p. MayAlwaysBeIdle p seconds) (sym on.flow.0) least) (omega (arith, on.last, before)))

  run-established : (s : State) (events : List Event) (judged : List Judged) (t : Session) → AreJudged config events judged → IsSoundState config s → In t s.sessions → t.proto ≡ Tcp → phase_of t.seen ≡ Established
      → StaysOpen config s judged t → (after config s judged).clock < t.last + 7440 → GoesOnEstablished (after config s judged) t
  run-established s [] [] t are sound is tcp phase left_open before =
      record { goes_on = itself s t is; phase = phase; opener = refl }
  run-established s [] (j ∷ more) t are sound is tcp phase left_open before = absurd are
  run-established s (event ∷ events) [] t are sound is tcp phase left_open before = absurd are
  run-established s (event ∷ events) (j ∷ more) t are sound is tcp phase left_open before =
      let sound' = step-sound config is_one s j are.0.right sound in
      let next = (step config s j).0 in
      let now = later s.clock j.moment in
      let until = run-clock next events more are.1 sound' in
      let now_before : now < t.last + 7440 = omega (arith, step-clock config is_one s j sound, until, before) in
      let time = idle-time t 7440 (inr (inr (inl (tcp, phase, refl)))) in
      let lives = alive-within now t 7440 (omega (arith, time)) now_before in
      let le : t.last ≤ now = omega (arith, sound.latest t is, later-above s.clock j.moment) in
      elim (living-stay config s j t sound (filter-In (alive now) s.sessions t is lives)) [
        | inl held ↦ run-established next events more t are.1 sound' held tcp phase left_open.1 before
        | inr p ↦ elim p.went_on [
          | inl on ↦
              let left = left_open.0 p.iface p.bytes p.view p.way p.sender p.came p.is_of in
              let bits = shown t.proto t.opener p.sender p.view.flags in
              let u = seen t bits now in
              let phase' : phase_of u.seen ≡ Established = subst (λ (proto : Proto). phase_of (bit_or t.seen (shown proto t.opener p.sender p.view.flags)) ≡ Established) (sym tcp)
              (established-on t.seen t.opener p.sender p.view.flags phase left.0 left.1) in
              let k = run-established next events more u are.1 sound' (subst (λ (v : Session). In v next.sessions) on.1 p.is_held) tcp phase' (stays-open config next more t bits now left_open.1) (omega (arith, le, before)) in
              record { goes_on = goes-further (after config next more) t u (refl, refl, refl) refl le k.goes_on; phase = k.phase; opener = k.opener }
          | inr anew ↦ absurd (never-restarts t p.view.flags phase anew.0)
        ]
      ]

pub live-their-time : SessionsLiveTheirTime
live-their-time = record {
  lives = λ config s judged t seconds sound is idle before. goes-on config s judged t sound is (alive-within (later s.clock judged.moment) t seconds (omega (arith, idle-time t seconds idle)) before);
  ends = λ config s judged t u seconds sound is idle over held flow. begins-anew config s judged t u seconds sound is (idle-time t seconds idle) over held flow;
  runs = λ config s events judged t seconds is_one. run-goes-on config is_one s events judged t seconds;
  established = λ config s events judged t is_one. run-established config is_one s events judged t;
}
