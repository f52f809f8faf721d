-- A host stays at one external address, step by step.
use Rattle.std.proofs.Common.{◌≡◌, ℕ, List, [], ◌∷◌, Contains, Result, IfOk, true, map, refl, sym, subst, inl, inr}
use Rattle.packet.specs.Config.{Config, is_config}
use Rattle.packet.specs.declared.route.Route.{Route}
use Rattle.packet.specs.declared.route.Route.TheVariants.{Out, In, Hairpin}
use Rattle.packet.specs.declared.view.View.{View}
use Rattle.sessions.specs.Life.{alive}
use Rattle.sessions.specs.Listing.{In as Member}
use Rattle.sessions.specs.Sound.{AreSound}
use Rattle.sessions.specs.Stilled.{at_moment, stilled}
use Rattle.sessions.specs.declared.session.Session.{Session}
use Rattle.sessions.proofs.Sets.{In-filter}
use Rattle.sessions.proofs.Stilled.{In-map}
use Rattle.hairpin.specs.Legs.{Passage, put_all}
use Rattle.hairpin.specs.declared.cause.Cause.{Cause}
use Rattle.hairpin.specs.Paired.{IsAt, IsAtOne, Translates}
use Rattle.machine.specs.Hosts.{IsLeftToPool, LeaveToPool}
use Rattle.machine.specs.Judged.{Judged, AreJudged}
use Rattle.machine.specs.Laws.{living}
use Rattle.machine.specs.Machine.{State, act, after, aged, later, leg, step}
use Rattle.machine.specs.Noted.{IsResumed, lasting}
use Rattle.machine.specs.Sound.{IsSoundState}
use Rattle.machine.specs.declared.deed.Deed.{Deed}
use Rattle.machine.specs.declared.event.Event.{Event}
use Rattle.machine.proofs.Hosts.{hairpin-keeps, in-keeps, out-keeps}
use Rattle.machine.proofs.Soundness.{done-by, living-sound, step-sound}

-- what a host of sound sessions is at is an address of the pool
pub at-listed : (config : Config) (sessions : List Session) (host : ℕ) → AreSound config sessions → (addr : ℕ) → IsAt sessions host addr → Contains config.external addr
at-listed config sessions host sound addr at = elim (sound.placed at.0 at.1).outside [ inl same ↦ absurd (at.2.0 (sym same)) | inr listed ↦ subst (λ a. Contains config.external a) at.3 listed ]

-- a host is at no more addresses where there are fewer sessions
fewer-one : (s : State) (now host : ℕ) → IsAtOne s.sessions host → IsAtOne (aged now s).sessions host
fewer-one s now host one addr other at at_other =
    let held : (u : Session) → Member u (aged now s).sessions → Member u s.sessions = λ u is. (In-filter (alive now) s.sessions u is).0 in
    one addr other (at.0, held at.0 at.1, at.2, at.3) (at_other.0, held at_other.0 at_other.1, at_other.2, at_other.3)

module _ (config : Config) (host : ℕ) (s : State) (sound : AreSound config s.sessions) (free : LeaveToPool config s.rules host) (one : IsAtOne s.sessions host) where
  leg-one : (view : View) (r : Route) → IfOk (leg config s view r) (λ passage. IsAtOne (put_all passage.sessions s.sessions) host)
  leg-one view Out = out-keeps config s.rules s.clock view host free s.sessions one (at-listed config s.sessions host sound)
  leg-one view In = in-keeps config s.rules s.clock view host free s.sessions one (at-listed config s.sessions host sound)
  leg-one view Hairpin = hairpin-keeps config s.rules s.clock view host free s.sessions one (at-listed config s.sessions host sound)

  act-one : (d : Deed) → IsAtOne (act config s d).0.sessions host
  act-one d = done-by config s d (λ done. IsAtOne done.0.sessions host) (λ a. one) (λ text rules e. one)
      (λ iface bytes view r deed_is fields_are route_is p h. subst (λ (way : Result Passage Cause). IfOk way (λ passage. IsAtOne (put_all passage.sessions s.sessions) host)) h (leg-one view r)) d refl

module _ (config : Config) (is_one : is_config config ≡ true) (host : ℕ) where
  step-one : (s : State) (judged : Judged) → IsSoundState config s → LeaveToPool config s.rules host → IsAtOne s.sessions host → IsAtOne (step config s judged).0.sessions host
  unfolding step
  step-one s judged sound free one =
      act-one config host (living s judged) (living-sound config is_one s judged sound).sessions free (fewer-one s (later s.clock judged.moment) host one) judged.deed

  pub run-one : (s : State) (events : List Event) (judged : List Judged) → AreJudged config events judged → IsSoundState config s → IsLeftToPool config host s judged → IsAtOne s.sessions host
      → IsAtOne (after config s judged).sessions host
  run-one s [] [] are sound free one = one
  run-one s [] (j ∷ more) are sound free one = absurd are
  run-one s (event ∷ events) [] are sound free one = absurd are
  run-one s (event ∷ events) (j ∷ more) are sound free one =
      run-one (step config s j).0 events more are.1 (step-sound config is_one s j are.0.right sound) free.1 (step-one s j sound free.0 one)

-- at another moment a session has the endpoints that it had
moved-at : (moment host addr : ℕ) (sessions : List Session) → IsAt (map (at_moment moment) sessions) host addr → IsAt sessions host addr
moved-at moment host addr sessions at =
    let s = In-map (at_moment moment) sessions at.0 at.1 in
    (s.0, s.1, subst (Translates host) s.2 at.2, subst (λ (t : Session). t.outside.addr ≡ addr) s.2 at.3)

resumed-at : (config : Config) (s again : State) (moment host addr : ℕ) → IsResumed config (lasting s) moment again → IsAt again.sessions host addr → IsAt s.sessions host addr
resumed-at config s again moment host addr resumed at =
    moved-at 0 host addr s.sessions (moved-at moment host addr (map stilled s.sessions) (subst (λ (ss : List Session). IsAt ss host addr) resumed.sessions at))

pub resumed-one : (config : Config) (s again : State) (moment host : ℕ) → IsResumed config (lasting s) moment again → IsAtOne s.sessions host → IsAtOne again.sessions host
resumed-one config s again moment host resumed one addr other at at_other =
    one addr other (resumed-at config s again moment host addr resumed at) (resumed-at config s again moment host other resumed at_other)
