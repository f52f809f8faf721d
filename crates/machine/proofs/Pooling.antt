-- What the legs come to with several addresses and each filtering, step by step.
use Rattle.std.proofs.Common.{◌≡◌, ◌≢◌, ℕ, ◌<◌, ◌^◌, List, ◌∷◌, ◌++◌, None, Result, Ok, Err, IfErr, false, refl, sym, ap, ◌∙◌, subst, inl, inr, arith}
use Rattle.std.specs.Prelude.{find}
use Rattle.std.specs.List.{AllByRecursion}
use Rattle.std.proofs.lemmas.Bool.{false≢true}
use Rattle.std.proofs.lemmas.Result.{IfOk-at_ok}
use Rattle.packet.specs.Config.{Config, Pool, is_inside}
use Rattle.packet.specs.declared.bounds.Filtering.TheVariants as filtering
use Rattle.packet.specs.declared.endpoint.Endpoint.{Endpoint}
use Rattle.packet.specs.declared.endpoint.Iface.TheVariants.{Lan, Wan}
use Rattle.packet.specs.declared.route.Route.{Route}
use Rattle.packet.specs.declared.route.Route.TheVariants.{Out, Hairpin, In as InRoute}
use Rattle.packet.specs.declared.view.View.{View}
use Rattle.packet.proofs.Routes.{routed_is_on_route}
use Rattle.portpick.specs.Choice.{AllTaken, IsAlike}
use Rattle.sessions.specs.Laws.{IsMapping}
use Rattle.sessions.specs.Life.{alive}
use Rattle.sessions.specs.Listing.{In, has_inside, has_outside, has_peer}
use Rattle.sessions.specs.Sound.{AreSound}
use Rattle.sessions.specs.Table.{HasOutside, HasPeer}
use Rattle.sessions.specs.declared.session.Session.{Session}
use Rattle.sessions.proofs.Found.{has_outside-true}
use Rattle.sessions.proofs.PeerFinds.{has_peer-true}
use Rattle.sessions.proofs.Puts.{find-none, find-some, has_inside-true}
use Rattle.hairpin.specs.Causes.{cause_number}
use Rattle.hairpin.specs.Legs.{Passage, in_leg, lets_in, maps_inside, maps_outside, needs_session}
use Rattle.hairpin.specs.declared.cause.Cause.{Cause}
use Rattle.hairpin.specs.declared.cause.Cause.TheVariants as cause
use Rattle.hairpin.proofs.Apart.{agree, find-In, maps-parts, maps_outside-from, maps_outside-parts}
use Rattle.hairpin.proofs.Strangers.{strangers}
use Rattle.hairpin.proofs.Soundness.{filter-sound}
use Rattle.hairpin.specs.Paired.{IsAt}
use Rattle.machine.specs.Hosts.{IsOccupied}
use Rattle.machine.specs.Judged.{Judged}
use Rattle.machine.specs.Laws.{Begins, Came, IsLeftAlone, Masquerades, living}
use Rattle.machine.specs.Machine.{State, leg, later, sent, step}
use Rattle.machine.specs.Sound.{IsSoundState}
use Rattle.machine.specs.declared.event.Answer.{Answer}
use Rattle.machine.specs.declared.event.Answer.TheVariants.{Dropped}
use Rattle.machine.proofs.Choosing.{hairpin-class, hairpin-paired, out-class, out-full, out-paired}
use Rattle.machine.proofs.Letting.{hairpin-stranger, in-known, in-stranger, kept-out, known-in, out-dropped}
use Rattle.machine.proofs.Passing.{act-told, answer-of, fault-not, route-not}
use Rattle.machine.proofs.Reading.{ports_are_some}
use Rattle.machine.proofs.Staying.{at-listed}

-- ---- new sessions

module _ (config : Config) (s : State) (judged : Judged) (bytes : List ℕ) (view : View) where
  abbrev held : List Session
  held = (living s judged).sessions

  abbrev now : ℕ
  now = later s.clock judged.moment

  live-sound : IsSoundState config s → AreSound config held
  live-sound sound = filter-sound config s.sessions sound.sessions (alive now)

  module _ (r : Route) (passage : Passage) (begins : Begins config s judged bytes view r passage) where
    none : find (has_inside view.proto view.src view.dst) held ≡ None
    none = find-none (has_inside view.proto view.src view.dst) held (λ u in_u passes. begins.new u in_u (has_inside-true view.proto view.src view.dst u passes))

    some : 0 < view.src.port
    some = (ports_are_some bytes view begins.came.fields_are).0

    unmapped : ((outside : Endpoint) → ¬ IsMapping held view.proto view.src outside) → find (maps_inside view.proto view.src) held ≡ None
    unmapped never = find-none (maps_inside view.proto view.src) held (λ u in_u passes.
        let parts = maps-parts view.proto view.src u passes in
        never u.outside (record { session = u; is_held = in_u; translated = parts.0; proto = parts.1; inside = parts.2; outside = refl }))

  pub paired-out : (passage : Passage) (addr : ℕ) → IsSoundState config s → Begins config s judged bytes view Out passage → Masquerades config s.rules view → IsAt held view.src.addr addr
      → IsAt held view.src.addr passage.src.addr
  paired-out passage addr sound begins masquerades at =
      IfOk-at_ok (λ (p : Passage). IsAt held view.src.addr p.src.addr) begins.passes
      (out-paired config s.rules held now view (none Out passage begins) addr at (at-listed config held view.src.addr (live-sound sound) addr at) masquerades)

  pub paired-hairpin : (passage : Passage) (addr : ℕ) → IsSoundState config s → Begins config s judged bytes view Hairpin passage → IsAt held view.src.addr addr
      → IsAt held view.src.addr passage.src.addr
  paired-hairpin passage addr sound begins at =
      IfOk-at_ok (λ (p : Passage). IsAt held view.src.addr p.src.addr) begins.passes
      (hairpin-paired config s.rules held now view (none Hairpin passage begins) addr at (at-listed config held view.src.addr (live-sound sound) addr at))

  abbrev KeepsClass : Endpoint → Type 0
  KeepsClass outside = outside ≢ view.src → IsAlike view.src.port outside.port × ¬ IsOccupied held view.proto outside.addr outside.port

  pub class-kept : (r : Route) (passage : Passage) → Begins config s judged bytes view r passage → view.src.port < 2 ^ 16 → ((outside : Endpoint) → ¬ IsMapping held view.proto view.src outside)
      → KeepsClass passage.src
  class-kept Out passage begins fits never =
      IfOk-at_ok (λ (p : Passage). KeepsClass p.src) begins.passes
      (out-class config s.rules held now view (none Out passage begins) (some Out passage begins) fits (unmapped Out passage begins never))
  class-kept Hairpin passage begins fits never =
      IfOk-at_ok (λ (p : Passage). KeepsClass p.src) begins.passes
      (hairpin-class config s.rules held now view (none Hairpin passage begins) (some Hairpin passage begins) fits (unmapped Hairpin passage begins never))
  class-kept InRoute passage begins fits never = let side : Lan ≡ Wan = (routed_is_on_route config Lan view InRoute begins.came.route_is).1.0 in absurd cc

  abbrev FullBefore : Endpoint → Type 0
  FullBefore outside = (before behind : Pool) × (config.external ≡ before ++ outside.addr ∷ behind)
      × AllByRecursion (λ addr. AllTaken (IsOccupied held view.proto addr) view.src.port) before

  pub passed-over : (passage : Passage) → Begins config s judged bytes view Out passage → view.src.port < 2 ^ 16 → Masquerades config s.rules view → ((addr : ℕ) → ¬ IsAt held view.src.addr addr)
      → FullBefore passage.src
  passed-over passage begins fits masquerades nowhere =
      IfOk-at_ok (λ (p : Passage). FullBefore p.src) begins.passes
      (out-full config s.rules held now view (none Out passage begins) (some Out passage begins) fits nowhere masquerades)

  -- ---- strangers

  no_session : ((u : Session) → In u held → ¬ HasOutside view.proto view.dst view.src u) → find (has_outside view.proto view.dst view.src) held ≡ None
  no_session new = find-none (has_outside view.proto view.dst view.src) held (λ u in_u passes. new u in_u (has_outside-true view.proto view.dst view.src u passes))

  pub known-alone : (passage : Passage) → config.filtering ≡ filtering.Address → leg config (living s judged) view InRoute ≡ Ok passage
      → ((u : Session) → In u held → ¬ HasOutside view.proto view.dst view.src u) → is_inside config view.dst.addr ≡ false → IsLeftAlone config s.rules view
      → (u : Session) × In u held × HasPeer view.proto passage.dst view.dst view.src.addr u
  known-alone passage by passes new outside alone =
      IfOk-at_ok (λ (p : Passage). (u : Session) × In u held × HasPeer view.proto p.dst view.dst view.src.addr u) passes
      (in-known config s.rules held now view by (no_session new) outside alone)

  pub stranger-drops : (inside : Endpoint) → IsSoundState config s → config.filtering ≡ filtering.Address → Came config judged Wan bytes view InRoute
      → ((u : Session) → In u held → ¬ HasOutside view.proto view.dst view.src u) → needs_session view ≡ false → is_inside config view.dst.addr ≡ false → IsLeftAlone config s.rules view
      → IsMapping held view.proto inside view.dst → ((u : Session) → In u held → ¬ HasPeer view.proto inside view.dst view.src.addr u)
      → (step config s judged).1 ≡ Dropped (cause_number cause.Filtered)
  stranger-drops inside sound by came new needs outside alone mapping unknown =
      let live = living s judged in
      let found = find-some (maps_outside view.proto view.dst) held mapping.session mapping.is_held (maps_outside-from view.proto view.dst mapping.session mapping.translated mapping.proto mapping.outside) in
      let m = found.0 in
      let parts = maps_outside-parts view.proto view.dst m found.3 in
      let same = agree held (live-sound sound).apart m mapping.session found.2 mapping.is_held parts.0 mapping.translated (parts.1 ∙ sym mapping.proto) in
      let inside_is : m.inside ≡ inside = same.1 (parts.2 ∙ sym mapping.outside) ∙ mapping.inside in
      let not_known = find-none (has_peer m.proto m.inside m.outside view.src.addr) held (λ u in_u passes.
      let peer = has_peer-true m.proto m.inside m.outside view.src.addr u passes in
      unknown u in_u (peer.0 ∙ parts.1, peer.1 ∙ inside_is, peer.2 ∙ parts.2, peer.3)) in
      answer-of config s judged Wan bytes view InRoute came
      ∙ ap (λ way. (sent live bytes way).1) (strangers config s.rules held now view m by (no_session new) needs outside alone found.1 not_known)

-- ---- what is dropped as Filtered

number-once : (c : Cause) → cause_number c ≡ 14 → c ≡ cause.Filtered
number-once (cause.Packet f) e = absurd (fault-not f e)
number-once (cause.Route f) e = absurd (route-not f e)
number-once cause.Filtered e = refl
number-once c e = absurd (omega (arith, e))

-- what is sent is dropped so only where its leg says so
sent-filtered : (s : State) (bytes : List ℕ) (Q : Cause → Type 0) (way : Result Passage Cause) → IfErr way Q → (sent s bytes way).1 ≡ Dropped (cause_number cause.Filtered) → Q cause.Filtered
sent-filtered s bytes Q (Ok passage) drops e = absurd cc
sent-filtered s bytes Q (Err c) drops e =
    let number : cause_number c ≡ 14 = cc in
    subst Q (number-once c number) drops

-- who is known is let in
pub known-let-in : (config : Config) (s : State) (judged : Judged) (bytes : List ℕ) (view : View) (t : Session) → IsSoundState config s → In t (living s judged).sessions
    → Came config judged Wan bytes view InRoute → HasPeer view.proto t.inside view.dst view.src.addr t → (step config s judged).1 ≢ Dropped (cause_number cause.Filtered)
known-let-in config s judged bytes view t sound in_t came peer e =
    let live = living s judged in
    let now = later s.clock judged.moment in
    let held = live.sessions in
    let all = live-sound config s judged bytes view sound in
    sent-filtered live bytes (λ c. c ≢ cause.Filtered) (in_leg config s.rules held now view)
    (in-stranger config s.rules held now view (λ c. c ≢ cause.Filtered) (λ c away. away) (λ m outside found keeps_out.
    let is = find-In (maps_outside view.proto view.dst) held m found in
    let parts = maps_outside-parts view.proto view.dst m is.1 in
    let away : t.inside ≢ t.outside = λ same. false≢true (sym outside ∙ ap (λ (x : Endpoint). is_inside config x.addr) (sym peer.2 ∙ sym same) ∙ (all.placed t in_t).inside) in
    let lets = known-in config.filtering config held all m t is.0 in_t parts.0 away (parts.1 ∙ sym peer.0) (parts.2 ∙ sym peer.2) in
    absurd (false≢true (sym keeps_out ∙ ap (λ a. lets_in config.filtering held m a) (sym peer.3) ∙ lets))))
    (sym (answer-of config s judged Wan bytes view InRoute came) ∙ e) refl

module _ (config : Config) (s : State) where
  abbrev ByAddress : Cause → Type 0
  ByAddress c = c ≡ cause.Filtered → config.filtering ≡ filtering.Address

  leg-filtered : (view : View) (r : Route) → IfErr (leg config s view r) ByAddress
  leg-filtered view Out = out-dropped config s.rules s.sessions s.clock view ByAddress (λ c away e. absurd (away e))
  leg-filtered view InRoute = in-stranger config s.rules s.sessions s.clock view ByAddress (λ c away e. absurd (away e))
      (λ m outside found keeps_out e. kept-out config.filtering s.sessions m view.src.addr keeps_out)
  leg-filtered view Hairpin = hairpin-stranger config s.rules s.sessions s.clock view ByAddress (λ c away e. absurd (away e))
      (λ held remote m keeps_out e. kept-out config.filtering held m remote keeps_out)

pub step-filtered : (config : Config) (s : State) (judged : Judged) → (step config s judged).1 ≡ Dropped (cause_number cause.Filtered) → config.filtering ≡ filtering.Address
unfolding step
step-filtered config s judged e =
    let live = living s judged in
    elim (act-told config live judged.deed) [
      | inl told ↦
          let way = leg config live told.2 told.3 in
          sent-filtered live told.1 (ByAddress config live) way (leg-filtered config live told.2 told.3) (ap (λ (done : State × Answer). done.1) (sym told.7) ∙ e) refl
      | inr rests ↦ absurd (rests.2 e)
    ]
