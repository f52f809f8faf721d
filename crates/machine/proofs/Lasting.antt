-- What lasts over a step.
use Rattle.std.proofs.Common.{◌≡◌, ℕ, ◌<◌, ◌≤◌, List, true, false, if◌then◌else◌, Bool, refl, sym, ap, ◌∙◌, subst, inl, inr, arith}
use Rattle.std.proofs.lemmas.Bool.{lt-ltb, ltb-true}
use Rattle.packet.specs.Config.{Config, is_config}
use Rattle.packet.specs.declared.endpoint.Endpoint.{Endpoint}
use Rattle.packet.specs.declared.endpoint.Proto.{Proto}
use Rattle.packet.specs.declared.endpoint.Proto.TheVariants.{Tcp, Udp}
use Rattle.ruletree.specs.declared.tree.Spelled.{Spelled}
use Rattle.sessions.specs.Laws.{IsMapping}
use Rattle.sessions.specs.Life.{IsAlive, alive, is_acknowledged, is_closing, timeout_by, timeout_in}
use Rattle.sessions.specs.declared.life.Phase.TheVariants.{Partial, Established, Closing}
use Rattle.sessions.specs.Listing.{In}
use Rattle.sessions.specs.declared.session.Session.{Session}
use Rattle.sessions.proofs.Sets.{In-filter, filter-In}
use Rattle.machine.specs.Judged.{Judged, IsJudged, IsNoLoad}
use Rattle.machine.specs.Laws.{living}
use Rattle.machine.specs.Machine.{State, act, aged, later, step}
use Rattle.machine.specs.Sound.{IsSoundState}
use Rattle.machine.specs.declared.event.Answer.{Answer}
use Rattle.machine.specs.declared.event.Answer.TheVariants.{Dropped}
use Rattle.machine.specs.declared.event.Answer.TheVariants as answer
use Rattle.machine.specs.declared.event.Event.{Event}
use Rattle.machine.specs.declared.deed.Deed.{Deed}
use Rattle.machine.specs.declared.deed.Deed.TheVariants as deed
use Rattle.hairpin.proofs.Apart.{agree}
use Rattle.machine.proofs.Judging.{no_take}
use Rattle.machine.proofs.Soundness.{act-by, living-sound, put_all-member}

-- the endpoints of two mappings of a protocol are one at one side where they are one at the other
pub mappings-agree : (config : Config) (s : State) (proto : Proto) (inside inside' outside outside' : Endpoint) → IsSoundState config s → IsMapping s.sessions proto inside outside → IsMapping s.sessions proto inside' outside'
    → (inside ≡ inside' → outside ≡ outside') × (outside ≡ outside' → inside ≡ inside')
mappings-agree config s proto inside inside' outside outside' sound a b =
    let same = agree s.sessions sound.sessions.apart a.session b.session a.is_held b.is_held a.translated b.translated (a.proto ∙ sym b.proto) in
    ((λ e. sym a.outside ∙ same.0 (a.inside ∙ e ∙ sym b.inside) ∙ b.outside), (λ e. sym a.inside ∙ same.1 (a.outside ∙ e ∙ sym b.outside) ∙ b.inside))

-- a session of TCP may be idle for some time, whatever its phase
pub least-phase : (closing established : Bool) → 240 ≤ timeout_in (if closing then Closing else (if established then Established else Partial))
least-phase true established = omega arith
least-phase false true = omega arith
least-phase false false = omega arith

pub timeout-some : (proto : Proto) (seen : ℕ) → 0 < timeout_by proto seen
timeout-some Udp seen = omega arith
timeout-some Tcp seen = omega (arith, least-phase (is_closing seen) (is_acknowledged seen))

pub alive-last : (now : ℕ) (t : Session) → t.last ≡ now → IsAlive now t
alive-last now t e = omega (arith, timeout-some t.proto t.seen, e)

module _ (config : Config) (is_one : is_config config ≡ true) where
  pub step-clock : (s : State) (judged : Judged) → IsSoundState config s → (step config s judged).0.clock ≡ later s.clock judged.moment
  unfolding step
  step-clock s judged sound =
      act-by config is_one (living s judged) (living-sound config is_one s judged sound) (λ p. p.0.clock ≡ later s.clock judged.moment) (λ a. refl) (λ ts iface bytes joins. refl) judged.deed (λ text rules e. refl)

  pub step-dropped : (s : State) (judged : Judged) (number : ℕ) → IsSoundState config s → (step config s judged).1 ≡ Dropped number → (step config s judged).0 ≡ aged (later s.clock judged.moment) s
  unfolding step
  step-dropped s judged number sound =
      act-by config is_one (living s judged) (living-sound config is_one s judged sound) (λ p. p.1 ≡ Dropped number → p.0 ≡ living s judged) (λ a e. refl) (λ ts iface bytes joins e. cc) judged.deed (λ text rules e dropped. cc)

  pub act-alive : (s : State) → IsSoundState config s → ((t : Session) → In t s.sessions → IsAlive s.clock t) → (d : Deed) (t : Session) → In t (act config s d).0.sessions → IsAlive s.clock t
  act-alive s sound lives d = act-by config is_one s sound (λ p. (t : Session) → In t p.0.sessions → IsAlive s.clock t) (λ a. lives)
      (λ ts iface bytes joins u is. elim (put_all-member ts s.sessions u is) [ inl new ↦ alive-last s.clock u (joins.last u new) | inr old ↦ lives u old ])
      d (λ text rules e. lives)

  lives-then : (s : State) (judged : Judged) (t : Session) → IsSoundState config s → In t (step config s judged).0.sessions → IsAlive (later s.clock judged.moment) t
  unfolding step
  lives-then s judged t sound is =
      act-alive (living s judged) (living-sound config is_one s judged sound) (λ u in_u. ltb-true _ _ (In-filter (alive (later s.clock judged.moment)) s.sessions u in_u).1) judged.deed t is

  pub step-alive : (s : State) (judged : Judged) (t : Session) → IsSoundState config s → In t (step config s judged).0.sessions → IsAlive (step config s judged).0.clock t
  step-alive s judged t sound is = subst (λ n. IsAlive n t) (sym (step-clock s judged sound)) (lives-then s judged t sound is)

  -- a mapping stays while a session of it is alive
  pub step-maps : (s : State) (judged : Judged) (proto : Proto) (inside outside : Endpoint) (m : IsMapping s.sessions proto inside outside) → IsSoundState config s → IsAlive (later s.clock judged.moment) m.session
      → IsMapping (step config s judged).0.sessions proto inside outside
  unfolding step
  step-maps s judged proto inside outside m sound lives =
      let held = filter-In (alive (later s.clock judged.moment)) s.sessions m.session m.is_held (lt-ltb _ _ lives) in
      let there : IsMapping (living s judged).sessions proto inside outside = record { session = m.session; is_held = held; translated = m.translated; proto = m.proto; inside = m.inside; outside = m.outside } in
      act-by config is_one (living s judged) (living-sound config is_one s judged sound) (λ p. IsMapping p.0.sessions proto inside outside) (λ a. there)
      (λ ts iface bytes joins.
      let kept = joins.keeps m.session held in
      record { session = kept.0; is_held = kept.1; translated = λ e. m.translated (sym kept.3 ∙ e ∙ kept.4); proto = kept.2 ∙ m.proto; inside = kept.3 ∙ m.inside; outside = kept.4 ∙ m.outside })
      judged.deed (λ text rules e. there)

  -- nothing but a load changes the text and its rules
  abbrev Unchanged : State → State × Answer → Type 0
  Unchanged s done = (done.0.text ≡ s.text) × (done.0.rules ≡ s.rules)

  pub step-unchanged : (s : State) (event : Event) (judged : Judged) → IsSoundState config s → IsJudged config event judged → IsNoLoad event.what → Unchanged s (step config s judged)
  unfolding step
  step-unchanged s event judged sound is none =
      act-by config is_one (living s judged) (living-sound config is_one s judged sound) (Unchanged s) (λ a. (refl, refl)) (λ ts iface bytes joins. (refl, refl)) judged.deed
      (λ text rules e. absurd (no_take judged.deed (subst IsNoLoad is.what none) text rules e))

-- what a load does
pub step-takes : (config : Config) (s : State) (judged : Judged) (text : List ℕ) (rules : Spelled) → judged.deed ≡ deed.Take text rules
    → step config s judged ≡ (record (aged (later s.clock judged.moment) s) { text = text; rules = rules }, answer.Loaded)
unfolding step
step-takes config s judged text rules e = ap (act config (aged (later s.clock judged.moment) s)) e

pub step-refuses : (config : Config) (s : State) (judged : Judged) (text : List ℕ) → judged.deed ≡ deed.Refuse text → step config s judged ≡ (aged (later s.clock judged.moment) s, answer.Refused)
unfolding step
step-refuses config s judged text e = ap (act config (aged (later s.clock judged.moment) s)) e
