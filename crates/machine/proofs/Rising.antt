-- A step in its two parts: the clock rises and sessions end, and then the event is answered.
use Rattle.std.proofs.Common.{◌≡◌, ◌++◌, ℕ, List, length, Option, Result, Ok, Err, IfOk, OnErr, IsTrue, true, sym, ap, ◌∙◌, subst, inr, arith}
use Rattle.std.specs.List.{filter}
use Rattle.std.proofs.lemmas.Bool.{lt-ltb, ltb-true}
use Rattle.packet.specs.Config.{Config, is_config}
use Rattle.packet.specs.Fields.{fields}
use Rattle.packet.specs.Route.{route}
use Rattle.packet.specs.declared.endpoint.Iface.{Iface}
use Rattle.packet.specs.declared.route.Route.{Route}
use Rattle.packet.specs.declared.view.View.{View}
use Rattle.ruletree.specs.declared.tree.Spelled.{Spelled}
use Rattle.ruletext.specs.Texts.{Loads}
use Rattle.sessions.specs.Life.{alive}
use Rattle.sessions.specs.Listing.{In, listing}
use Rattle.sessions.specs.declared.session.Session.{Session}
use Rattle.sessions.proofs.Sets.{In-filter}
use Rattle.hairpin.specs.Legs.{Passage}
use Rattle.hairpin.specs.declared.cause.Cause.{Cause}
use Rattle.hairpin.specs.declared.plan.Plan.{Plan}
use Rattle.hairpin.proofs.Soundness.{filter-all}
use Rattle.durable.specs.Coding.{Entry}
use Rattle.machine.specs.Besides.{Besides}
use Rattle.machine.specs.Core.{AddsNoSession, IsCore, IsTransition, Parts, state_in, state_of}
use Rattle.machine.specs.Fates.{answer_of}
use Rattle.machine.specs.Flows.{Flows, IsWay}
use Rattle.machine.specs.Judged.{Judged, IsRight}
use Rattle.machine.specs.Machine.{State, EndsNone, KeepsCount, act, aged, later, leg, sent, step}
use Rattle.machine.specs.Noted.{AreEntriesOf, AreOver, ends, of_deed}
use Rattle.machine.specs.Outcomes.{Noted}
use Rattle.machine.specs.Sound.{IsSoundState}
use Rattle.machine.specs.declared.deed.Deed.{Deed}
use Rattle.machine.specs.declared.deed.Deed.TheVariants as deed
use Rattle.machine.specs.declared.event.Answer.{Answer}
use Rattle.machine.specs.declared.event.Fate.{Fate}
use Rattle.machine.specs.declared.fault.StepFault.{StepFault}
use Rattle.machine.proofs.Keepings.{noted-both}
use Rattle.machine.proofs.Lasting.{act-alive}
use Rattle.machine.proofs.Soundness.{act-sound, aged-sound, later-above}
use Rattle.machine.proofs.Steps.{few-acts, on_packet-is}

-- ---- the sessions end that are no longer alive

pub all-alive : (now : ℕ) (sessions : List Session) → filter (alive now) sessions ≡ sessions → (t : Session) → In t sessions → alive now t ≡ true
all-alive now sessions stay t held = (In-filter (alive now) sessions t (subst (In t) (sym stay) held)).1

module _ (config : Config) (text : List ℕ) (rules : Spelled) (old new : Flows) (clock moment now : ℕ) (is : now ≡ later clock moment)
    (ended : listing new.table.held ≡ filter (alive now) (listing old.table.held)) where
  pub core-aged : IsTrue (is_config config) → IsCore config text rules old clock → new.translations.external ≡ old.translations.external → IsCore config text rules new now
  core-aged is_one core external = record {
    external = external ∙ core.external;
    sound = subst (λ (ss : List Session). IsSoundState config (record (state_of text rules new.table.held now) { sessions = ss })) (sym ended)
        (aged-sound config is_one (state_of text rules old.table.held clock) core.sound now (omega (arith, later-above clock moment, is)));
    live = λ t held. (In-filter (alive now) (listing old.table.held) t (subst (In t) ended held)).1;
  }

-- ---- the event is answered at the clock's moment

pub core-takes : (config : Config) (text new : List ℕ) (rules loaded : Spelled) (flows : Flows) (clock : ℕ) → Loads config new loaded → IsCore config text rules flows clock → IsCore config new loaded flows clock
core-takes config text new rules loaded flows clock loads core =
    record { external = core.external; sound = record { sessions = core.sound.sessions; latest = core.sound.latest; in_force = inr loads }; live = core.live }

module _ (config : Config) (is_one : is_config config ≡ true) (text : List ℕ) (rules : Spelled) (old new : Flows) (clock : ℕ) (core : IsCore config text rules old clock)
    (external : new.translations.external ≡ old.translations.external) where
  abbrev s : State
  s = state_of text rules old.table.held clock

  core-same : new.table.held ≡ old.table.held → IsCore config text rules new clock
  core-same same = record {
    external = external ∙ core.external;
    sound = subst (λ (held : List (Option Session)). IsSoundState config (state_of text rules held clock)) (sym same) core.sound;
    live = subst (λ (held : List (Option Session)). EndsNone clock (state_of text rules held clock)) (sym same) core.live;
  }

  pub core-acts : (d : Deed) (answer : Answer) → IsRight config d → act config s d ≡ (state_of text rules new.table.held clock, answer) → IsCore config text rules new clock
  core-acts d answer right e =
      let is = ap (λ (p : State × Answer). p.0) e in
      record {
        external = external ∙ core.external;
        sound = subst (IsSoundState config) is (act-sound config is_one s core.sound d right);
        live = subst (EndsNone clock) is (λ t held. lt-ltb _ _ (act-alive config is_one s core.sound (λ u there. ltb-true _ _ (core.live u there)) d t held));
      }

  -- a packet passes or is dropped as its leg says, or nothing has changed
  module _ (iface : Iface) (bytes : List ℕ) (view : View) (r : Route) (fields_are : fields bytes ≡ Ok view) (route_is : route config iface view ≡ Ok r) where
    pub core-sent : (packet : List ℕ) (plan : Result Plan Cause) → IsWay old clock plan (leg config s view r) → (result : Result Fate StepFault)
        → IfOk result (λ fate. (way : Result Passage Cause) → IsWay old clock plan way → IsTransition (λ t. sent t bytes way) old.table.held new.table.held clock (answer_of fate packet))
        → OnErr result ((packet ≡ bytes) × (new.table.held ≡ old.table.held)) → IsCore config text rules new clock
    core-sent packet plan planned (Ok fate) ok err =
        core-acts (deed.Packet iface bytes) (answer_of fate packet) tt (on_packet-is config iface bytes view r fields_are route_is s ∙ ok (leg config s view r) planned text rules)
    core-sent packet plan planned (Err fault) ok err = core-same err.1

-- ---- both together

module _ (config : Config) (s mid : State) (judged : Judged) (is : mid ≡ aged (later s.clock judged.moment) s) where
  -- what is answered then is the step
  pub step-from : (done : State × Answer) → act config mid judged.deed ≡ done → step config s judged ≡ done
  unfolding step
  step-from done acts = ap (λ (t : State). act config t judged.deed) (sym is) ∙ acts

  -- and all entries are the event's
  pub noted-from : {N : Type 0} (keeps : N → Type 0) (beside : N → Besides) (noted : N → List Entry) (old between new : N) (gone : List Session) → AreOver (later s.clock judged.moment) s.sessions gone
      → Noted keeps beside noted old between (ends gone) → Noted keeps beside noted between new (of_deed config mid judged.deed)
      → keeps old → (entries : List Entry) × AreEntriesOf config s judged entries × (noted new ≡ noted old ++ entries)
  noted-from keeps beside noted old between new gone over one other kept = (
    ends gone ++ of_deed config mid judged.deed,
    record { gone = gone; are_over = over; are = ap (λ (t : State). ends gone ++ of_deed config t judged.deed) is },
    (noted-both keeps beside noted old between new (ends gone) (of_deed config mid judged.deed) one other).added kept,
  )

-- where none has ended, the clock alone has risen, and may be put back
pub put-back : (own : Parts) (mid : State) (moment clock : ℕ) → clock ≡ own.clock → EndsNone (later own.clock moment) (state_in own) → mid ≡ aged (later own.clock moment) (state_in own)
    → record mid { clock = clock } ≡ state_in own
put-back own mid moment clock value none is =
    let now = later own.clock moment in
    let stay = ap (λ (ss : List Session). record (state_in own) { sessions = ss; clock = now }) (filter-all (alive now) (listing own.flows.table.held) none) in
    ap (λ n. record mid { clock = n }) value ∙ ap (λ (t : State). record t { clock = own.clock }) (is ∙ stay)

-- and what adds no session to all adds none to those that are left
pub few-aged : (config : Config) (s mid : State) (judged : Judged) (now : ℕ) (d : Deed) → now ≡ later s.clock judged.moment → judged.deed ≡ d → EndsNone now s → mid ≡ aged now s
    → KeepsCount s (step config s judged) → KeepsCount mid (act config mid d)
few-aged config s mid judged now d e is none at few =
    subst (λ (t : State). KeepsCount t (act config t d)) (sym at) (few-acts config s judged now d e is few ∙ sym (ap length (filter-all (alive now) s.sessions none)))

-- nor does it matter to that which text and rules there are
pub few-any : (text : List ℕ) (rules : Spelled) (held : List (Option Session)) (now : ℕ) (bytes : List ℕ) (way : Result Passage Cause)
    → KeepsCount (state_of text rules held now) (sent (state_of text rules held now) bytes way) → AddsNoSession (λ t. sent t bytes way) held now
few-any text rules held now bytes (Ok passage) few = λ other_text other_rules. few
few-any text rules held now bytes (Err cause) few = λ other_text other_rules. few
