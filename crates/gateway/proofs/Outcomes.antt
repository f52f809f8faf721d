-- Whether an event is taken.
use Rattle.std.proofs.Common.{◌≡◌, ◌≢◌, ◌⊎◌, ◌↔◌, inl, inr, ℕ, ◌+◌, ◌-◌, ◌^◌, ◌<◌, false, List, [], ◌∷◌, ◌++◌, length, sym, ◌∙◌, ap, subst, arith, IsTrue}
use Rattle.std.proofs.lemmas.Bool.{cases_lt, false≢true}
use Rattle.packet.specs.Config.{is_config}
use Rattle.durable.specs.Coding.{Entry, body_bytes}
use Rattle.machine.specs.Judged.{Judged, IsJudged, IsNoLoad}
use Rattle.machine.specs.Machine.{EndsNone, KeepsCount, State, later, step}
use Rattle.machine.specs.Noted.{AreEntriesOf, HasEntry}
use Rattle.machine.specs.Sizes.{most_bytes}
use Rattle.machine.specs.Sound.{IsSoundState}
use Rattle.machine.specs.declared.event.Answer.{Answer}
use Rattle.machine.specs.declared.event.Event.{Event}
use Rattle.gateway.specs.Given.{IsNow, answer_given, given_by, handed}
use Rattle.gateway.specs.HeldAnswers.{Gives, HeldAnswers}
use Rattle.gateway.specs.Kept.{Kept, IsTooMuch}
use Rattle.gateway.specs.Taking.{Refuses, TakesInPlace}
use Rattle.gateway.specs.declared.fault.GatewayFault.{GatewayFault}
use Rattle.gateway.specs.declared.fault.GatewayFault.TheVariants as fault
use Rattle.gateway.specs.declared.given.GivenInPlace.{GivenInPlace}
use Rattle.gateway.proofs.Bodies.{filled-on}
use Rattle.gateway.proofs.Offering.{at_once, none_of, roomy_enough}

-- its step is done, and its answer is given
pub takes_step : {D : Type 0} (old new : Kept D) (event : Event) (judged : Judged) (entries : List Entry) (one : Answer) (taken : GivenInPlace) (packet : List ℕ) (were mid are : HeldAnswers)
    → IsTrue (is_config old.told.config) → IsSoundState old.told.config old.told.state → IsJudged old.told.config event judged
    → step old.told.config old.told.state judged ≡ (new.told.state, one) → AreEntriesOf old.told.config old.told.state judged entries → mid.entries ≡ were.entries ++ entries
    → mid.place ≡ were.place → mid.held ≡ were.held → Gives mid are (given_by taken packet) (old.told.last + 1, one) → answer_given taken packet ≡ (old.told.last + 1, one)
    → (were.held ≡ [] → were.entries ≡ [])
    → ((other : Judged) → IsJudged old.told.config event other → judged ≡ other) → old.told.held ≡ were.held → new.told.held ≡ are.held
    → old.filled ≡ were.place + length (body_bytes were.entries) → new.filled ≡ are.place + length (body_bytes are.entries) → new.told.config ≡ old.told.config
    → new.told.last ≡ old.told.last + 1 → old.fallen ≡ false → old.told.last < 2 ^ 64 - 1 → length old.told.held < 64 → TakesInPlace old new event taken packet
takes_step old new event judged entries one taken packet were mid are is_one sound is_judged steps of noted place held gives told none once was is filled_was filled_is config last stands left few =
    let given = given_by taken packet in
    let order : handed given ++ new.told.held ≡ old.told.held ++ (old.told.last + 1, one) ∷ [] =
    ap (λ (h : List (ℕ × Answer)). handed given ++ h) is ∙ gives.order ∙ ap (λ (h : List (ℕ × Answer)). h ++ (old.told.last + 1, one) ∷ []) (held ∙ sym was) in
    record {
      takes = record {
        took = record {
          judged = judged;
          is_judged = is_judged;
          config = config;
          state = sym (ap (λ (p : State × Answer). p.0) steps);
          last = last;
          number = gives.number ∙ sym last;
          order = order ∙ ap (λ (a : Answer). old.told.held ++ (old.told.last + 1, a) ∷ []) (sym (ap (λ (p : State × Answer). p.1) steps));
        };
        now = λ other is_other.
            subst (λ (j : Judged). IsNow given ↔ ((old.told.held ≡ []) × ¬ HasEntry old.told.config old.told.state j)) (once other is_other)
            (at_once old.told.config old.told.state event judged entries were.entries mid.entries old.told.held mid.held (IsNow given) is_one sound is_judged of noted
            (λ empty. none (sym was ∙ empty)) (held ∙ sym was) gives.now gives.quiet);
        filled = (
          judged,
          entries,
          is_judged,
          of,
          filled_is ∙ filled-on were.place are.place were.entries are.entries entries (gives.place ∙ place) (gives.entries ∙ noted)
              ∙ ap (λ (n : ℕ). n + length (body_bytes entries)) (sym filled_was),
        );
        stood = stands;
        numbers_left = left;
        held_few = few;
      };
      answer = order ∙ ap (λ (a : ℕ × Answer). old.told.held ++ a ∷ []) (sym told);
    }

-- ---- why an event isn't taken

module _ {D : Type 0} (old : Kept D) (event : Event) (why : GatewayFault) where
  -- its step isn't done
  pub refuses_step : old.fallen ≡ false → old.told.last < 2 ^ 64 - 1 → length old.told.held < 64 → IsTrue (is_config old.told.config) → IsSoundState old.told.config old.told.state
      → (why ≡ fault.Full) ⊎ (why ≡ fault.NoMemory) → (why ≡ fault.Full → IsTooMuch old.filled old.told.config old.told.state event)
      → (IsNoLoad event.what → (judged : Judged) → IsJudged old.told.config event judged → EndsNone (later old.told.state.clock event.moment) old.told.state
      → KeepsCount old.told.state (step old.told.config old.told.state judged) → why ≡ fault.NoMemory → 67108864 < old.filled + most_bytes judged.deed + 6 → ⊥)
      → (IsNoLoad event.what → (judged : Judged) → IsJudged old.told.config event judged → AreEntriesOf old.told.config old.told.state judged [] → ⊥)
      → Refuses old event why
  refuses_step stands left few is_one sound either full no_memory quiet = record {
    reopen = (λ is. absurd (other fault.Reopen is (λ bad. absurd cc) (λ bad. absurd cc)), λ fallen. absurd (false≢true (sym stands ∙ fallen)));
    numbers_out = (λ is. absurd (other fault.NumbersOut is (λ bad. absurd cc) (λ bad. absurd cc)), λ none. let last = none.1 in absurd (omega (arith, left, last)));
    held_full = (λ is. absurd (other fault.HeldFull is (λ bad. absurd cc) (λ bad. absurd cc)), λ all. let held = all.2 in absurd (omega (arith, few, held)));
    full = full;
    roomy = λ room is.
        let much = full is in
        roomy_enough old.told.config old.told.state (later old.told.state.clock event.moment) old.filled much.gone much.judged.deed sound much.are_over much.is_judged.right room much.over;
    no_memory = λ none judged is_judged ends keeps is.
        elim (cases_lt 67108864 (old.filled + most_bytes judged.deed + 6)) [ inl over ↦ absurd (no_memory none judged is_judged ends keeps is over) | inr fits ↦ fits ];
    causes = (λ is. other fault.Device is (λ bad. absurd cc) (λ bad. absurd cc), λ is. other fault.Generations is (λ bad. absurd cc) (λ bad. absurd cc));
    quiet = λ _ _ _ none judged is_judged needless.
        quiet none judged is_judged (none_of old.told.config old.told.state event judged is_one sound is_judged needless);
  }
    where
      other : (which : GatewayFault) → why ≡ which → which ≢ fault.Full → which ≢ fault.NoMemory → ⊥
      other which is first second = elim either [ inl e ↦ first (sym is ∙ e) | inr e ↦ second (sym is ∙ e) ]
