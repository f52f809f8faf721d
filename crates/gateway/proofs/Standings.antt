-- What the files stand for after any calls.
use Rattle.std.proofs.Common.{◌≡◌, inl, inr, ℕ, ◌+◌, ◌-◌, List, [], ◌∷◌, ◌++◌, true, length, take, refl, sym, ◌∙◌, ap, subst, arith, append_assoc, length-append}
use Rattle.std.proofs.lemmas.List.{append-nil, take_all, take-append-le}
use Rattle.packet.specs.Config.{Config, is_config}
use Rattle.durable.specs.Entering.{Enters}
use Rattle.machine.specs.Judged.{Judged, IsJudged, AreJudged}
use Rattle.machine.specs.Machine.{State, step, after}
use Rattle.machine.specs.Noted.{HasEntry, lasting}
use Rattle.machine.specs.Sound.{IsSoundState}
use Rattle.machine.specs.declared.event.Event.{Event}
use Rattle.machine.proofs.Judging.{AreJudged-append, AreJudged-one}
use Rattle.machine.proofs.Soundness.{run-sound}
use Rattle.entries.proofs.Needed.{needs-empty, some-entries}
use Rattle.entries.proofs.Whole.{step-entered}
use Rattle.gateway.proofs.Taking.{after-append}
use Rattle.gateway.specs.Standing.{Call, Offered, Flushed, Compacted, Standing, Offers, Settles, AllCallsLead, StandsFor, events_of, settled_standing}

module _ (config : Config) (start : State) where
  pub begun-standing : StandsFor config start [] (settled_standing start)
  begun-standing = record { fewer = omega arith; answered = refl; all = refl }

  -- nothing is held any longer
  pub settled-on : (past : List Judged) (old new : Standing) → StandsFor config start past old → Settles old new → StandsFor config start past new
  settled-on past old new is s = record {
    fewer = omega (arith, s.none);
    answered = s.present ∙ ap lasting is.all ∙ ap (λ (js : List Judged). lasting (after config start js)) (sym (take_all (length past - new.held) past (omega (arith, s.none))));
    all = s.same ∙ is.all;
  }

module _ (config : Config) (is_one : is_config config ≡ true) where
  -- an event without entries leaves what must survive as it is
  pub quiet-keeps : (s : State) (event : Event) (judged : Judged) → IsSoundState config s → IsJudged config event judged → ¬ HasEntry config s judged
      → lasting (step config s judged).0 ≡ lasting s
  quiet-keeps s event judged sound is none =
      let some = some-entries config s judged sound in
      let empty = needs-empty config is_one s judged some.0 sound is.right some.1 none in
      subst (λ es. Enters config es (lasting s) (lasting (step config s judged).0)) empty (step-entered config is_one s judged some.0 sound is.right some.1)

  module _ (start : State) where
    -- an event more is taken
    pub offered-on : (past : List Judged) (event : Event) (old new : Standing) → IsSoundState config old.state → StandsFor config start past old
        → (o : Offers config event old new) → StandsFor config start (past ++ o.judged ∷ []) new
    offered-on past event old new sound is o = elim o.given [
      | inl held ↦ record {
        fewer = omega (arith, size, is.fewer, held);
        answered = o.stays ∙ is.answered ∙ ap (λ (js : List Judged). lasting (after config start js)) (
            sym (take-append-le (length past - old.held) past (o.judged ∷ []) (omega arith)) ∙ ap (λ (k : ℕ). take k (past ++ o.judged ∷ [])) (omega (arith, size, held, is.fewer)));
        all = all;
      }
      | inr now ↦ record {
        fewer = omega (arith, size, now.1);
        answered = o.stays ∙ is.answered ∙ ap (λ (js : List Judged). lasting (after config start js)) (take_all (length past - old.held) past (omega (arith, now.0)))
            ∙ ap lasting (sym is.all) ∙ sym (quiet-keeps old.state event o.judged sound o.is_judged now.2) ∙ ap lasting (sym o.steps) ∙ ap lasting all
            ∙ ap (λ (js : List Judged). lasting (after config start js)) (sym (take_all (length (past ++ o.judged ∷ []) - new.held) (past ++ o.judged ∷ []) (omega (arith, now.1))));
        all = all;
      }
    ]
      where
        size : length (past ++ o.judged ∷ []) ≡ length past + 1
        size = length-append past (o.judged ∷ [])

        all : new.state ≡ after config start (past ++ o.judged ∷ [])
        all = o.steps ∙ ap (λ (s : State). (step config s o.judged).0) is.all ∙ sym (after-append config start past (o.judged ∷ []))

    pub went-on : IsSoundState config start → (calls : List Call) (events : List Event) (past : List Judged) (old new : Standing) → AreJudged config events past
        → StandsFor config start past old → AllCallsLead config calls old new
        → (judged : List Judged) × AreJudged config (events ++ events_of calls) judged × StandsFor config start judged new
    went-on sound [] events past old new are is went =
        (past, subst (λ (es : List Event). AreJudged config es past) (sym (append-nil events)) are, subst (StandsFor config start past) (sym went) is)
    went-on sound (Offered event ∷ calls) events past old new are is went =
        let o = went.1 in
        let one = AreJudged-append config events (event ∷ []) past (o.judged ∷ []) are (AreJudged-one config event o.judged o.is_judged) in
        let now : IsSoundState config old.state = subst (IsSoundState config) (sym is.all) (run-sound config is_one start events past are sound) in
        let rest = went-on sound calls (events ++ event ∷ []) (past ++ o.judged ∷ []) went.0 new one (offered-on past event old went.0 now is o) went.2 in
        (rest.0, subst (λ (es : List Event). AreJudged config es rest.0) (append_assoc events (event ∷ []) (events_of calls)) rest.1, rest.2)
    went-on sound (Flushed ∷ calls) events past old new are is went = went-on sound calls events past went.0 new are (settled-on config start past old went.0 is went.1) went.2
    went-on sound (Compacted ∷ calls) events past old new are is went = went-on sound calls events past went.0 new are (settled-on config start past old went.0 is went.1.1) went.2
