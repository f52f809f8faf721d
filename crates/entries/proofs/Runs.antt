-- Entries of a run.
use Rattle.std.proofs.Common.{◌≡◌, List, [], ◌∷◌, true, refl, sym, subst}
use Rattle.packet.specs.Config.{Config, is_config}
use Rattle.machine.specs.Judged.{Judged, AreJudged}
use Rattle.machine.specs.Machine.{State, after, step}
use Rattle.machine.specs.Noted.{AreEntriesOfAll, lasting}
use Rattle.machine.specs.Sound.{IsSoundState}
use Rattle.machine.specs.declared.event.Event.{Event}
use Rattle.machine.proofs.Soundness.{step-sound}
use Rattle.durable.specs.Coding.{Entry}
use Rattle.durable.specs.Entering.{Enters}
use Rattle.entries.proofs.Stilled.{join}
use Rattle.entries.proofs.Whole.{step-entered}

module _ (config : Config) (is_one : is_config config ≡ true) where
  pub run-entered : (s : State) (events : List Event) (judged : List Judged) (es : List Entry) → AreJudged config events judged → IsSoundState config s → AreEntriesOfAll config s judged es
      → Enters config es (lasting s) (lasting (after config s judged))
  run-entered s [] [] es are sound of = subst (λ l. Enters config l (lasting s) (lasting s)) (sym of) refl
  run-entered s [] (j ∷ more) es are sound of = absurd are
  run-entered s (event ∷ events) [] es are sound of = absurd are
  run-entered s (event ∷ events) (j ∷ more) es are sound of =
      let next = (step config s j).0 in
      subst (λ l. Enters config l (lasting s) (lasting (after config next more))) (sym of.4)
      (join config of.0 of.1 (lasting s) (lasting next) (lasting (after config next more))
      (step-entered config is_one s j of.0 sound are.0.right of.2)
      (run-entered next events more of.1 are.1 (step-sound config is_one s j are.0.right sound) of.3))
