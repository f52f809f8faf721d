-- An event that is refused once the clock has risen: no session has ended, and the clock is put back.
use Rattle.std.proofs.Common.{◌≡◌, ℕ, [], sym, ap, ◌∙◌, subst}
use Rattle.packet.specs.Config.{Config}
use Rattle.sessions.specs.Life.{alive}
use Rattle.hairpin.proofs.Soundness.{filter-all}
use Rattle.machine.specs.Core.{Core, Parts, state_in}
use Rattle.machine.specs.Judged.{Judged, IsJudged, IsNoLoad, brought}
use Rattle.machine.specs.Machine.{State, EndsNone, KeepsCount, act, aged, later, step}
use Rattle.machine.specs.Noted.{AreEntriesOf, AreOver, of_deed}
use Rattle.machine.specs.Sound.{IsSoundState}
use Rattle.machine.specs.declared.deed.Deed.{Deed}
use Rattle.machine.specs.declared.event.Event.{Event}
use Rattle.machine.proofs.Judging.{same_unread}
use Rattle.machine.proofs.Rising.{few-aged, put-back}
use Rattle.machine.proofs.Stepping.{none-ended, quiet-deed}

-- what contracts see of a core that has these parts
abbrev pub core_of : Parts → Core
core_of p = record { config = p.config; state = state_in p }

module _ (own risen : Parts) (moment : ℕ) (config_is : risen.config ≡ own.config) (is : state_in risen ≡ aged (later own.clock moment) (state_in own))
    (none : EndsNone (later own.clock moment) (state_in own)) where
  -- nothing has changed once the clock is put back
  module _ (left : Parts) (clock : ℕ) (value : clock ≡ own.clock) (config_left : left.config ≡ risen.config) (same : state_in left ≡ state_in risen) where
    before : record (state_in left) { clock = clock } ≡ state_in own
    before = put-back own (state_in left) moment clock value none (same ∙ is)

    pub sound-before : IsSoundState own.config (state_in own) → IsSoundState left.config (record (state_in left) { clock = clock })
    sound-before sound = subst (λ (config : Config). IsSoundState config (record (state_in left) { clock = clock })) (sym (config_left ∙ config_is)) (subst (IsSoundState own.config) (sym before) sound)

    pub live-before : EndsNone own.clock (state_in own) → EndsNone clock (record (state_in left) { clock = clock })
    live-before live = subst (EndsNone clock) (sym before) (subst (λ n. EndsNone n (state_in own)) (sym value) live)

    pub core-before : (new : Parts) → new ≡ record left { clock = clock } → core_of new ≡ core_of own
    core-before new e =
        let core : Config → State → Core = λ config state. record { config = config; state = state } in
        ap core_of e ∙ ap (λ config. core config (record (state_in left) { clock = clock })) (config_left ∙ config_is) ∙ ap (core own.config) before

  pub none-over : AreOver (later own.clock moment) (state_in own).sessions []
  none-over = none-ended (later own.clock moment) (state_in own).sessions (sym (filter-all (alive (later own.clock moment)) (state_in own).sessions none))

  -- what the event does, which brings no text, was to be done in the state whose clock has risen
  module _ (event : Event) (at : event.moment ≡ moment) (d : Deed) (brings : event.what ≡ brought d) (unread : IsNoLoad event.what) (judged : Judged) (is_judged : IsJudged own.config event judged) where
    pub same-deed : judged.deed ≡ d
    same-deed = same_unread own.config judged.deed d (sym is_judged.what ∙ brings) (subst IsNoLoad brings unread)

    now_is : later own.clock moment ≡ later own.clock judged.moment
    now_is = ap (later own.clock) (sym at ∙ is_judged.at)

    pub few-risen : KeepsCount (state_in own) (step own.config (state_in own) judged) → KeepsCount (state_in risen) (act risen.config (state_in risen) d)
    few-risen few = subst (λ (config : Config). KeepsCount (state_in risen) (act config (state_in risen) d)) (sym config_is)
        (few-aged own.config (state_in own) (state_in risen) judged (later own.clock moment) d now_is same-deed none is few)

    pub quiet-risen : AreEntriesOf own.config (state_in own) judged [] → of_deed risen.config (state_in risen) d ≡ []
    quiet-risen entries = subst (λ (config : Config). of_deed config (state_in risen) d ≡ []) (sym config_is)
        (subst (λ (t : State). of_deed own.config t d ≡ []) (sym is) (quiet-deed own.config (state_in own) judged (later own.clock moment) d now_is same-deed entries))
