-- Which state a gateway begins with that is opened again.
use Rattle.std.proofs.Common.{◌≡◌, ℕ, List, [], ◌∷◌, ⊎_elim, map, take, refl, sym, ◌∙◌, ap, subst}
use Rattle.packet.specs.Config.{Config}
use Rattle.ruletree.specs.declared.tree.Spelled.{Spelled}
use Rattle.rulesyntax.specs.Text.{IsSpelledBy}
use Rattle.sessions.specs.declared.session.Session.{Session}
use Rattle.sessions.specs.Stilled.{at_moment, stilled}
use Rattle.durable.specs.Entering.{Durable}
use Rattle.machine.specs.Machine.{State, after, no_tables}
use Rattle.machine.specs.Noted.{IsResumed, lasting}
use Rattle.machine.specs.Sound.{IsInForce, IsSoundState}
use Rattle.machine.specs.Laws.{RunsKeepSound}
use Rattle.gateway.specs.Lives.{again_at}
use Rattle.gateway.specs.Restarts.{RestartsKeepTheState}

-- a text spells one ruleset at most
abbrev pub SpelledOnce : Type 0
SpelledOnce = (text : List ℕ) (a b : Spelled) → IsSpelledBy a text → IsSpelledBy b text → a ≡ b

-- no text spells no tables
none-spelled : (text : List ℕ) → text ≡ [] → IsSpelledBy no_tables text
none-spelled text none = subst (IsSpelledBy no_tables) (sym none) ([], ([], refl, refl), ([], ([], tt, refl), refl))

spelled : (config : Config) (text : List ℕ) (rules : Spelled) → IsInForce config text rules → IsSpelledBy rules text
spelled config text rules is =
    ⊎_elim
    (λ none. subst (λ (r : Spelled). IsSpelledBy r text) (sym none.1) (none-spelled text none.0))
    (λ loads. loads.1)
    is

-- two states of equal parts
same-state : (s t : State) → s.text ≡ t.text → s.rules ≡ t.rules → s.sessions ≡ t.sessions → s.clock ≡ t.clock → s ≡ t
same-state s t text rules sessions clock =
    ap (λ (x : List ℕ). record s { text = x }) text
    ∙ ap (λ (r : Spelled). record s { text = t.text; rules = r }) rules
    ∙ ap (λ (l : List Session). record s { text = t.text; rules = t.rules; sessions = l }) sessions
    ∙ ap (λ (n : ℕ). record t { clock = n }) clock

-- the moment that is forgotten is another one then
moved-again : (moment : ℕ) (ss : List Session) → map (at_moment moment) (map stilled ss) ≡ map (at_moment moment) ss
moved-again moment [] = refl
moved-again moment (s ∷ ss) = ap (λ (l : List Session). at_moment moment s ∷ l) (moved-again moment ss)

module _ (once : SpelledOnce) where
  one-again : (config : Config) (d : Durable) (moment : ℕ) (s t : State) → IsResumed config d moment s → IsResumed config d moment t → s ≡ t
  one-again config d moment s t first second =
      let text : s.text ≡ t.text = first.text ∙ sym second.text in
      let own : IsSpelledBy s.rules t.text = subst (IsSpelledBy s.rules) text (spelled config s.text s.rules first.rules) in
      same-state s t text (once t.text s.rules t.rules own (spelled config t.text t.rules second.rules))
      (first.sessions ∙ sym second.sessions) (first.clock ∙ sym second.clock)

  same-again : (config : Config) (s again : State) (moment : ℕ) → IsSoundState config s → IsResumed config (lasting s) moment again → again ≡ again_at moment s
  same-again config s again moment sound resumed =
      one-again config (lasting s) moment again (again_at moment s) resumed
      (record { sessions = sym (moved-again moment s.sessions); text = refl; clock = refl; rules = sound.in_force })

  pub kept : RunsKeepSound → RestartsKeepTheState
  kept runs = record {
    one = one-again;
    same = same-again;
    after_a_life = λ config s again events n moment d is_one sound may resumed.
        let then = after config s may.judged in (
          may.count,
          may.answered,
          may.within,
          may.judged,
          may.are_judged,
          same-again config then again moment (runs config s (take may.count events) may.judged is_one may.are_judged sound)
              (subst (λ (x : Durable). IsResumed config x moment again) may.is resumed),
        );
  }
