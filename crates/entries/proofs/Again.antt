-- What must survive, and the state that is begun again from it.
use Rattle.std.proofs.Common.{◌≡◌, inl, inr, ℕ, List, sym, ap, subst, ◌∙◌, map, refl, arith}
use Rattle.packet.specs.Config.{Config}
use Rattle.ruletree.specs.declared.tree.Spelled.{Spelled}
use Rattle.sessions.specs.declared.session.Session.{Session}
use Rattle.sessions.specs.Listing.{In}
use Rattle.sessions.specs.Sound.{AreSound}
use Rattle.sessions.specs.Stilled.{AreStilled, at_moment, stilled}
use Rattle.sessions.proofs.Stilled.{last-moved, sound-moved, stilled-moved}
use Rattle.machine.specs.Machine.{State, no_tables}
use Rattle.machine.specs.Noted.{IsResumed, lasting}
use Rattle.machine.specs.Sound.{IsInForce, IsSoundState}
use Rattle.durable.specs.Entering.{Durable, durable, IsDurable, IsRuleset}

is-ruleset : (config : Config) (text : List ℕ) (rules : Spelled) → IsInForce config text rules → IsRuleset config text
is-ruleset config text rules (inl none) = inl none.0
is-ruleset config text rules (inr loads) = inr (rules, loads)

in-force : (config : Config) (text : List ℕ) → IsRuleset config text → (rules : Spelled) × IsInForce config text rules
in-force config text (inl none) = (no_tables, inl (none, refl))
in-force config text (inr loaded) = (loaded.0, inr loaded.1)

pub lasting-sound : (config : Config) (s : State) → IsSoundState config s → IsDurable config (lasting s) × AreStilled (lasting s).sessions
lasting-sound config s sound = (
  record { text = is-ruleset config s.text s.rules sound.in_force; sessions = sound-moved config 0 s.sessions sound.sessions },
  (λ t is. last-moved 0 s.sessions t is),
)

pub restart-there : (config : Config) (d : Durable) (moment : ℕ) → IsDurable config d → (s : State) × IsResumed config d moment s
restart-there config d moment is =
    let rules = in-force config d.text is.text in
    (record { text = d.text; rules = rules.0; sessions = map (at_moment moment) d.sessions; clock = moment }, record { sessions = refl; text = refl; clock = refl; rules = rules.1 })

pub restart-sound : (config : Config) (d : Durable) (moment : ℕ) (s : State) → IsDurable config d → AreStilled d.sessions → IsResumed config d moment s
    → IsSoundState config s × (lasting s ≡ d)
restart-sound config d moment s is are again = (
  record {
    sessions = subst (AreSound config) (sym again.sessions) (sound-moved config moment d.sessions is.sessions);
    latest = λ t in_t. omega (arith, again.clock, last-moved moment d.sessions t (subst (In t) again.sessions in_t));
    in_force = again.rules;
  },
  ap (λ (l : List Session). durable s.text (map stilled l)) again.sessions
      ∙ ap (λ (l : List Session). durable s.text l) (stilled-moved moment d.sessions are)
      ∙ ap (λ (text : List ℕ). durable text d.sessions) again.text,
)
