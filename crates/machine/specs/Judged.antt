-- Events once their texts are read.
use Rattle.std.specs.Prelude.{◌≡◌, ◌≢◌, ℕ, List, [], ◌∷◌, Option, Some, None}
use Rattle.packet.specs.Config.{Config}
use Rattle.ruletree.specs.declared.tree.Spelled.{Spelled}
use Rattle.ruletext.specs.Texts.{Loads}
use Rattle.machine.specs.declared.deed.Deed.{Deed}
use Rattle.machine.specs.declared.deed.Deed.TheVariants.{Take, Refuse}
use Rattle.machine.specs.declared.deed.Deed.TheVariants as deed
use Rattle.machine.specs.declared.event.Event.{Event}
use Rattle.machine.specs.declared.event.What.{What}
use Rattle.machine.specs.declared.event.What.TheVariants as what

-- what an event does, at its moment
pub record Judged : Type 0 where
  pub moment : ℕ
  pub deed : Deed

-- what the event brought: a text is taken or refused, a packet and a moment are themselves
abbrev pub brought : Deed → What
brought (Take text rules) = what.Load text
brought (Refuse text) = what.Load text
brought (deed.Packet iface bytes) = what.Packet iface bytes
brought deed.Moment = what.Moment

-- the rules of the text, if it loads
abbrev pub AreRulesOf : Config → List ℕ → Option Spelled → Type 0
AreRulesOf config text (Some rules) = Loads config text rules
AreRulesOf config text None = (rules : Spelled) → ¬ Loads config text rules

-- a text is taken with the rules that it loads, and refused where it loads none
abbrev pub IsRight : Config → Deed → Type 0
IsRight config (Take text rules) = AreRulesOf config text (Some rules)
IsRight config (Refuse text) = AreRulesOf config text None
IsRight config (deed.Packet iface bytes) = Unit {0}
IsRight config deed.Moment = Unit {0}

-- this is what the event does under the configuration
pub record IsJudged (config : Config) (event : Event) (judged : Judged) : Type 0 where
  pub at : event.moment ≡ judged.moment
  pub what : event.what ≡ brought judged.deed
  pub right : IsRight config judged.deed

-- and this is what each of the events does
abbrev pub AreJudged : Config → List Event → List Judged → Type 0
AreJudged config [] [] = Unit {0}
AreJudged config [] (judged ∷ more) = ⊥
AreJudged config (event ∷ events) [] = ⊥
AreJudged config (event ∷ events) (judged ∷ more) = IsJudged config event judged
    × AreJudged config events more

-- it brings no text
abbrev pub IsNoLoad : What → Type 0
IsNoLoad content = (text : List ℕ) → content ≢ what.Load text
