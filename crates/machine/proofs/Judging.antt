-- An event is judged in one way only.
use Rattle.std.proofs.Common.{◌≡◌, ℕ, suc, List, [], ◌∷◌, ◌++◌, length, refl, sym, ap, ◌∙◌}
use Rattle.packet.specs.Config.{Config}
use Rattle.ruletree.specs.declared.tree.Spelled.{Spelled}
use Rattle.ruletext.specs.Texts.{Loads}
use Rattle.machine.specs.declared.deed.Deed.{Deed}
use Rattle.machine.specs.declared.deed.Deed.TheVariants as deed
use Rattle.machine.specs.declared.event.Event.{Event}
use Rattle.machine.specs.Judged.{Judged, AreJudged, IsJudged, IsNoLoad, IsRight, brought}

-- where a text loads only one ruleset
abbrev pub LoadsOnce : Type 0
LoadsOnce = (config : Config) (text : List ℕ) (a b : Spelled) → Loads config text a → Loads config text b → a ≡ b

pub same_deed : LoadsOnce → (config : Config) (a b : Deed) → brought a ≡ brought b → IsRight config a → IsRight config b → a ≡ b
same_deed once config (deed.Take text rules) (deed.Take other others) e right too =
    let t : text ≡ other = cc in
    let r : rules ≡ others = once config other rules others (rw (← t) right) too in
    rw (t, r) refl
same_deed once config (deed.Take text rules) (deed.Refuse other) e right too = let t : text ≡ other = cc in absurd (too rules (rw (← t) right))
same_deed once config (deed.Refuse text) (deed.Take other others) e right too = let t : text ≡ other = cc in absurd (right others (rw t too))
same_deed once config (deed.Refuse text) (deed.Refuse other) e right too = let t : text ≡ other = cc in ap deed.Refuse t
same_deed once config (deed.Packet iface bytes) (deed.Packet iface' bytes') e right too = cc
same_deed once config deed.Moment deed.Moment e right too = refl
same_deed once config a b e right too = absurd cc

pub judged-once : LoadsOnce → (config : Config) (event : Event) (a b : Judged) → IsJudged config event a → IsJudged config event b → a ≡ b
judged-once once config event a b j k =
    let d : a.deed ≡ b.deed = same_deed once config a.deed b.deed (sym j.what ∙ k.what) j.right k.right in
    let m : a.moment ≡ b.moment = sym j.at ∙ k.at in
    ap (λ n. record { moment = n; deed = a.deed }) m ∙ ap (λ x. record { moment = b.moment; deed = x }) d

-- a deed that no text brings
pub no_take : (d : Deed) → IsNoLoad (brought d) → (text : List ℕ) (rules : Spelled) → ¬ (d ≡ deed.Take text rules)
no_take d none text rules e = none text (ap brought e)

pub same_unread : (config : Config) (a b : Deed) → brought a ≡ brought b → IsNoLoad (brought b) → a ≡ b
same_unread config (deed.Take text rules) b e none = absurd (none text (sym e))
same_unread config (deed.Refuse text) b e none = absurd (none text (sym e))
same_unread config (deed.Packet iface bytes) (deed.Packet iface' bytes') e none = cc
same_unread config deed.Moment deed.Moment e none = refl
same_unread config a b e none = absurd cc

-- events one behind the other
pub AreJudged-append : (config : Config) (es fs : List Event) (js ks : List Judged) → AreJudged config es js → AreJudged config fs ks → AreJudged config (es ++ fs) (js ++ ks)
AreJudged-append config [] fs [] ks are more = more
AreJudged-append config (e ∷ es) fs (j ∷ js) ks are more = (are.0, AreJudged-append config es fs js ks are.1 more)
AreJudged-append config es fs js ks are more = absurd are

pub AreJudged-length : (config : Config) (es : List Event) (js : List Judged) → AreJudged config es js → length js ≡ length es
AreJudged-length config [] [] are = refl
AreJudged-length config (e ∷ es) (j ∷ js) are = ap suc (AreJudged-length config es js are.1)
AreJudged-length config es js are = absurd are

pub AreJudged-one : (config : Config) (event : Event) (judged : Judged) → IsJudged config event judged → AreJudged config (event ∷ []) (judged ∷ [])
AreJudged-one config event judged is = (is, tt)
