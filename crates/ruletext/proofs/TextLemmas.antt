-- What is read from a text, and what comes of it.
use Rattle.std.proofs.Common.{◌≡◌, ◌↔◌, ◌⊎◌, ℕ, ◌<◌, ◌≤◌, List, length, Some, Result, Ok, Err, IfOk, IfErr, ap, ◌∙◌, subst, inl, inr}
use Rattle.std.proofs.lemmas.Bool.{cases_lt}
use Rattle.packet.specs.Config.{Config}
use Rattle.ruletree.specs.declared.tree.Spelled.{Spelled}
use Rattle.ruletree.specs.declared.fault.Kind.{Kind}
use Rattle.ruletree.specs.declared.fault.Kind.TheVariants.{TooLong, Syntax, Unsupported, Family, UnknownChain, UnknownSet, Duplicate, Loop, Depth, WrongHook, WrongType, NotExternal, NotInside, Limit, Overlap, NoMemory}
use Rattle.ruletree.specs.declared.fault.LoadFault.{LoadFault}
use Rattle.rulesyntax.specs.Text.{IsShort, IsSpelledBy, IsSenseless, IsOkOrNoMemory, IsOfSyntax}
use Rattle.rulesets.specs.Faults.{FaultHolds, IsLeast}
use Rattle.ruletext.specs.Texts.{Loads, IsRefused}

fault_is : (a b : LoadFault) (x : Result Spelled LoadFault) → x ≡ Err a → x ≡ Err b → a ≡ b
fault_is a b x e f = cc

module _ (config : Config) (text : List ℕ) (parsed : Result Spelled LoadFault)
    (only : (rules : Spelled) → IsSpelledBy rules text → length text ≤ 262144 → IsOkOrNoMemory rules parsed)
    (too_long : (parsed ≡ Err (record { kind = TooLong; line = tt })) ↔ 262144 < length text) where
  short_fault : (kind : Kind) → parsed ≡ Err (record { kind = kind; line = tt }) → (kind ≡ TooLong → ⊥) → IsShort text
  short_fault kind is other = elim (cases_lt 262144 (length text)) [
    | inl long ↦ absurd (other (ap (λ (f : LoadFault). f.kind) (fault_is (record { kind = kind; line = tt }) (record { kind = TooLong; line = tt }) parsed is (too_long.1 long))))
    | inr short ↦ short
  ]

  senseless : (kind : Kind) → parsed ≡ Err (record { kind = kind; line = tt }) → (kind ≡ TooLong → ⊥) → (kind ≡ NoMemory → ⊥) → IsShort text × IsSenseless text
  senseless kind is other known =
      let short : IsShort text = short_fault kind is other in
      (short, λ rules spelled. known (subst (IsOkOrNoMemory rules) is (only rules spelled short)))

  pub refused : (kind : Kind) → parsed ≡ Err (record { kind = kind; line = tt }) → IsOfSyntax kind → IsRefused config text kind
  refused TooLong is of = too_long.0 is
  refused Syntax is of = senseless Syntax is (λ e. cc) (λ e. cc)
  refused Unsupported is of = senseless Unsupported is (λ e. cc) (λ e. cc)
  refused Family is of = senseless Family is (λ e. cc) (λ e. cc)
  refused NoMemory is of = short_fault NoMemory is (λ e. cc)
  refused UnknownChain is of = absurd of
  refused UnknownSet is of = absurd of
  refused Duplicate is of = absurd of
  refused Loop is of = absurd of
  refused Depth is of = absurd of
  refused WrongHook is of = absurd of
  refused WrongType is of = absurd of
  refused NotExternal is of = absurd of
  refused NotInside is of = absurd of
  refused Limit is of = absurd of
  refused Overlap is of = absurd of

  pub only_memory : (fault : LoadFault) → parsed ≡ Err fault → (rules : Spelled) → Loads config text rules → fault.kind ≡ NoMemory
  only_memory fault is rules loads = subst (IsOkOrNoMemory rules) is (only rules loads.1 loads.0)

  pub only_loaded : (spelled : Spelled) → parsed ≡ Ok spelled → (loaded : Result Spelled LoadFault) → IfOk loaded (λ rules. rules ≡ spelled)
      → IfErr loaded (λ fault. (fault.kind ≡ NoMemory) ⊎ IsLeast (FaultHolds config spelled) (Some fault.kind)) → (rules : Spelled) → Loads config text rules → IsOkOrNoMemory rules loaded
  only_loaded spelled is (Ok found) same why rules loads = same ∙ subst (IsOkOrNoMemory rules) is (only rules loads.1 loads.0)
  only_loaded spelled is (Err fault) same why rules loads = elim why [
    | inl memory ↦ memory
    | inr least ↦
        let one : spelled ≡ rules = subst (IsOkOrNoMemory rules) is (only rules loads.1 loads.0) in
        absurd (loads.2 fault.kind (subst (λ (s : Spelled). FaultHolds config s fault.kind) one least.0))
  ]
