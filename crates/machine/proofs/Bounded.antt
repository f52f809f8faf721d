-- What each translation that a text says has, each translation at a hook has.
use Rattle.std.proofs.Common.{◌≡◌, ◌≢◌, ◌<◌, ◌≤◌, ℕ, zero, suc, Bool, true, false, not, IsTrue, List, [], ◌∷◌, ◌++◌, Option, Some, None, IfSome, int_le, refl, sym, subst, ◌∙◌, inl, inr, bytes_eq, Contains}
use Rattle.std.specs.List.{list_all, list_any, AllByRecursion}
use Rattle.std.specs.Option.{unwrap_or, option_and_then, option_map_or}
use Rattle.std.proofs.lemmas.Bool.{cases_Bool, eq-eqb, false≢true}
use Rattle.packet.specs.Config.{Config, is_external, is_inside}
use Rattle.packet.proofs.Pools.{listed-is}
use Rattle.packet.specs.declared.endpoint.Endpoint.{Endpoint}
use Rattle.ruletree.specs.declared.tree.Verdict.{Verdict}
use Rattle.ruletree.specs.declared.tree.Verdict.TheVariants.{Accept, Drop, Return, Continue, Jump, Goto}
use Rattle.ruletree.specs.declared.tree.End.{End}
use Rattle.ruletree.specs.declared.tree.End.TheVariants as ends
use Rattle.ruletree.specs.declared.tree.Rule.{Rule}
use Rattle.ruletree.specs.declared.tree.Base.{Base}
use Rattle.ruletree.specs.declared.tree.Policy.{Policy}
use Rattle.ruletree.specs.declared.tree.Policy.TheVariants as policies
use Rattle.ruletree.specs.declared.tree.Hook.{Hook}
use Rattle.ruletree.specs.declared.tree.Hook.TheVariants.{Prerouting, Postrouting}
use Rattle.ruletree.specs.declared.tree.Chain.{Chain}
use Rattle.ruletree.specs.declared.tree.Table.{Table}
use Rattle.ruletree.specs.declared.tree.Spelled.{Spelled}
use Rattle.rulesets.specs.Places.{is_not_external, is_not_inside, some_end_in}
use Rattle.ruletext.specs.Texts.{Loads}
use Rattle.ruletree.specs.declared.fault.Kind.TheVariants.{NotExternal, NotInside}
use Rattle.verdict.specs.declared.facts.Facts.{Facts}
use Rattle.verdict.specs.declared.chain.Outcome.{Outcome}
use Rattle.verdict.specs.declared.chain.Outcome.TheVariants.{Accepts, Drops, To, From, Ends}
use Rattle.verdict.specs.declared.hook.Destination.TheVariants as destinations
use Rattle.verdict.specs.declared.hook.Source.TheVariants as sources
use Rattle.hairpin.specs.KeepBounds.{KeepBounds}
use Rattle.machine.specs.Hosts.{LeaveToPool, is_of_rule}
use Rattle.machine.proofs.Said.{OfEnd, OfRules, OfChains, OfTables}
use Rattle.machine.proofs.PortsSpelled.{HasPort, ports_spelled}
use Rattle.verdict.specs.Matching.{holds}
use Rattle.verdict.specs.Evaluation.{mapped, unless_ended, ending, translation, taken, after, walk, rules_of, called, chain_outcome}
use Rattle.verdict.specs.Hooks.{BaseChain, at_hook, bases_among, bases_of, same_hook, put, in_order, settled, base_outcome, handed_on, asked_in_turn, hook_outcome, destination_by, source_by, prerouting_verdict, postrouting_verdict}

each_joined : {X : Type 0} (P : X → Type 0) (xs ys : List X) → AllByRecursion P xs → AllByRecursion P ys → AllByRecursion P (xs ++ ys)
each_joined P [] ys one other = other
each_joined P (x ∷ xs) ys one other = (one.0, each_joined P xs ys one.1 other)

-- the translation of an end, if it is one, has this property
abbrev pub Says : Facts → (Outcome → Type 0) → End → Type 0
Says facts P end = IfSome (translation facts end) P

-- ---- from the translations of rules to the outcome at a hook

module _ (P : Outcome → Type 0) (accepts : P Accepts) (drops : P Drops) (ends_so : P Ends) where
  unless_has : (o : Outcome) → P o → IfSome (unless_ended o) P
  unless_has Ends has = tt
  unless_has o has = has

  settled_has : (policy : Policy) (o : Outcome) → P o → P (settled policy o)
  settled_has policies.Accept Ends has = accepts
  settled_has policies.Drop Ends has = drops
  settled_has policy o has = has

  handed_has : (o next : Outcome) → P o → P next → P (handed_on o next)
  handed_has Accepts next has later = later
  handed_has o next has later = has

  unwrapped_has : (o : Option Outcome) (next : Outcome) → IfSome o P → P next → P (unwrap_or o next)
  unwrapped_has None next has later = later
  unwrapped_has (Some o) next has later = has

  module _ (config : Config) (facts : Facts) where
    module _ (call : List ℕ → Outcome) (call_has : (name : List ℕ) → P (call name)) where
      ending_has : (v : Verdict) → IfSome (ending call v) P
      ending_has Accept = accepts
      ending_has Drop = drops
      ending_has Return = ends_so
      ending_has Continue = tt
      ending_has (Jump to) = unless_has (call to.chain) (call_has to.chain)
      ending_has (Goto to) = call_has to.chain

      mapped_has : (o : Option Verdict) → IfSome (option_and_then (ending call) o) P
      mapped_has None = tt
      mapped_has (Some v) = ending_has v

      taken_has : (end : End) → Says facts P end → IfSome (taken config facts call end) P
      taken_has (ends.Verdict v) says = ending_has v
      taken_has (ends.Vmap vmap) says = mapped_has (mapped config facts vmap)
      taken_has end says = says

      end_has : (end : Option End) → OfEnd (Says facts P) end → IfSome (option_and_then (taken config facts call) end) P
      end_has None says = tt
      end_has (Some end) says = taken_has end says

      after_has : (table : Table) (rule : Rule) → OfEnd (Says facts P) rule.end → IfSome (after config facts table call rule) P
      unfolding after
      after_has table rule says = elim (cases_Bool (list_all (holds config table.sets facts) rule.matches)) [
        | inl all ↦ rw all (end_has rule.end says)
        | inr not_all ↦ rw not_all tt
      ]

      walk_has : (table : Table) (rules : List Rule) → OfRules (Says facts P) rules → P (walk config facts table call rules)
      walk_has table [] says = ends_so
      walk_has table (rule ∷ rules) says =
          unwrapped_has (after config facts table call rule) (walk config facts table call rules) (after_has table rule says.0) (walk_has table rules says.1)

    named_has : (Q : End → Type 0) (chains : List Chain) (name : List ℕ) → OfChains Q chains → OfRules Q (rules_of chains name)
    named_has Q [] name says = tt
    named_has Q (chain ∷ chains) name says = elim (cases_Bool (bytes_eq chain.name name)) [ inl here ↦ rw here says.0 | inr there ↦ rw there (named_has Q chains name says.1) ]

    called_has : (left : ℕ) (table : Table) → OfChains (Says facts P) table.chains → (name : List ℕ) → P (called left config facts table name)
    unfolding called
    called_has zero table says name = ends_so
    called_has (suc left) table says name =
        walk_has (called left config facts table) (called_has left table says) table (rules_of table.chains name) (named_has (Says facts P) table.chains name says)

    chain_has : (table : Table) (rules : List Rule) → OfChains (Says facts P) table.chains → OfRules (Says facts P) rules → P (chain_outcome config facts table rules)
    unfolding chain_outcome
    chain_has table rules says own = walk_has (called 16 config facts table) (called_has 16 table says) table rules own

    abbrev BaseSays : BaseChain → Type 0
    BaseSays base = OfChains (Says facts P) base.table.chains × OfRules (Says facts P) base.chain.rules

    at_hook_says : (hook : Hook) (table : Table) (chain : Chain) (base : Base) → OfChains (Says facts P) table.chains → OfRules (Says facts P) chain.rules → AllByRecursion BaseSays (at_hook hook table chain base)
    at_hook_says hook table chain base says own = elim (cases_Bool (same_hook base.hook hook)) [ inl here ↦ rw here ((says, own), tt) | inr other ↦ rw other tt ]

    base_says : (hook : Hook) (table : Table) (chain : Chain) (base : Option Base) → OfChains (Says facts P) table.chains → OfRules (Says facts P) chain.rules → AllByRecursion BaseSays (option_map_or (at_hook hook table chain) base [])
    base_says hook table chain None says own = tt
    base_says hook table chain (Some base) says own = at_hook_says hook table chain base says own

    among_says : (hook : Hook) (table : Table) (chains : List Chain) → OfChains (Says facts P) table.chains → OfChains (Says facts P) chains → AllByRecursion BaseSays (bases_among hook table chains)
    among_says hook table [] says own = tt
    among_says hook table (chain ∷ chains) says own =
        each_joined BaseSays (option_map_or (at_hook hook table chain) chain.base []) (bases_among hook table chains)
        (base_says hook table chain chain.base says own.0) (among_says hook table chains says own.1)

    bases_say : (hook : Hook) (tables : List Table) → OfTables (Says facts P) tables → AllByRecursion BaseSays (bases_of hook tables)
    bases_say hook [] says = tt
    bases_say hook (table ∷ tables) says =
        each_joined BaseSays (bases_among hook table table.chains) (bases_of hook tables)
        (among_says hook table table.chains says.0 says.0) (bases_say hook tables says.1)

    put_says : (x : BaseChain) (ys : List BaseChain) → BaseSays x → AllByRecursion BaseSays ys → AllByRecursion BaseSays (put x ys)
    put_says x [] one all = (one, tt)
    put_says x (y ∷ ys) one all = elim (cases_Bool (int_le x.base.priority y.base.priority)) [
      | inl first ↦ rw first (one, all)
      | inr behind ↦ rw behind (all.0, put_says x ys one all.1)
    ]

    order_says : (xs : List BaseChain) → AllByRecursion BaseSays xs → AllByRecursion BaseSays (in_order xs)
    order_says [] all = tt
    order_says (x ∷ xs) all = put_says x (in_order xs) all.0 (order_says xs all.1)

    turn_has : (xs : List BaseChain) → AllByRecursion BaseSays xs → P (asked_in_turn config facts xs)
    turn_has [] all = accepts
    turn_has (x ∷ xs) all =
        handed_has (base_outcome config facts x) (asked_in_turn config facts xs)
        (settled_has x.base.policy (chain_outcome config facts x.table x.chain.rules) (chain_has x.table x.chain.rules all.0.0 all.0.1))
        (turn_has xs all.1)

    -- where each translation of the text has the property, the outcome at a hook has it
    pub hook_has : (hook : Hook) (text : Spelled) → OfTables (Says facts P) text.tables → P (hook_outcome config facts hook text)
    unfolding hook_outcome
    hook_has hook text says = turn_has (in_order (bases_of hook text.tables)) (order_says (bases_of hook text.tables) (bases_say hook text.tables says))

abbrev pub SourceHas : (ℕ → Type 0) → Outcome → Type 0
SourceHas R (From addr) = R addr
SourceHas R _ = Unit {0}

abbrev pub DestinationHas : (Endpoint → Type 0) → Outcome → Type 0
DestinationHas R (To endpoint) = R endpoint
DestinationHas R _ = Unit {0}

source_is : (R : ℕ → Type 0) (addr : ℕ) (o : Outcome) → SourceHas R o → source_by o ≡ sources.From addr → R addr
source_is R addr (From x) has is = let e : x ≡ addr = cc in subst R e has
source_is R addr o has is = cc

destination_is : (R : Endpoint → Type 0) (endpoint : Endpoint) (o : Outcome) → DestinationHas R o → destination_by o ≡ destinations.To endpoint → R endpoint
destination_is R endpoint (To x) has is = let e : x ≡ endpoint = cc in subst R e has
destination_is R endpoint o has is = cc

-- what each translation of the text has, the one at the hook has
module _ (config : Config) (facts : Facts) (text : Spelled) where
  by_source : (R : ℕ → Type 0) → OfTables (Says facts (SourceHas R)) text.tables → (addr : ℕ) → postrouting_verdict config facts text ≡ sources.From addr → R addr
  unfolding postrouting_verdict
  by_source R says addr = source_is R addr (hook_outcome config facts Postrouting text) (hook_has (SourceHas R) tt tt tt config facts Postrouting text says)

  by_destination : (R : Endpoint → Type 0) → OfTables (Says facts (DestinationHas R)) text.tables → (endpoint : Endpoint) → prerouting_verdict config facts text ≡ destinations.To endpoint → R endpoint
  unfolding prerouting_verdict
  by_destination R says endpoint = destination_is R endpoint (hook_outcome config facts Prerouting text) (hook_has (DestinationHas R) tt tt tt config facts Prerouting text says)

-- ---- what is said where a kind of fault doesn't hold

each_spared : {X : Type 0} (test : X → Bool) (P : X → Type 0) → ((x : X) → ¬ (test x ≡ true) → P x) → (xs : List X) → ¬ (list_any test xs ≡ true) → AllByRecursion P xs
each_spared test P spared [] never = tt
each_spared test P spared (x ∷ xs) never = elim (cases_Bool (test x)) [
  | inl is ↦ absurd (never (rw is refl))
  | inr is_not ↦ (spared x (λ is. cc), each_spared test P spared xs (λ some. never (rw is_not some)))
]

module _ (test : End → Bool) (Q : End → Type 0) (spared : (end : End) → ¬ (test end ≡ true) → Q end) where
  end_spared : (end : Option End) → ¬ (option_map_or test end false ≡ true) → OfEnd Q end
  end_spared None never = tt
  end_spared (Some end) never = spared end never

  tables_spared : (tables : List Table) → ¬ (some_end_in test tables ≡ true) → OfTables Q tables
  tables_spared = each_spared _ _ (λ table. each_spared _ _ (λ chain. each_spared _ _ (λ rule. end_spared rule.end) chain.rules) table.chains)

each_weaken : {X : Type 0} (P Q : X → Type 0) → ((x : X) → P x → Q x) → (xs : List X) → AllByRecursion P xs → AllByRecursion Q xs
each_weaken P Q weaker [] all = tt
each_weaken P Q weaker (x ∷ xs) all = (weaker x all.0, each_weaken P Q weaker xs all.1)

module _ (P Q : End → Type 0) (weaker : (end : End) → P end → Q end) where
  end_weaken : (end : Option End) → OfEnd P end → OfEnd Q end
  end_weaken None is = tt
  end_weaken (Some end) is = weaker end is

  tables_weaken : (tables : List Table) → OfTables P tables → OfTables Q tables
  tables_weaken = each_weaken _ _ (λ table. each_weaken _ _ (λ chain. each_weaken _ _ (λ rule. end_weaken rule.end) chain.rules) table.chains)

given_or_kept : (port : Option ℕ) (kept : ℕ) → IfSome port (λ p. 1 ≤ p) → 0 < kept → 0 < unwrap_or port kept
given_or_kept None kept given above = above
given_or_kept (Some port) kept given above = given

not_not : (b : Bool) → ¬ (not b ≡ true) → b ≡ true
not_not true never = refl
not_not false never = absurd (never refl)

module _ (config : Config) (facts : Facts) where
  says_external : (end : End) → ¬ (is_not_external config end ≡ true) → Says facts (SourceHas (λ addr. Contains config.external addr)) end
  unfolding translation
  says_external (ends.Snat snat) never = (listed-is config.external snat.address).0 (not_not (is_external config snat.address) never)
  says_external _ never = tt

  says_inside : (end : End) → ¬ (is_not_inside config end ≡ true) → Says facts (DestinationHas (λ endpoint. IsTrue (is_inside config endpoint.addr))) end
  unfolding translation
  says_inside (ends.Dnat dnat) never = not_not (is_inside config dnat.address) never
  says_inside _ never = tt

  says_port : (end : End) → HasPort end → Says facts (DestinationHas (λ endpoint. 0 < facts.dst.port → 0 < endpoint.port)) end
  unfolding translation
  says_port (ends.Dnat dnat) has = given_or_kept dnat.port facts.dst.port has
  says_port _ has = tt

-- the rules of a text that loads keep within the bounds
pub bounds-kept : (config : Config) (text : List ℕ) (rules : Spelled) → Loads config text rules → KeepBounds config rules
bounds-kept config text rules loads = record {
  to = λ facts. by_destination config facts rules (λ e. IsTrue (is_inside config e.addr)) (tables_spared (is_not_inside config) _ (says_inside config facts) rules.tables (loads.2 NotInside));
  port = λ facts. by_destination config facts rules (λ e. 0 < facts.dst.port → 0 < e.port) (tables_weaken HasPort _ (says_port config facts) rules.tables (ports_spelled text rules loads.1));
  from = λ facts. by_source config facts rules (λ a. Contains config.external a) (tables_spared (is_not_external config) _ (says_external config facts) rules.tables (loads.2 NotExternal));
}

-- ---- rules that have no address for a host

module _ (host : ℕ) (facts : Facts) where
  says_no_source : (end : End) → ¬ (is_of_rule host end ≡ true) → Says facts (SourceHas (λ addr. ⊥)) end
  unfolding translation
  says_no_source (ends.Snat snat) never = never refl
  says_no_source _ never = tt

  says_elsewhere : (end : End) → ¬ (is_of_rule host end ≡ true) → Says facts (DestinationHas (λ endpoint. endpoint.addr ≢ host)) end
  unfolding translation
  says_elsewhere (ends.Dnat dnat) never = λ same. never (eq-eqb dnat.address host same)
  says_elsewhere _ never = tt

-- they leave the host to the pool
pub left-to-pool : (config : Config) (rules : Spelled) (host : ℕ) → some_end_in (is_of_rule host) rules.tables ≡ false → LeaveToPool config rules host
left-to-pool config rules host none =
    let never : ¬ (some_end_in (is_of_rule host) rules.tables ≡ true) = λ some. false≢true (sym none ∙ some) in
    record {
      source = λ facts addr same. by_source config facts rules (λ a. ⊥) (tables_spared (is_of_rule host) _ (says_no_source host facts) rules.tables never) addr;
      destination = λ facts endpoint same is. by_destination config facts rules (λ e. e.addr ≢ host) (tables_spared (is_of_rule host) _ (says_elsewhere host facts) rules.tables never) endpoint is same;
    }
