-- Each port that a spelled text translates a destination to isn't 0.
use Rattle.std.proofs.Common.{◌≡◌, ◌≤◌, ℕ, Bool, false, List, [], ◌∷◌, Option, Some, None, IfSome, map, sym, subst}
use Rattle.std.specs.List.{AllByRecursion}
use Rattle.ruletree.specs.declared.tree.End.{End}
use Rattle.ruletree.specs.declared.tree.End.TheVariants as ends
use Rattle.ruletree.specs.declared.tree.Rule.{Rule}
use Rattle.ruletree.specs.declared.tree.Base.{Base}
use Rattle.ruletree.specs.declared.tree.Table.{Table}
use Rattle.ruletree.specs.declared.tree.Spelled.{Spelled}
use Rattle.rulesyntax.specs.Text.{IsSpelledBy}
use Rattle.rulesyntax.specs.Grammar.{Spelling, Tokens, Listed, PortIs, MayEnd, Member, comment_member, base_member, policy_member, rule_member, MemberIs, AreMembers, Item, chain_item, ItemIs, is_block, chains_of, Statement, flush, table, StatementIs, is_table, AreStatements}
use Rattle.machine.proofs.Said.{OfEnd, OfRules, OfChains, OfTables}

-- a port that a destination is given isn't 0
abbrev pub HasPort : End → Type 0
HasPort (ends.Dnat dnat) = IfSome dnat.port (λ port. 1 ≤ port)
HasPort _ = Unit {0}

each_listed : {X : Type 0} (Form : Spelling X) (braced : X → Bool) (Q : X → Type 0) → ((x : X) (a b : Tokens) → Form x a b → Q x) → (xs : List X) (ts rest : Tokens) → Listed Form braced xs ts rest → AllByRecursion Q xs
each_listed Form braced Q spelled [] ts rest listed = tt
each_listed Form braced Q spelled (x ∷ xs) ts rest listed = (spelled x listed.0 listed.1 listed.3, each_listed Form braced Q spelled xs listed.1 rest listed.5)

each_mapped : {X Y : Type 0} (Q : Y → Type 0) (f : X → Y) (xs : List X) → AllByRecursion Q (map f xs) → AllByRecursion (λ x. Q (f x)) xs
each_mapped Q f [] all = tt
each_mapped Q f (x ∷ xs) all = (all.0, each_mapped Q f xs all.1)

given_port : (port : Option ℕ) (ts rest : Tokens) → PortIs port ts rest → IfSome port (λ p. 1 ≤ p)
given_port None ts rest is = tt
given_port (Some port) ts rest is = is.1

end_spelled : (end : Option End) (ts rest : Tokens) → MayEnd end ts rest → OfEnd HasPort end
end_spelled (Some (ends.Dnat dnat)) ts rest is = given_port dnat.port is.1 rest is.4
end_spelled _ ts rest is = tt

abbrev MemberSays : Member → Type 0
MemberSays (rule_member rule) = OfEnd HasPort rule.end
MemberSays _ = Unit {0}

member_spelled : (member : Member) (ts rest : Tokens) → MemberIs member ts rest → MemberSays member
member_spelled (rule_member rule) ts rest is = end_spelled rule.end is.1 is.2 is.4
member_spelled _ ts rest is = tt

rules_alone : (members : List Member) (rules : List Rule) → AllByRecursion MemberSays members → members ≡ map rule_member rules → OfRules HasPort rules
rules_alone members rules all is = each_mapped MemberSays rule_member rules (subst (AllByRecursion MemberSays) is all)

rules_spelled : (members : List Member) (base : Option Base) (rules : List Rule) → AllByRecursion MemberSays members → AreMembers members base rules → OfRules HasPort rules
rules_spelled (comment_member ∷ members) base rules all are = rules_spelled members base rules all.1 are
rules_spelled (base_member b ∷ policy_member p ∷ members) base rules all are = rules_alone members rules all.1.1 are.1
rules_spelled (base_member b ∷ members) base rules all are = rules_alone members rules all.1 are.1
rules_spelled members base rules all are = rules_alone members rules all are.1

abbrev ItemSays : Item → Type 0
ItemSays (chain_item chain) = OfRules HasPort chain.rules
ItemSays _ = Unit {0}

item_spelled : (item : Item) (ts rest : Tokens) → ItemIs item ts rest → ItemSays item
item_spelled (chain_item chain) ts rest is = rules_spelled is.1 chain.base chain.rules (each_listed MemberIs (λ _. false) MemberSays member_spelled is.1 is.0 _ is.3) is.4
item_spelled _ ts rest is = tt

chains_spelled : (items : List Item) → AllByRecursion ItemSays items → OfChains HasPort (chains_of items)
chains_spelled [] all = tt
chains_spelled (chain_item chain ∷ items) all = (all.0, chains_spelled items all.1)
chains_spelled (item ∷ items) all = chains_spelled items all.1

abbrev StatementSays : Statement → Type 0
StatementSays (table t) = OfChains HasPort t.chains
StatementSays flush = Unit {0}

statement_spelled : (statement : Statement) (ts rest : Tokens) → StatementIs statement ts rest → StatementSays statement
statement_spelled flush ts rest is = tt
statement_spelled (table t) ts rest is = subst (OfChains HasPort) (sym is.8) (chains_spelled is.2 (each_listed ItemIs is_block ItemSays item_spelled is.2 is.1 _ is.6))

tables_alone : (statements : List Statement) (tables : List Table) → AllByRecursion StatementSays statements → statements ≡ map table tables → OfTables HasPort tables
tables_alone statements tables all is = each_mapped StatementSays table tables (subst (AllByRecursion StatementSays) is all)

tables_spelled : (statements : List Statement) (tables : List Table) → AllByRecursion StatementSays statements → AreStatements statements tables → OfTables HasPort tables
tables_spelled (flush ∷ statements) tables all are = tables_spelled statements tables all.1 are
tables_spelled statements tables all are = tables_alone statements tables all are

pub ports_spelled : (text : List ℕ) (spelled : Spelled) → IsSpelledBy spelled text → OfTables HasPort spelled.tables
ports_spelled text spelled is =
    let spells = is.2 in
    tables_spelled spells.0 spelled.tables (each_listed StatementIs is_table StatementSays statement_spelled spells.0 is.0 [] spells.1) spells.2
