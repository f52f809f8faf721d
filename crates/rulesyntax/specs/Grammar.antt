-- Which tokens spell what. Nothing here looks ahead: where two forms begin alike, both stand.
use Rattle.std.specs.Prelude.{◌≡◌, ◌≤◌, ◌⊎◌, codes, ℕ, ℤ, pos, neg_ℤ, ◌+ℤ◌, Option, Some, None, Bool, true, false, ◌||◌, List, [], ◌∷◌, ◌++◌, map}
use Rattle.std.specs.List.{AllByRecursion}
use Rattle.ruletokens.specs.declared.token.Token.{Token}
use Rattle.ruletokens.specs.declared.token.Token.TheVariants.{Name, Number, Address, Quoted, Symbol, NewLine}
use Rattle.ruletokens.specs.declared.token.Symbol.TheVariants.{Open, Close, Comma, Semicolon, Colon, Slash, Minus, Plus, Equal, Equals, Differs, At}
use Rattle.rulesyntax.specs.declared.keyword.Flag.{Flag}
use Rattle.rulesyntax.specs.declared.keyword.PriorityName.{PriorityName}
use Rattle.rulesyntax.specs.Names.{flag_name, family_name, type_name, hook_name, policy_name, transport_name, priority_name, priority_value, is_reserved}
use Rattle.ruletree.specs.declared.tree.Family.{Family}
use Rattle.ruletree.specs.declared.tree.Family.TheVariants.{Ip, Inet}
use Rattle.ruletree.specs.declared.tree.Head.{Head}
use Rattle.ruletree.specs.declared.tree.Head.TheVariants.{Iifname, Oifname, Saddr, Daddr, Protocol, Sport, Dport, State}
use Rattle.ruletree.specs.declared.tree.Value.{Value}
use Rattle.ruletree.specs.declared.tree.Value.TheVariants as value
use Rattle.ruletree.specs.declared.tree.Element.{Element}
use Rattle.ruletree.specs.declared.tree.Side.{Side}
use Rattle.ruletree.specs.declared.tree.Side.TheVariants.{One, Several, Named}
use Rattle.ruletree.specs.declared.tree.Match.{Match}
use Rattle.ruletree.specs.declared.tree.Verdict.{Verdict}
use Rattle.ruletree.specs.declared.tree.Verdict.TheVariants.{Accept, Drop, Return, Continue, Jump, Goto}
use Rattle.ruletree.specs.declared.tree.Pair.{Pair}
use Rattle.ruletree.specs.declared.tree.Vmap.{Vmap}
use Rattle.ruletree.specs.declared.tree.End.{End}
use Rattle.ruletree.specs.declared.tree.End.TheVariants as end
use Rattle.ruletree.specs.declared.tree.Rule.{Rule}
use Rattle.ruletree.specs.declared.tree.Base.{Base}
use Rattle.ruletree.specs.declared.tree.Policy.{Policy}
use Rattle.ruletree.specs.declared.tree.Policy.TheVariants as policy
use Rattle.ruletree.specs.declared.tree.Chain.{Chain}
use Rattle.ruletree.specs.declared.tree.Set.{Set}
use Rattle.ruletree.specs.declared.tree.SetType.{SetType}
use Rattle.ruletree.specs.declared.tree.SetElements.{SetElements}
use Rattle.ruletree.specs.declared.tree.Table.{Table}
use Rattle.ruletree.specs.declared.tree.Spelled.{Spelled}

abbrev pub Tokens : Type 0
Tokens = List Token

-- Grammar x ts rest: ts begins with a spelling of x, and rest is what stands behind it
abbrev pub Spelling : Type 0 → Type 1
Spelling A = A → Tokens → Tokens → Type 0

-- ---- lists

abbrev pub is_sep : Token → Bool
is_sep NewLine = true
is_sep (Symbol Semicolon) = true
is_sep _ = false

abbrev pub begins_sep : Tokens → Bool
begins_sep [] = false
begins_sep (t ∷ ts) = is_sep t

-- any number of NEWLINEs and semicolons
abbrev pub Fill : Tokens → Tokens → Type 0
Fill ts rest = (gap : Tokens) × AllByRecursion (λ t. is_sep t ≡ true) gap × (ts ≡ gap ++ rest)

module _ {A : Type 0} (Item : Spelling A) (braced : A → Bool) where
  -- between x and what comes next there is a separator, unless x ends with a brace
  abbrev pub Apart : A → List A → Tokens → Type 0
  Apart x [] behind = Unit {0}
  Apart x (y ∷ ys) behind = (braced x || begins_sep behind) ≡ true

  abbrev pub Listed : Spelling (List A)
  Listed [] ts rest = Fill ts rest
  Listed (x ∷ xs) ts rest = (a b : Tokens) × Fill ts a × Item x a b × Apart x xs b
      × Listed xs b rest

-- one behind the other
abbrev pub Each : {A : Type 0} → Spelling A → Spelling (List A)
Each Item [] ts rest = ts ≡ rest
Each Item (x ∷ xs) ts rest = (a : Tokens) × Item x ts a × Each Item xs a rest

-- perhaps a comma, where one may stand behind the last
abbrev pub MayComma : Bool → Tokens → Tokens → Type 0
MayComma true ts rest = (ts ≡ rest) ⊎ (ts ≡ Symbol Comma ∷ rest)
MayComma false ts rest = ts ≡ rest

-- one or more with a comma between
abbrev pub Entries : {A : Type 0} → Spelling A → Bool → Spelling (List A)
Entries Entry trailing [] ts rest = ⊥
Entries Entry trailing (x ∷ []) ts rest = (a : Tokens) × Entry x ts a × MayComma trailing a rest
Entries Entry trailing (x ∷ y ∷ xs) ts rest = (a : Tokens) × Entry x ts (Symbol Comma ∷ a)
    × Entries Entry trailing (y ∷ xs) a rest

-- without the NEWLINEs before the closing brace
abbrev pub inside : Tokens → Tokens
inside [] = []
inside (Symbol Close ∷ ts) = Symbol Close ∷ ts
inside (NewLine ∷ ts) = inside ts
inside (t ∷ ts) = t ∷ inside ts

-- between braces, where no NEWLINE counts
abbrev pub Braces : {A : Type 0} → Spelling A → Spelling (List A)
Braces Entry xs ts rest = (a : Tokens) × (ts ≡ Symbol Open ∷ a)
    × Entries Entry true xs (inside a) (Symbol Close ∷ rest)

abbrev pub CommentIs : Tokens → Tokens → Type 0
CommentIs ts rest = (text : List ℕ) × (ts ≡ Name (codes "comment") ∷ Quoted text ∷ rest)

-- ---- elements

abbrev pub ValueIs : Spelling Value
ValueIs (value.Address a) ts rest = ts ≡ Address a ∷ rest
ValueIs (value.Prefix a n) ts rest = (ts ≡ Address a ∷ Symbol Slash ∷ Number n ∷ rest) × (n ≤ 32)
ValueIs (value.Addresses a b) ts rest = (ts ≡ Address a ∷ Symbol Minus ∷ Address b ∷ rest) × (a ≤ b)
ValueIs (value.Number n) ts rest = ts ≡ Number n ∷ rest
ValueIs (value.Numbers m n) ts rest = (ts ≡ Number m ∷ Symbol Minus ∷ Number n ∷ rest) × (m ≤ n)
ValueIs (value.Name n) ts rest = ts ≡ Name n ∷ rest
ValueIs (value.Quoted text) ts rest = ts ≡ Quoted text ∷ rest

abbrev pub ElementIs : Spelling Element
ElementIs x = ValueIs x.value

-- ---- verdicts

abbrev pub VerdictIs : Spelling Verdict
VerdictIs Accept ts rest = ts ≡ Name (codes "accept") ∷ rest
VerdictIs Drop ts rest = ts ≡ Name (codes "drop") ∷ rest
VerdictIs Return ts rest = ts ≡ Name (codes "return") ∷ rest
VerdictIs Continue ts rest = ts ≡ Name (codes "continue") ∷ rest
VerdictIs (Jump to) ts rest = ts ≡ Name (codes "jump") ∷ Name to.chain ∷ rest
VerdictIs (Goto to) ts rest = ts ≡ Name (codes "goto") ∷ Name to.chain ∷ rest

abbrev pub PairIs : Spelling Pair
PairIs p ts rest = (a : Tokens) × ElementIs p.key ts (Symbol Colon ∷ a) × VerdictIs p.verdict a rest

-- ---- matches

-- perhaps with `meta` before it
abbrev pub MayMeta : List ℕ → Tokens → Tokens → Type 0
MayMeta word ts rest = (ts ≡ Name word ∷ rest) ⊎ (ts ≡ Name (codes "meta") ∷ Name word ∷ rest)

abbrev pub HeadIs : Spelling Head
HeadIs Iifname ts rest = MayMeta (codes "iifname") ts rest ⊎ MayMeta (codes "iif") ts rest
HeadIs Oifname ts rest = MayMeta (codes "oifname") ts rest ⊎ MayMeta (codes "oif") ts rest
HeadIs Saddr ts rest = ts ≡ Name (codes "ip") ∷ Name (codes "saddr") ∷ rest
HeadIs Daddr ts rest = ts ≡ Name (codes "ip") ∷ Name (codes "daddr") ∷ rest
HeadIs Protocol ts rest = (ts ≡ Name (codes "ip") ∷ Name (codes "protocol") ∷ rest)
    ⊎ (ts ≡ Name (codes "meta") ∷ Name (codes "l4proto") ∷ rest)
HeadIs (Sport t) ts rest = ts ≡ Name (transport_name t) ∷ Name (codes "sport") ∷ rest
HeadIs (Dport t) ts rest = ts ≡ Name (transport_name t) ∷ Name (codes "dport") ∷ rest
HeadIs State ts rest = ts ≡ Name (codes "ct") ∷ Name (codes "state") ∷ rest

abbrev pub OperatorIs : Spelling Bool
OperatorIs true ts rest = ts ≡ Symbol Differs ∷ rest
OperatorIs false ts rest = (ts ≡ rest) ⊎ (ts ≡ Symbol Equals ∷ rest)

-- an element without braces isn't this word where a side begins
abbrev pub IsBare : Element → Type 0
IsBare x = ¬ (x.value ≡ value.Name (codes "vmap"))

-- two states at least, with commas between
abbrev pub AreStates : Spelling (List Element)
AreStates (x ∷ y ∷ xs) ts rest = IsBare x × Entries ElementIs false (x ∷ y ∷ xs) ts rest
AreStates _ ts rest = ⊥

abbrev pub SideIs : Head → Spelling Side
SideIs head (One x) ts rest = IsBare x × ElementIs x ts rest
SideIs head (Several xs) ts rest = Braces ElementIs xs ts rest
    ⊎ ((head ≡ State) × AreStates xs ts rest)
SideIs head (Named set) ts rest = ts ≡ Symbol At ∷ Name set.name ∷ rest

abbrev pub MatchIs : Spelling Match
MatchIs m ts rest = (a b : Tokens) × HeadIs m.head ts a × OperatorIs m.negated a b
    × SideIs m.head m.side b rest

-- ---- rules

abbrev pub CounterIs : Tokens → Tokens → Type 0
CounterIs ts rest = (ts ≡ Name (codes "counter") ∷ rest)
    ⊎ ((packets bytes : ℕ) × (ts ≡ Name (codes "counter") ∷ Name (codes "packets") ∷ Number packets
    ∷ Name (codes "bytes") ∷ Number bytes ∷ rest))

pub data Part : Type 0 where
  counter : Part
  test : Match → Part

abbrev pub PartIs : Spelling Part
PartIs counter ts rest = CounterIs ts rest
PartIs (test m) ts rest = MatchIs m ts rest

abbrev pub matches_of : List Part → List Match
matches_of [] = []
matches_of (counter ∷ parts) = matches_of parts
matches_of (test m ∷ parts) = m ∷ matches_of parts

abbrev pub VmapIs : Spelling Vmap
VmapIs v ts rest = (a : Tokens) × HeadIs v.head ts (Name (codes "vmap") ∷ a)
    × Braces PairIs v.pairs a rest

-- perhaps with `ip` before it
abbrev pub ToIs : Spelling ℕ
ToIs address ts rest = (ts ≡ Name (codes "to") ∷ Address address ∷ rest)
    ⊎ (ts ≡ Name (codes "ip") ∷ Name (codes "to") ∷ Address address ∷ rest)

abbrev pub PortIs : Spelling (Option ℕ)
PortIs None ts rest = ts ≡ rest
PortIs (Some port) ts rest = (ts ≡ Symbol Colon ∷ Number port ∷ rest) × (1 ≤ port) × (port ≤ 65535)

abbrev pub EndIs : Spelling End
EndIs (end.Verdict v) ts rest = VerdictIs v ts rest
EndIs (end.Vmap v) ts rest = VmapIs v ts rest
EndIs (end.Dnat d) ts rest = (a b : Tokens) × (ts ≡ Name (codes "dnat") ∷ a)
    × ToIs d.address a b × PortIs d.port b rest
EndIs (end.Snat s) ts rest = (a : Tokens) × (ts ≡ Name (codes "snat") ∷ a) × ToIs s.address a rest
EndIs (end.Masquerade line) ts rest = ts ≡ Name (codes "masquerade") ∷ rest

abbrev pub MayEnd : Spelling (Option End)
MayEnd None ts rest = ts ≡ rest
MayEnd (Some e) ts rest = EndIs e ts rest

-- a match, a counter or an end at least
abbrev pub IsSaid : List Part → Option End → Type 0
IsSaid [] None = ⊥
IsSaid _ _ = Unit {0}

abbrev pub RuleIs : Spelling Rule
RuleIs r ts rest = (parts : List Part) × (a b : Tokens)
    × Each PartIs parts ts a × MayEnd r.end a b × ((b ≡ rest) ⊎ CommentIs b rest)
    × (r.matches ≡ matches_of parts) × IsSaid parts r.end

-- ---- chains

-- a number of a priority
abbrev pub AmountIs : Spelling ℕ
AmountIs n ts rest = (ts ≡ Number n ∷ rest) × (n ≤ 1000000000)

abbrev pub PlusIs : ℤ → ℤ → Tokens → Tokens → Type 0
PlusIs z sum ts rest = (n : ℕ) × AmountIs n ts rest × (sum ≡ z +ℤ pos n)

abbrev pub MinusIs : ℤ → ℤ → Tokens → Tokens → Type 0
MinusIs z sum ts rest = (n : ℕ) × (a : Tokens) × (ts ≡ Symbol Minus ∷ a) × AmountIs n a rest
    × (sum ≡ z +ℤ neg_ℤ (pos n))

-- a name, and perhaps a number that is added to what it means or taken from that
abbrev pub NamedIs : PriorityName → ℤ → Tokens → Tokens → Type 0
NamedIs name z ts rest = (a : Tokens) × (ts ≡ Name (priority_name name) ∷ a)
    × (((a ≡ rest) × (z ≡ priority_value name))
    ⊎ (MinusIs (priority_value name) z a rest
    ⊎ ((b : Tokens) × (a ≡ Symbol Plus ∷ b) × PlusIs (priority_value name) z b rest)))

abbrev pub PriorityIs : Spelling ℤ
PriorityIs z ts rest = PlusIs (pos 0) z ts rest
    ⊎ (MinusIs (pos 0) z ts rest ⊎ ((name : PriorityName) × NamedIs name z ts rest))

-- the policy aside
abbrev pub BaseIs : Spelling Base
BaseIs b ts rest = (a : Tokens)
    × (ts ≡ Name (codes "type") ∷ Name (type_name b.kind) ∷ Name (codes "hook")
    ∷ Name (hook_name b.hook) ∷ Name (codes "priority") ∷ a)
    × PriorityIs b.priority a rest

pub data Member : Type 0 where
  comment_member : Member
  base_member : Base → Member
  policy_member : Policy → Member
  rule_member : Rule → Member

-- without a policy of its own a base has accept
abbrev pub MemberIs : Spelling Member
MemberIs comment_member ts rest = CommentIs ts rest
MemberIs (base_member b) ts rest = BaseIs b ts rest × (b.policy ≡ policy.Accept)
MemberIs (policy_member p) ts rest = ts ≡ Name (codes "policy") ∷ Name (policy_name p) ∷ rest
MemberIs (rule_member r) ts rest = RuleIs r ts rest

-- comments, then the base and its policy if they are there, then the rules
abbrev pub AreMembers : List Member → Option Base → List Rule → Type 0
AreMembers (comment_member ∷ members) b rules = AreMembers members b rules
AreMembers (base_member x ∷ policy_member p ∷ members) b rules =
    (b ≡ Some (record {
      line = tt;
      kind = x.kind;
      hook = x.hook;
      priority = x.priority;
      policy = p;
    }))
    × (members ≡ map rule_member rules)
AreMembers (base_member x ∷ members) b rules = (b ≡ Some x) × (members ≡ map rule_member rules)
AreMembers members b rules = (b ≡ None) × (members ≡ map rule_member rules)

abbrev pub ChainIs : Spelling Chain
ChainIs c ts rest = (a : Tokens) × (members : List Member)
    × (ts ≡ Name (codes "chain") ∷ Name c.name ∷ Symbol Open ∷ a)
    × Listed MemberIs (λ _. false) members a (Symbol Close ∷ rest)
    × AreMembers members c.base c.rules

-- ---- sets

abbrev pub FlagIs : Spelling Flag
FlagIs f ts rest = ts ≡ Name (flag_name f) ∷ rest

pub data SetLine : Type 0 where
  type_line : SetType → SetLine
  elements_line : SetElements → SetLine
  flags_line : List Flag → SetLine
  merge_line : SetLine
  comment_line : SetLine

abbrev pub SetLineIs : Spelling SetLine
SetLineIs (type_line t) ts rest = ts ≡ Name (codes "type") ∷ Name t.name ∷ rest
SetLineIs (elements_line e) ts rest = (a : Tokens)
    × (ts ≡ Name (codes "elements") ∷ Symbol Equal ∷ a) × Braces ElementIs e.elements a rest
SetLineIs (flags_line flags) ts rest = (a : Tokens) × (ts ≡ Name (codes "flags") ∷ a)
    × Entries FlagIs false flags a rest
SetLineIs merge_line ts rest = ts ≡ Name (codes "auto-merge") ∷ rest
SetLineIs comment_line ts rest = CommentIs ts rest

abbrev pub types_of : List SetLine → List SetType
types_of [] = []
types_of (type_line t ∷ lines) = t ∷ types_of lines
types_of (_ ∷ lines) = types_of lines

abbrev pub elements_of : List SetLine → List SetElements
elements_of [] = []
elements_of (elements_line e ∷ lines) = e ∷ elements_of lines
elements_of (_ ∷ lines) = elements_of lines

abbrev pub SetIs : Spelling Set
SetIs s ts rest = (a : Tokens) × (lines : List SetLine)
    × (ts ≡ Name (codes "set") ∷ Name s.name ∷ Symbol Open ∷ a)
    × Listed SetLineIs (λ _. false) lines a (Symbol Close ∷ rest)
    × (s.types ≡ types_of lines) × (s.elements ≡ elements_of lines)

-- ---- tables

pub data Item : Type 0 where
  comment_item : Item
  set_item : Set → Item
  chain_item : Chain → Item

abbrev pub ItemIs : Spelling Item
ItemIs comment_item ts rest = CommentIs ts rest
ItemIs (set_item s) ts rest = SetIs s ts rest
ItemIs (chain_item c) ts rest = ChainIs c ts rest

abbrev pub is_block : Item → Bool
is_block comment_item = false
is_block _ = true

abbrev pub sets_of : List Item → List Set
sets_of [] = []
sets_of (set_item s ∷ items) = s ∷ sets_of items
sets_of (_ ∷ items) = sets_of items

abbrev pub chains_of : List Item → List Chain
chains_of [] = []
chains_of (chain_item c ∷ items) = c ∷ chains_of items
chains_of (_ ∷ items) = chains_of items

-- a table without a family is of `ip`
abbrev pub FamilyIs : Spelling Family
FamilyIs Ip ts rest = (ts ≡ rest) ⊎ (ts ≡ Name (family_name Ip) ∷ rest)
FamilyIs Inet ts rest = ts ≡ Name (family_name Inet) ∷ rest

abbrev pub TableIs : Spelling Table
TableIs t ts rest = (a b : Tokens) × (items : List Item)
    × (ts ≡ Name (codes "table") ∷ a) × FamilyIs t.family a (Name t.name ∷ Symbol Open ∷ b)
    × (is_reserved t.name ≡ false)
    × Listed ItemIs is_block items b (Symbol Close ∷ rest)
    × (t.sets ≡ sets_of items) × (t.chains ≡ chains_of items)

-- ---- texts

pub data Statement : Type 0 where
  flush : Statement
  table : Table → Statement

abbrev pub StatementIs : Spelling Statement
StatementIs flush ts rest = ts ≡ Name (codes "flush") ∷ Name (codes "ruleset") ∷ rest
StatementIs (table t) ts rest = TableIs t ts rest

abbrev pub is_table : Statement → Bool
is_table flush = false
is_table (table t) = true

-- flushes, then the tables
abbrev pub AreStatements : List Statement → List Table → Type 0
AreStatements (flush ∷ statements) tables = AreStatements statements tables
AreStatements statements tables = statements ≡ map table tables

-- the tokens spell the ruleset
abbrev pub Spells : Spelled → Tokens → Type 0
Spells r ts = (statements : List Statement) × Listed StatementIs is_table statements ts []
    × AreStatements statements r.tables
