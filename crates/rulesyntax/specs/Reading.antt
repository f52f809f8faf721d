-- Reading tokens from left to right. No public clause cites this module.
use Rattle.std.specs.Prelude.{◌≡◌, ℕ, ℤ, pos, neg_ℤ, ◌+ℤ◌, zero, suc, Bool, true, false, ◌||◌, ◌&&◌, not, ◌==◌, codes, nat_le, List, [], ◌∷◌, ◌++◌, length, Option, Some, None, Result, Ok, Err, if◌then◌else◌}
use Rattle.std.specs.Str.{bytes_eq}
use Rattle.rulesyntax.specs.Names.{priority_value, is_reserved}
use Rattle.rulesyntax.specs.Words.{lookup, flag_words, verdict_words, nat_words, head_words, meta_words, ip_words, port_words, family_words, type_words, hook_words, policy_words, priority_words, statement_words, item_words, line_words, member_words}
use Rattle.rulesyntax.specs.Grammar.{Tokens, inside}
use Rattle.ruletokens.specs.declared.token.Token.{Token}
use Rattle.ruletokens.specs.declared.token.Token.TheVariants as token
use Rattle.ruletokens.specs.declared.token.Symbol as symbol
use Rattle.ruletokens.specs.declared.token.Symbol.TheVariants.{Open, Close, Comma, Semicolon, Colon, Slash, Minus, Plus, Equal, Equals, Differs, At}
use Rattle.rulesyntax.specs.declared.error.ReadError.{ReadError}
use Rattle.rulesyntax.specs.declared.error.ReadError.TheVariants as read_error
use Rattle.rulesyntax.specs.declared.keyword.Flag.{Flag}
use Rattle.rulesyntax.specs.declared.keyword.VerdictWord.{VerdictWord}
use Rattle.rulesyntax.specs.declared.keyword.VerdictWord.TheVariants as verdict_word
use Rattle.rulesyntax.specs.declared.keyword.NatWord.{NatWord}
use Rattle.rulesyntax.specs.declared.keyword.NatWord.TheVariants as nat_word
use Rattle.rulesyntax.specs.declared.keyword.HeadWord.{HeadWord}
use Rattle.rulesyntax.specs.declared.keyword.HeadWord.TheVariants as head_word
use Rattle.rulesyntax.specs.declared.keyword.MetaWord.{MetaWord}
use Rattle.rulesyntax.specs.declared.keyword.MetaWord.TheVariants as meta_word
use Rattle.rulesyntax.specs.declared.keyword.IpWord.{IpWord}
use Rattle.rulesyntax.specs.declared.keyword.IpWord.TheVariants as ip_word
use Rattle.rulesyntax.specs.declared.keyword.PortWord.{PortWord}
use Rattle.rulesyntax.specs.declared.keyword.PortWord.TheVariants as port_word
use Rattle.rulesyntax.specs.declared.keyword.StatementWord.{StatementWord}
use Rattle.rulesyntax.specs.declared.keyword.StatementWord.TheVariants as statement_word
use Rattle.rulesyntax.specs.declared.keyword.ItemWord.{ItemWord}
use Rattle.rulesyntax.specs.declared.keyword.ItemWord.TheVariants as item_word
use Rattle.rulesyntax.specs.declared.keyword.LineWord.{LineWord}
use Rattle.rulesyntax.specs.declared.keyword.LineWord.TheVariants as line_word
use Rattle.rulesyntax.specs.declared.keyword.MemberWord.{MemberWord}
use Rattle.rulesyntax.specs.declared.keyword.MemberWord.TheVariants as member_word
use Rattle.ruletree.specs.declared.tree.Family.{Family}
use Rattle.ruletree.specs.declared.tree.Family.TheVariants.{Ip}
use Rattle.ruletree.specs.declared.tree.Transport.{Transport}
use Rattle.ruletree.specs.declared.tree.Transport.TheVariants.{Tcp, Udp}
use Rattle.ruletree.specs.declared.tree.Head.{Head}
use Rattle.ruletree.specs.declared.tree.Head.TheVariants.{Iifname, Oifname, Saddr, Daddr, Protocol, Sport, Dport, State}
use Rattle.ruletree.specs.declared.tree.Value.{Value}
use Rattle.ruletree.specs.declared.tree.Value.TheVariants as value
use Rattle.ruletree.specs.declared.tree.Element.{Element}
use Rattle.ruletree.specs.declared.tree.Side.{Side}
use Rattle.ruletree.specs.declared.tree.Side.TheVariants.{One, Several, Named}
use Rattle.ruletree.specs.declared.tree.Match.{Match}
use Rattle.ruletree.specs.declared.tree.Verdict.{Verdict}
use Rattle.ruletree.specs.declared.tree.Verdict.TheVariants.{Accept, Drop, Return, Continue, Jump, Goto}
use Rattle.ruletree.specs.declared.tree.Pair.{Pair}
use Rattle.ruletree.specs.declared.tree.Vmap.{Vmap}
use Rattle.ruletree.specs.declared.tree.End.{End}
use Rattle.ruletree.specs.declared.tree.End.TheVariants as end
use Rattle.ruletree.specs.declared.tree.Rule.{Rule}
use Rattle.ruletree.specs.declared.tree.Base.{Base}
use Rattle.ruletree.specs.declared.tree.Policy.{Policy}
use Rattle.ruletree.specs.declared.tree.Policy.TheVariants as policy
use Rattle.ruletree.specs.declared.tree.Chain.{Chain}
use Rattle.ruletree.specs.declared.tree.Set.{Set}
use Rattle.ruletree.specs.declared.tree.Table.{Table}
use Rattle.ruletree.specs.declared.tree.Spelled.{Spelled}
use Rattle.rulesyntax.specs.declared.rule.Part.{Part}
use Rattle.rulesyntax.specs.declared.rule.Part.TheVariants as part
use Rattle.rulesyntax.specs.declared.rule.Parts.{Parts}
use Rattle.rulesyntax.specs.declared.chain.Stage.{Stage}
use Rattle.rulesyntax.specs.declared.chain.Stage.TheVariants as stage
use Rattle.rulesyntax.specs.declared.chain.ChainBody.{ChainBody}
use Rattle.rulesyntax.specs.declared.set.SetBody.{SetBody}
use Rattle.rulesyntax.specs.declared.table.TableBody.{TableBody}
use denote.Bor.{Bor}

-- a value and the tokens behind it
abbrev pub Reader : Type 0 → Type 0
Reader A = Tokens → Option (A × Tokens)

infixl 10 ◌>>=◌
abbrev pub ◌>>=◌ : {A B : Type 0} → Option A → (A → Option B) → Option B
(Some x) >>= f = f x
None >>= f = None

abbrev pub if_some : {A B : Type 0} → Option A → (A → B) → B → B
if_some (Some x) found missing = found x
if_some None found missing = missing

-- ---- what functions return

abbrev pub IsSyntax : ReadError → Type 0
IsSyntax read_error.Memory = ⊥
IsSyntax (read_error.Syntax spot) = Unit {0}

-- What a function returned is what reading gives, unless memory ran out.
abbrev pub Fails : {Y : Type 0} → ReadError → Option Y → Type 0
Fails read_error.Memory read = Unit {0}
Fails (read_error.Syntax spot) read = read ≡ None

-- without the NEWLINEs in front
unfoldable pub skip : Tokens → Tokens
skip (token.NewLine ∷ rest) = skip rest
skip ts = ts

-- what is seen of the tokens: all but the NEWLINEs, between braces
abbrev pub seen : Bool → Tokens → Tokens
seen true ts = inside ts
seen false ts = ts

abbrev pub Gives : {X : Type 0} → Bool → Result (X × Bor Tokens) ReadError
    → Option (X × Tokens) → Type 0
Gives braces (Ok x) read = read ≡ Some (x.0, seen braces x.1.now)
Gives braces (Err e) read = Fails e read

abbrev pub Goes : Bool → Result (Bor Tokens) ReadError → Option Tokens → Type 0
Goes braces (Ok rest) read = read ≡ Some (seen braces rest.now)
Goes braces (Err e) read = Fails e read

abbrev pub Finds : {X : Type 0} → Bool → Option (X × Bor Tokens) → Option (X × Tokens) → Type 0
Finds braces (Some x) read = read ≡ Some (x.0, seen braces x.1.now)
Finds braces None read = read ≡ None

abbrev pub Eats : Bool → Option (Bor Tokens) → Option Tokens → Type 0
Eats braces (Some rest) read = read ≡ Some (seen braces rest.now)
Eats braces None read = read ≡ None

abbrev pub Nexts : Bool → Option (Bor Token × Bor Tokens) → Option (Token × Tokens) → Type 0
Nexts braces (Some x) read = read ≡ Some (x.0.now, seen braces x.1.now)
Nexts braces None read = read ≡ None

-- ---- single tokens

-- the token in front, but no closing brace
unfoldable pub next_at : Tokens → Option (Token × Tokens)
next_at [] = None
next_at (token.Symbol Close ∷ ts) = None
next_at (t ∷ ts) = Some (t, ts)

unfoldable pub number_of : Token × Tokens → Option (ℕ × Tokens)
number_of (token.Number n, rest) = Some (n, rest)
number_of _ = None

unfoldable pub number_at : Reader ℕ
number_at ts = next_at ts >>= number_of

unfoldable pub address_of : Token × Tokens → Option (ℕ × Tokens)
address_of (token.Address a, rest) = Some (a, rest)
address_of _ = None

unfoldable pub address_at : Reader ℕ
address_at ts = next_at ts >>= address_of

unfoldable pub name_of : Token × Tokens → Option (List ℕ × Tokens)
name_of (token.Name n, rest) = Some (n, rest)
name_of _ = None

unfoldable pub name_at : Reader (List ℕ)
name_at ts = next_at ts >>= name_of

unfoldable pub quoted_of : Token × Tokens → Option Tokens
quoted_of (token.Quoted q, rest) = Some rest
quoted_of _ = None

unfoldable pub quoted_at : Tokens → Option Tokens
quoted_at ts = next_at ts >>= quoted_of

unfoldable pub word_of : List ℕ → Token × Tokens → Option Tokens
word_of w (token.Name n, rest) = if bytes_eq n w then Some rest else None
word_of w _ = None

unfoldable pub word_at : List ℕ → Tokens → Option Tokens
word_at w ts = next_at ts >>= word_of w

unfoldable pub rank : symbol.Symbol → ℕ
rank Open = 0
rank Close = 1
rank Comma = 2
rank Semicolon = 3
rank Colon = 4
rank Slash = 5
rank Minus = 6
rank Plus = 7
rank Equal = 8
rank Equals = 9
rank Differs = 10
rank At = 11

unfoldable pub symbol_of : symbol.Symbol → Token × Tokens → Option Tokens
symbol_of s (token.Symbol t, rest) = if rank t == rank s then Some rest else None
symbol_of s _ = None

unfoldable pub symbol_at : symbol.Symbol → Tokens → Option Tokens
symbol_at s ts = next_at ts >>= symbol_of s

unfoldable pub keyword_of : {K : Type 0} → List (List ℕ × K) → Token × Tokens → Option (K × Tokens)
keyword_of words (token.Name n, rest) = lookup words n >>= λ k. Some (k, rest)
keyword_of words _ = None

unfoldable pub keyword_at : {K : Type 0} → List (List ℕ × K) → Reader K
keyword_at words ts = next_at ts >>= keyword_of words

unfoldable pub close_at : Tokens → Option Tokens
close_at (token.Symbol Close ∷ rest) = Some rest
close_at _ = None

unfoldable pub is_close : Tokens → Bool
is_close (token.Symbol Close ∷ rest) = true
is_close _ = false

-- ---- elements

unfoldable pub prefix_behind : ℕ → Reader Value
prefix_behind a ts = do
  n ← number_at ts
  if nat_le n.0 32 then Some (value.Prefix a n.0, n.1) else None

unfoldable pub addresses_behind : ℕ → Reader Value
addresses_behind a ts = do
  b ← address_at ts
  if nat_le a b.0 then Some (value.Addresses a b.0, b.1) else None

unfoldable pub address_behind : ℕ → Reader Value
address_behind a ts = if_some (symbol_at Slash ts) (prefix_behind a)
    (if_some (symbol_at Minus ts) (addresses_behind a) (Some (value.Address a, ts)))

unfoldable pub numbers_behind : ℕ → Reader Value
numbers_behind a ts = do
  b ← number_at ts
  if nat_le a b.0 then Some (value.Numbers a b.0, b.1) else None

unfoldable pub number_behind : ℕ → Reader Value
number_behind a ts = if_some (symbol_at Minus ts) (numbers_behind a) (Some (value.Number a, ts))

unfoldable pub value_of : Token × Tokens → Option (Value × Tokens)
value_of (token.Address a, rest) = address_behind a rest
value_of (token.Number n, rest) = number_behind n rest
value_of (token.Name n, rest) = Some (value.Name n, rest)
value_of (token.Quoted q, rest) = Some (value.Quoted q, rest)
value_of _ = None

unfoldable pub value_at : Reader Value
value_at ts = next_at ts >>= value_of

unfoldable pub element_at : Reader Element
element_at ts = value_at ts >>= λ v. Some (record { line = tt; value = v.0 }, v.1)

-- ---- entries with commas between

unfoldable pub behind_comma : Bool → Tokens → Bool × Tokens
behind_comma braces ts = if braces && is_close ts then (false, ts) else (true, ts)

-- whether another entry comes, and the tokens behind the comma
unfoldable pub comma_at : Bool → Tokens → Bool × Tokens
comma_at braces ts = if_some (symbol_at Comma ts) (behind_comma braces) (false, ts)

-- Each turn takes a token, so one turn more than there are tokens is enough.
unfoldable pub entries_from : {E : Type 0} → Reader E → Bool → ℕ → Reader (List E)
entries_from reads braces zero ts = None
entries_from reads braces (suc n) ts = do
  x ← reads ts
  if (comma_at braces x.1).0 then (do
    xs ← entries_from reads braces n (comma_at braces x.1).1
    Some (x.0 ∷ xs.0, xs.1)) else Some (x.0 ∷ [], (comma_at braces x.1).1)

-- behind the opening brace
unfoldable pub opened_at : {E : Type 0} → Reader E → Reader (List E)
opened_at reads ts = do
  xs ← entries_from reads true (suc (length ts)) (inside ts)
  rest ← close_at xs.1
  Some (xs.0, rest)

unfoldable pub flag_at : Reader Flag
flag_at ts = keyword_at flag_words ts

-- ---- verdicts

unfoldable pub verdict_behind : VerdictWord → Reader Verdict
verdict_behind verdict_word.Accept ts = Some (Accept, ts)
verdict_behind verdict_word.Drop ts = Some (Drop, ts)
verdict_behind verdict_word.Return ts = Some (Return, ts)
verdict_behind verdict_word.Continue ts = Some (Continue, ts)
verdict_behind verdict_word.Jump ts =
    name_at ts >>= λ n. Some (Jump (record { line = tt; chain = n.0 }), n.1)
verdict_behind verdict_word.Goto ts =
    name_at ts >>= λ n. Some (Goto (record { line = tt; chain = n.0 }), n.1)

unfoldable pub verdict_at : Reader Verdict
verdict_at ts = keyword_at verdict_words ts >>= λ k. verdict_behind k.0 k.1

unfoldable pub pair_at : Reader Pair
pair_at ts = do
  x ← element_at ts
  a ← symbol_at Colon x.1
  v ← verdict_at a
  Some (record { key = x.0; verdict = v.0 }, v.1)

-- ---- matches

unfoldable pub meta_head : MetaWord → Head
meta_head meta_word.Iifname = Iifname
meta_head meta_word.Iif = Iifname
meta_head meta_word.Oifname = Oifname
meta_head meta_word.Oif = Oifname
meta_head meta_word.L4proto = Protocol

unfoldable pub ip_head : IpWord → Head
ip_head ip_word.Saddr = Saddr
ip_head ip_word.Daddr = Daddr
ip_head ip_word.Protocol = Protocol

unfoldable pub port_head : Transport → PortWord → Head
port_head t port_word.Sport = Sport t
port_head t port_word.Dport = Dport t

unfoldable pub transport_word : Transport → HeadWord
transport_word Tcp = head_word.Tcp
transport_word Udp = head_word.Udp

unfoldable pub head_behind : HeadWord → Reader Head
head_behind head_word.Meta ts = keyword_at meta_words ts >>= λ k. Some (meta_head k.0, k.1)
head_behind head_word.Ip ts = keyword_at ip_words ts >>= λ k. Some (ip_head k.0, k.1)
head_behind head_word.Tcp ts = keyword_at port_words ts >>= λ k. Some (port_head Tcp k.0, k.1)
head_behind head_word.Udp ts = keyword_at port_words ts >>= λ k. Some (port_head Udp k.0, k.1)
head_behind head_word.Ct ts = word_at (codes "state") ts >>= λ rest. Some (State, rest)
head_behind head_word.Iifname ts = Some (Iifname, ts)
head_behind head_word.Iif ts = Some (Iifname, ts)
head_behind head_word.Oifname ts = Some (Oifname, ts)
head_behind head_word.Oif ts = Some (Oifname, ts)

unfoldable pub head_at : Reader Head
head_at ts = keyword_at head_words ts >>= λ k. head_behind k.0 k.1

abbrev pub is_state : Head → Bool
is_state State = true
is_state _ = false

unfoldable pub operator_at : Tokens → Bool × Tokens
operator_at ts = if_some (symbol_at Differs ts) (λ rest. (true, rest))
    (if_some (symbol_at Equals ts) (λ rest. (false, rest)) (false, ts))

abbrev pub states_side : List Element → Side
states_side (x ∷ []) = One x
states_side xs = Several xs

unfoldable pub states_at : Reader Side
states_at ts =
    entries_from element_at false (suc (length ts)) ts >>= λ xs. Some (states_side xs.0, xs.1)

unfoldable pub one_at : Reader Side
one_at ts = element_at ts >>= λ x. Some (One x.0, x.1)

unfoldable pub named_behind : Reader Side
named_behind ts = name_at ts >>= λ n. Some (Named (record { line = tt; name = n.0 }), n.1)

unfoldable pub several_behind : Reader Side
several_behind ts = opened_at element_at ts >>= λ xs. Some (Several xs.0, xs.1)

unfoldable pub plain_at : Bool → Reader Side
plain_at state ts =
    if_some (word_at (codes "vmap") ts) (λ _. None) (if state then states_at ts else one_at ts)

unfoldable pub side_at : Bool → Reader Side
side_at state ts = if_some (symbol_at At ts) named_behind
    (if_some (symbol_at Open ts) several_behind (plain_at state ts))

unfoldable pub match_at : Reader Match
match_at ts = do
  h ← head_at ts
  x ← side_at (is_state h.0) (operator_at h.1).1
  Some (record { line = tt; head = h.0; negated = (operator_at h.1).0; side = x.0 }, x.1)

-- ---- rules

unfoldable pub amounts_behind : Tokens → Option Tokens
amounts_behind ts = do
  p ← number_at ts
  a ← word_at (codes "bytes") p.1
  b ← number_at a
  Some b.1

unfoldable pub counter_behind : Tokens → Option Tokens
counter_behind ts = if_some (word_at (codes "packets") ts) amounts_behind (Some ts)

unfoldable pub begins_head : Tokens → Bool
begins_head ts = if_some (keyword_at head_words ts) (λ _. true) false

unfoldable pub begins_word : List ℕ → Tokens → Bool
begins_word w ts = if_some (word_at w ts) (λ _. true) false

unfoldable pub begins_vmap : Tokens → Bool
begins_vmap ts = if_some (head_at ts) (λ h. begins_word (codes "vmap") h.1) false

unfoldable pub begins_part : Tokens → Bool
begins_part ts =
    if begins_word (codes "counter") ts then true else (begins_head ts && not (begins_vmap ts))

unfoldable pub part_at : Reader Part
part_at ts = if_some (word_at (codes "counter") ts)
    (λ a. counter_behind a >>= λ rest. Some (part.Counter, rest))
    (match_at ts >>= λ m. Some (part.Match m.0, m.1))

abbrev pub with_part : Parts → Part → Parts
with_part ps part.Counter = record { matches = ps.matches; any = true }
with_part ps (part.Match m) = record { matches = ps.matches ++ m ∷ []; any = true }

unfoldable pub parts_from : ℕ → Parts → Reader Parts
parts_from zero ps ts = None
parts_from (suc n) ps ts =
    if begins_part ts then (part_at ts >>= λ x. parts_from n (with_part ps x.0) x.1)
    else Some (ps, ts)

abbrev pub no_parts : Parts
no_parts = record { matches = []; any = false }

unfoldable pub vmap_at : Reader Vmap
vmap_at ts = do
  h ← head_at ts
  a ← word_at (codes "vmap") h.1
  b ← symbol_at Open a
  ps ← opened_at pair_at b
  Some (record { line = tt; head = h.0; pairs = ps.0 }, ps.1)

-- `to` and perhaps `ip` before it
unfoldable pub to_at : Tokens → Option Tokens
to_at ts = if_some (word_at (codes "ip") ts) (word_at (codes "to")) (word_at (codes "to") ts)

unfoldable pub port_behind : Reader (Option ℕ)
port_behind ts = do
  n ← number_at ts
  if nat_le 1 n.0 && nat_le n.0 65535 then Some (Some n.0, n.1) else None

unfoldable pub port_at : Reader (Option ℕ)
port_at ts = if_some (symbol_at Colon ts) port_behind (Some (None, ts))

unfoldable pub dnat_behind : Reader End
dnat_behind ts = do
  b ← to_at ts
  x ← address_at b
  p ← port_at x.1
  Some (end.Dnat (record { line = tt; address_line = tt; address = x.0; port = p.0 }), p.1)

unfoldable pub snat_behind : Reader End
snat_behind ts = do
  b ← to_at ts
  x ← address_at b
  Some (end.Snat (record { line = tt; address_line = tt; address = x.0 }), x.1)

unfoldable pub nat_behind : NatWord → Reader End
nat_behind nat_word.Dnat ts = dnat_behind ts
nat_behind nat_word.Snat ts = snat_behind ts
nat_behind nat_word.Masquerade ts = Some (end.Masquerade tt, ts)

unfoldable pub wrapped : Option (End × Tokens) → Option (Option End × Tokens)
wrapped read = read >>= λ e. Some (Some e.0, e.1)

unfoldable pub verdict_end : VerdictWord → Tokens → Option (End × Tokens)
verdict_end w ts = verdict_behind w ts >>= λ v. Some (end.Verdict v.0, v.1)

unfoldable pub vmap_end : Tokens → Option (End × Tokens)
vmap_end ts = vmap_at ts >>= λ v. Some (end.Vmap v.0, v.1)

unfoldable pub end_at : Reader (Option End)
end_at ts =
    if_some (keyword_at verdict_words ts) (λ k. wrapped (verdict_end k.0 k.1))
    (if_some (keyword_at nat_words ts) (λ k. wrapped (nat_behind k.0 k.1))
    (if begins_head ts then wrapped (vmap_end ts) else Some (None, ts)))

unfoldable pub comment_at : Tokens → Option Tokens
comment_at ts = if_some (word_at (codes "comment") ts) quoted_at (Some ts)

abbrev pub is_said : Parts → Option End → Bool
is_said ps (Some e) = true
is_said ps None = ps.any

unfoldable pub rule_at : Reader Rule
rule_at ts = do
  ps ← parts_from (suc (length ts)) no_parts ts
  e ← end_at ps.1
  if is_said ps.0 e.0 then (do
    rest ← comment_at e.1
    Some (record { line = tt; matches = ps.0.matches; end = e.0 }, rest)) else None

-- ---- lists

unfoldable pub fill_at : Tokens → Tokens
fill_at (token.NewLine ∷ rest) = fill_at rest
fill_at (token.Symbol Semicolon ∷ rest) = fill_at rest
fill_at ts = ts

-- no further item comes
abbrev pub ends : Tokens → Bool
ends [] = true
ends (token.Symbol Close ∷ rest) = true
ends _ = false

abbrev pub closes : Tokens → Bool
closes [] = true
closes (token.Symbol Close ∷ rest) = true
closes (token.Symbol Semicolon ∷ rest) = true
closes (token.NewLine ∷ rest) = true
closes _ = false

-- with one item more, and whether that ended with a brace
abbrev pub Step : Type 0 → Type 0
Step B = B → Reader (B × Bool)

unfoldable pub list_from : {B : Type 0} → Step B → ℕ → B → Reader B
list_from steps zero body ts = None
list_from steps (suc n) body ts =
    if ends (fill_at ts) then Some (body, fill_at ts) else (do
      x ← steps body (fill_at ts)
      if x.0.1 || closes x.1 then list_from steps n x.0.0 x.1 else None)

unfoldable pub block_at : {B : Type 0} → Step B → B → Reader B
block_at steps start ts = do
  a ← symbol_at Open ts
  x ← list_from steps (suc (length a)) start a
  rest ← close_at x.1
  Some (x.0, rest)

-- ---- chains

unfoldable pub amount_at : Reader ℕ
amount_at ts = do
  n ← number_at ts
  if nat_le n.0 1000000000 then Some n else None

unfoldable pub less_behind : ℤ → Reader ℤ
less_behind z ts = amount_at ts >>= λ n. Some (z +ℤ neg_ℤ (pos n.0), n.1)

unfoldable pub more_behind : ℤ → Reader ℤ
more_behind z ts = amount_at ts >>= λ n. Some (z +ℤ pos n.0, n.1)

unfoldable pub named_priority : ℤ → Reader ℤ
named_priority z ts = if_some (symbol_at Minus ts) (less_behind z)
    (if_some (symbol_at Plus ts) (more_behind z) (Some (z, ts)))

unfoldable pub priority_at : Reader ℤ
priority_at ts =
    if_some (symbol_at Minus ts) (less_behind (pos 0))
    (if_some (keyword_at priority_words ts) (λ k. named_priority (priority_value k.0) k.1)
    (more_behind (pos 0) ts))

-- behind `type`
unfoldable pub base_behind : Reader Base
base_behind ts = do
  t ← keyword_at type_words ts
  a ← word_at (codes "hook") t.1
  h ← keyword_at hook_words a
  b ← word_at (codes "priority") h.1
  p ← priority_at b
  Some (record { line = tt; kind = t.0; hook = h.0; priority = p.0; policy = policy.Accept }, p.1)

abbrev pub with_policy : Option Base → Policy → Option Base
with_policy None p = None
with_policy (Some b) p =
    Some (record { line = tt; kind = b.kind; hook = b.hook; priority = b.priority; policy = p })

unfoldable pub rule_step : Step ChainBody
rule_step c ts =
    rule_at ts >>= λ r. Some
    ((record { stage = stage.Rules; base = c.base; rules = c.rules ++ r.0 ∷ [] }, false), r.1)

unfoldable pub policy_behind : ChainBody → Tokens → Option ((ChainBody × Bool) × Tokens)
policy_behind c ts = keyword_at policy_words ts >>= λ p. Some
    ((record { stage = stage.Rules; base = with_policy c.base p.0; rules = c.rules }, false), p.1)

unfoldable pub member_behind : ChainBody → MemberWord → Tokens
    → Option ((ChainBody × Bool) × Tokens)
member_behind c member_word.Comment ts = quoted_at ts >>= λ rest. Some ((c, false), rest)
member_behind c member_word.Type ts = base_behind ts >>= λ b. Some
    ((record { stage = stage.Policy; base = Some b.0; rules = c.rules }, false), b.1)

abbrev pub step_at : Stage → Step ChainBody
step_at stage.Start c ts =
    if_some (keyword_at member_words ts) (λ k. member_behind c k.0 k.1) (rule_step c ts)
step_at stage.Policy c ts = if_some (word_at (codes "policy") ts) (policy_behind c) (rule_step c ts)
step_at stage.Rules c ts = rule_step c ts

unfoldable pub chain_step : Step ChainBody
chain_step c ts = step_at c.stage c ts

abbrev pub no_members : ChainBody
no_members = record { stage = stage.Start; base = None; rules = [] }

-- behind `chain`
unfoldable pub chain_behind : Reader Chain
chain_behind ts = do
  n ← name_at ts
  x ← block_at chain_step no_members n.1
  Some (record { line = tt; name = n.0; base = x.0.base; rules = x.0.rules }, x.1)

-- ---- sets

unfoldable pub type_behind : SetBody → Tokens → Option ((SetBody × Bool) × Tokens)
type_behind s ts =
    name_at ts >>= λ n. Some (
      (
        record {
          types = s.types ++ record { line = tt; name_line = tt; name = n.0 } ∷ [];
          elements = s.elements;
        },
        false,
      ),
      n.1,
    )

unfoldable pub elements_behind : SetBody → Tokens → Option ((SetBody × Bool) × Tokens)
elements_behind s ts = do
  a ← symbol_at Equal ts
  b ← symbol_at Open a
  xs ← opened_at element_at b
  Some (
    (
      record {
        types = s.types;
        elements = s.elements ++ record { line = tt; elements = xs.0 } ∷ [];
      },
      false,
    ),
    xs.1,
  )

unfoldable pub line_behind : SetBody → LineWord → Tokens → Option ((SetBody × Bool) × Tokens)
line_behind s line_word.Type ts = type_behind s ts
line_behind s line_word.Flags ts =
    entries_from flag_at false (suc (length ts)) ts >>= λ fs. Some ((s, false), fs.1)
line_behind s line_word.AutoMerge ts = Some ((s, false), ts)
line_behind s line_word.Elements ts = elements_behind s ts
line_behind s line_word.Comment ts = quoted_at ts >>= λ rest. Some ((s, false), rest)

unfoldable pub set_step : Step SetBody
set_step s ts = keyword_at line_words ts >>= λ k. line_behind s k.0 k.1

abbrev pub no_lines : SetBody
no_lines = record { types = []; elements = [] }

-- behind `set`
unfoldable pub set_behind : Reader Set
set_behind ts = do
  n ← name_at ts
  x ← block_at set_step no_lines n.1
  Some (
    record {
      line = tt;
      name_line = tt;
      name = n.0;
      types = x.0.types;
      elements = x.0.elements;
    },
    x.1,
  )

-- ---- tables

unfoldable pub item_behind : TableBody → ItemWord → Tokens → Option ((TableBody × Bool) × Tokens)
item_behind t item_word.Comment ts = quoted_at ts >>= λ rest. Some ((t, false), rest)
item_behind t item_word.Set ts =
    set_behind ts >>= λ s. Some
    ((record { sets = t.sets ++ s.0 ∷ []; chains = t.chains }, true), s.1)
item_behind t item_word.Chain ts = chain_behind ts >>= λ c. Some
    ((record { sets = t.sets; chains = t.chains ++ c.0 ∷ [] }, true), c.1)

unfoldable pub table_step : Step TableBody
table_step t ts = keyword_at item_words ts >>= λ k. item_behind t k.0 k.1

abbrev pub no_items : TableBody
no_items = record { sets = []; chains = [] }

unfoldable pub family_at : Tokens → Family × Tokens
family_at ts = if_some (keyword_at family_words ts) (λ k. k) (Ip, ts)

unfoldable pub free_name_at : Reader (List ℕ)
free_name_at ts = do
  n ← name_at ts
  if is_reserved n.0 then None else Some n

-- behind `table`
unfoldable pub table_behind : Reader Table
table_behind ts = do
  n ← free_name_at (family_at ts).1
  x ← block_at table_step no_items n.1
  Some (
    record {
      line = tt;
      family = (family_at ts).0;
      name = n.0;
      sets = x.0.sets;
      chains = x.0.chains;
    },
    x.1,
  )

unfoldable pub flush_behind : Spelled → Tokens → Option ((Spelled × Bool) × Tokens)
flush_behind s ts =
    if length s.tables == 0 then (word_at (codes "ruleset") ts >>= λ rest. Some ((s, false), rest))
    else None

unfoldable pub statement_behind : Spelled → StatementWord → Tokens
    → Option ((Spelled × Bool) × Tokens)
statement_behind s statement_word.Flush ts = flush_behind s ts
statement_behind s statement_word.Table ts =
    table_behind ts >>= λ t. Some ((record { tables = s.tables ++ t.0 ∷ [] }, true), t.1)

unfoldable pub text_step : Step Spelled
text_step s ts = keyword_at statement_words ts >>= λ k. statement_behind s k.0 k.1

-- What a function returned that reads all tokens
abbrev pub Answers : {X : Type 0} → Result X ReadError → Option X → Type 0
Answers (Ok x) read = read ≡ Some x
Answers (Err e) read = Fails e read

unfoldable pub text_at : Tokens → Option Spelled
text_at ts =
    list_from text_step (suc (length ts)) (record { tables = [] }) ts
    >>= λ x. if length x.1 == 0 then Some x.0 else None
