-- The words that the reader looks up, in the order in which it does. No public clause cites this module.
use Rattle.std.specs.Prelude.{ℕ, codes, List, [], ◌∷◌, Option, Some, None, if◌then◌else◌}
use Rattle.std.specs.Str.{bytes_eq}
use Rattle.rulesyntax.specs.declared.keyword.Flag.{Flag}
use Rattle.rulesyntax.specs.declared.keyword.Flag.TheVariants as flag
use Rattle.rulesyntax.specs.declared.keyword.VerdictWord.{VerdictWord}
use Rattle.rulesyntax.specs.declared.keyword.VerdictWord.TheVariants as verdict_word
use Rattle.rulesyntax.specs.declared.keyword.NatWord.{NatWord}
use Rattle.rulesyntax.specs.declared.keyword.NatWord.TheVariants as nat_word
use Rattle.rulesyntax.specs.declared.keyword.HeadWord.{HeadWord}
use Rattle.rulesyntax.specs.declared.keyword.HeadWord.TheVariants as head_word
use Rattle.rulesyntax.specs.declared.keyword.MetaWord.{MetaWord}
use Rattle.rulesyntax.specs.declared.keyword.MetaWord.TheVariants as meta_word
use Rattle.rulesyntax.specs.declared.keyword.IpWord.{IpWord}
use Rattle.rulesyntax.specs.declared.keyword.IpWord.TheVariants as ip_word
use Rattle.rulesyntax.specs.declared.keyword.PortWord.{PortWord}
use Rattle.rulesyntax.specs.declared.keyword.PortWord.TheVariants as port_word
use Rattle.ruletree.specs.declared.tree.Family.{Family}
use Rattle.ruletree.specs.declared.tree.Family.TheVariants as family
use Rattle.ruletree.specs.declared.tree.ChainType.{ChainType}
use Rattle.ruletree.specs.declared.tree.ChainType.TheVariants as chain_type
use Rattle.ruletree.specs.declared.tree.Hook.{Hook}
use Rattle.ruletree.specs.declared.tree.Hook.TheVariants as hook
use Rattle.ruletree.specs.declared.tree.Policy.{Policy}
use Rattle.ruletree.specs.declared.tree.Policy.TheVariants as policy
use Rattle.rulesyntax.specs.declared.keyword.PriorityName.{PriorityName}
use Rattle.rulesyntax.specs.declared.keyword.PriorityName.TheVariants as priority_names
use Rattle.rulesyntax.specs.declared.keyword.StatementWord.{StatementWord}
use Rattle.rulesyntax.specs.declared.keyword.StatementWord.TheVariants as statement_word
use Rattle.rulesyntax.specs.declared.keyword.ItemWord.{ItemWord}
use Rattle.rulesyntax.specs.declared.keyword.ItemWord.TheVariants as item_word
use Rattle.rulesyntax.specs.declared.keyword.LineWord.{LineWord}
use Rattle.rulesyntax.specs.declared.keyword.LineWord.TheVariants as line_word
use Rattle.rulesyntax.specs.declared.keyword.MemberWord.{MemberWord}
use Rattle.rulesyntax.specs.declared.keyword.MemberWord.TheVariants as member_word
use Rattle.rulesyntax.specs.Names.{flag_name, family_name, type_name, hook_name, policy_name, priority_name}

-- what a word means
abbrev pub lookup : {K : Type 0} → List (List ℕ × K) → List ℕ → Option K
lookup [] w = None
lookup (e ∷ more) w = if bytes_eq w e.0 then Some e.1 else lookup more w

-- the words, each with what it means
abbrev pub words_of : {K : Type 0} → (K → List ℕ) → List K → List (List ℕ × K)
words_of name [] = []
words_of name (k ∷ ks) = (name k, k) ∷ words_of name ks

abbrev pub flag_words : List (List ℕ × Flag)
flag_words = words_of flag_name (flag.Interval ∷ flag.Constant ∷ [])

abbrev pub verdict_name : VerdictWord → List ℕ
verdict_name verdict_word.Accept = codes "accept"
verdict_name verdict_word.Drop = codes "drop"
verdict_name verdict_word.Return = codes "return"
verdict_name verdict_word.Continue = codes "continue"
verdict_name verdict_word.Jump = codes "jump"
verdict_name verdict_word.Goto = codes "goto"

abbrev pub verdict_words : List (List ℕ × VerdictWord)
verdict_words = words_of verdict_name
    (verdict_word.Accept ∷ verdict_word.Drop ∷ verdict_word.Return ∷ verdict_word.Continue ∷
    verdict_word.Jump ∷ verdict_word.Goto ∷ [])

abbrev pub nat_name : NatWord → List ℕ
nat_name nat_word.Dnat = codes "dnat"
nat_name nat_word.Snat = codes "snat"
nat_name nat_word.Masquerade = codes "masquerade"

abbrev pub nat_words : List (List ℕ × NatWord)
nat_words = words_of nat_name (nat_word.Dnat ∷ nat_word.Snat ∷ nat_word.Masquerade ∷ [])

abbrev pub head_name : HeadWord → List ℕ
head_name head_word.Meta = codes "meta"
head_name head_word.Ip = codes "ip"
head_name head_word.Tcp = codes "tcp"
head_name head_word.Udp = codes "udp"
head_name head_word.Ct = codes "ct"
head_name head_word.Iifname = codes "iifname"
head_name head_word.Iif = codes "iif"
head_name head_word.Oifname = codes "oifname"
head_name head_word.Oif = codes "oif"

abbrev pub head_words : List (List ℕ × HeadWord)
head_words = words_of head_name
    (head_word.Meta ∷ head_word.Ip ∷ head_word.Tcp ∷ head_word.Udp ∷ head_word.Ct ∷
    head_word.Iifname ∷ head_word.Iif ∷ head_word.Oifname ∷ head_word.Oif ∷ [])

abbrev pub meta_name : MetaWord → List ℕ
meta_name meta_word.Iifname = codes "iifname"
meta_name meta_word.Iif = codes "iif"
meta_name meta_word.Oifname = codes "oifname"
meta_name meta_word.Oif = codes "oif"
meta_name meta_word.L4proto = codes "l4proto"

abbrev pub meta_words : List (List ℕ × MetaWord)
meta_words = words_of meta_name
    (meta_word.Iifname ∷ meta_word.Iif ∷ meta_word.Oifname ∷ meta_word.Oif ∷ meta_word.L4proto ∷ [])

abbrev pub ip_name : IpWord → List ℕ
ip_name ip_word.Saddr = codes "saddr"
ip_name ip_word.Daddr = codes "daddr"
ip_name ip_word.Protocol = codes "protocol"

abbrev pub ip_words : List (List ℕ × IpWord)
ip_words = words_of ip_name (ip_word.Saddr ∷ ip_word.Daddr ∷ ip_word.Protocol ∷ [])

abbrev pub port_name : PortWord → List ℕ
port_name port_word.Sport = codes "sport"
port_name port_word.Dport = codes "dport"

abbrev pub port_words : List (List ℕ × PortWord)
port_words = words_of port_name (port_word.Sport ∷ port_word.Dport ∷ [])

abbrev pub family_words : List (List ℕ × Family)
family_words = words_of family_name (family.Ip ∷ family.Inet ∷ [])

abbrev pub type_words : List (List ℕ × ChainType)
type_words = words_of type_name (chain_type.Filter ∷ chain_type.Nat ∷ [])

abbrev pub hook_words : List (List ℕ × Hook)
hook_words = words_of hook_name
    (hook.Prerouting ∷ hook.Input ∷ hook.Forward ∷ hook.Output ∷ hook.Postrouting ∷ [])

abbrev pub policy_words : List (List ℕ × Policy)
policy_words = words_of policy_name (policy.Accept ∷ policy.Drop ∷ [])

abbrev pub priority_words : List (List ℕ × PriorityName)
priority_words = words_of priority_name
    (priority_names.Raw ∷ priority_names.Mangle ∷ priority_names.Dstnat ∷ priority_names.Filter ∷
    priority_names.Security ∷
    priority_names.Srcnat ∷ [])

abbrev pub statement_name : StatementWord → List ℕ
statement_name statement_word.Flush = codes "flush"
statement_name statement_word.Table = codes "table"

abbrev pub statement_words : List (List ℕ × StatementWord)
statement_words = words_of statement_name (statement_word.Flush ∷ statement_word.Table ∷ [])

abbrev pub item_name : ItemWord → List ℕ
item_name item_word.Comment = codes "comment"
item_name item_word.Set = codes "set"
item_name item_word.Chain = codes "chain"

abbrev pub item_words : List (List ℕ × ItemWord)
item_words = words_of item_name (item_word.Comment ∷ item_word.Set ∷ item_word.Chain ∷ [])

abbrev pub line_name : LineWord → List ℕ
line_name line_word.Type = codes "type"
line_name line_word.Flags = codes "flags"
line_name line_word.AutoMerge = codes "auto-merge"
line_name line_word.Elements = codes "elements"
line_name line_word.Comment = codes "comment"

abbrev pub line_words : List (List ℕ × LineWord)
line_words = words_of line_name
    (line_word.Type ∷ line_word.Flags ∷ line_word.AutoMerge ∷ line_word.Elements ∷
    line_word.Comment ∷ [])

abbrev pub member_name : MemberWord → List ℕ
member_name member_word.Comment = codes "comment"
member_name member_word.Type = codes "type"

abbrev pub member_words : List (List ℕ × MemberWord)
member_words = words_of member_name (member_word.Comment ∷ member_word.Type ∷ [])
