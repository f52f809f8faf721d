-- How names are written, and what they mean.
use Rattle.std.specs.Prelude.{ℕ, ℤ, pos, neg_ℤ, Bool, ◌||◌, codes, List}
use Rattle.std.specs.Str.{bytes_eq}
use Rattle.rulesyntax.specs.declared.keyword.Flag.{Flag}
use Rattle.rulesyntax.specs.declared.keyword.Flag.TheVariants as flag
use Rattle.ruletree.specs.declared.tree.Family.{Family}
use Rattle.ruletree.specs.declared.tree.Family.TheVariants as family
use Rattle.ruletree.specs.declared.tree.ChainType.{ChainType}
use Rattle.ruletree.specs.declared.tree.ChainType.TheVariants as chain_type
use Rattle.ruletree.specs.declared.tree.Hook.{Hook}
use Rattle.ruletree.specs.declared.tree.Hook.TheVariants as hook
use Rattle.ruletree.specs.declared.tree.Policy.{Policy}
use Rattle.ruletree.specs.declared.tree.Policy.TheVariants as policy
use Rattle.rulesyntax.specs.declared.keyword.PriorityName.{PriorityName}
use Rattle.rulesyntax.specs.declared.keyword.PriorityName.TheVariants as priority_names
use Rattle.ruletree.specs.declared.tree.Transport.{Transport}
use Rattle.ruletree.specs.declared.tree.Transport.TheVariants as transport

abbrev pub flag_name : Flag → List ℕ
flag_name flag.Interval = codes "interval"
flag_name flag.Constant = codes "constant"

abbrev pub family_name : Family → List ℕ
family_name family.Ip = codes "ip"
family_name family.Inet = codes "inet"

abbrev pub type_name : ChainType → List ℕ
type_name chain_type.Filter = codes "filter"
type_name chain_type.Nat = codes "nat"

abbrev pub hook_name : Hook → List ℕ
hook_name hook.Prerouting = codes "prerouting"
hook_name hook.Input = codes "input"
hook_name hook.Forward = codes "forward"
hook_name hook.Output = codes "output"
hook_name hook.Postrouting = codes "postrouting"

abbrev pub policy_name : Policy → List ℕ
policy_name policy.Accept = codes "accept"
policy_name policy.Drop = codes "drop"

abbrev pub priority_name : PriorityName → List ℕ
priority_name priority_names.Raw = codes "raw"
priority_name priority_names.Mangle = codes "mangle"
priority_name priority_names.Dstnat = codes "dstnat"
priority_name priority_names.Filter = codes "filter"
priority_name priority_names.Security = codes "security"
priority_name priority_names.Srcnat = codes "srcnat"

abbrev pub transport_name : Transport → List ℕ
transport_name transport.Tcp = codes "tcp"
transport_name transport.Udp = codes "udp"

-- what a name of a priority means
abbrev pub priority_value : PriorityName → ℤ
priority_value priority_names.Raw = neg_ℤ (pos 300)
priority_value priority_names.Mangle = neg_ℤ (pos 150)
priority_value priority_names.Dstnat = neg_ℤ (pos 100)
priority_value priority_names.Filter = pos 0
priority_value priority_names.Security = pos 50
priority_value priority_names.Srcnat = pos 100

-- no table has such a name
abbrev pub is_reserved : List ℕ → Bool
is_reserved n =
    bytes_eq n (codes "ip") || bytes_eq n (codes "inet") || bytes_eq n (codes "ip6")
    || bytes_eq n (codes "arp") || bytes_eq n (codes "bridge") || bytes_eq n (codes "netdev")
