-- Numbers, addresses, prefixes and filterings as they are written.
use Rattle.std.specs.Prelude.{◌≡◌, ℕ, ◌<◌, ◌⊎◌, List, [], ◌∷◌, ◌++◌, codes, decimal, IsFalse}
use Rattle.std.specs.Net.Addr.{ipv4_bits}
use Rattle.std.specs.Net.Grammar.{IsIpv4Text}
use Rattle.std.specs.declared.net.ipv4_addr.Ipv4Addr.{Ipv4Addr}
use Rattle.packet.specs.Config.{Pool, config_of, is_config}
use Rattle.packet.specs.declared.bounds.Filtering.{Filtering}
use Rattle.packet.specs.declared.bounds.Filtering.TheVariants as filtering
use Rattle.packet.specs.declared.endpoint.Prefix.{Prefix}

-- a number below 256, as it is printed
abbrev pub SpellsNumber : List ℕ → ℕ → Type 0
SpellsNumber text n = (n < 256) × (text ≡ decimal n)

-- four numbers below 256 without leading zeros, with dots between them, the most significant first
abbrev pub SpellsAddress : List ℕ → ℕ → Type 0
SpellsAddress text addr = (a : Ipv4Addr) × IsIpv4Text text a × (addr ≡ ipv4_bits a)

-- an address, `/` and a number
abbrev pub SpellsPrefix : List ℕ → Prefix → Type 0
SpellsPrefix text prefix =
    (front back : List ℕ) × (text ≡ front ++ (codes "/" ++ back))
    × SpellsAddress front prefix.addr × SpellsNumber back prefix.len

-- one or more that are each spelled so, with commas between them
abbrev pub SpellsList : {A : Type 0} → (List ℕ → A → Type 0) → List ℕ → List A → Type 0
SpellsList Spells text [] = ⊥
SpellsList Spells text (x ∷ []) = Spells text x
SpellsList Spells text (x ∷ y ∷ ys) =
    (front rest : List ℕ) × (text ≡ front ++ (codes "," ++ rest))
    × Spells front x × SpellsList Spells rest (y ∷ ys)

abbrev pub SpellsPrefixes : List ℕ → List Prefix → Type 0
SpellsPrefixes text prefixes = SpellsList SpellsPrefix text prefixes

abbrev pub SpellsAddresses : List ℕ → Pool → Type 0
SpellsAddresses text pool = SpellsList SpellsAddress text pool

abbrev pub filtering_word : Filtering → List ℕ
filtering_word filtering.Endpoint = codes "endpoint"
filtering_word filtering.Address = codes "address"

abbrev pub SpellsFiltering : List ℕ → Filtering → Type 0
SpellsFiltering text f = text ≡ filtering_word f

-- the prefixes, the addresses or the filtering are spelled so that nothing is, or what they spell is no configuration
abbrev pub IsNoConfig : List ℕ → List ℕ → List ℕ → List ℕ → List ℕ → Type 0
IsNoConfig lan wan inside external filtering =
    ((prefixes : List Prefix) → ¬ SpellsPrefixes inside prefixes)
    ⊎ ((pool : Pool) → ¬ SpellsAddresses external pool)
    ⊎ ((f : Filtering) → ¬ SpellsFiltering filtering f)
    ⊎ ((prefixes : List Prefix) × (pool : Pool) × (f : Filtering)
    × SpellsPrefixes inside prefixes × SpellsAddresses external pool × SpellsFiltering filtering f
    × IsFalse (is_config (config_of lan wan prefixes pool f)))
