-- What the versions of a file's form differ in: the mark, and what is outside.
use Rattle.std.proofs.Common.{◌≡◌, ◌≢◌, ◌∙◌, ℕ, ◌^◌, ◌<◌, eqb, cond, List, [], ◌∷◌, ◌++◌, length, get_or, Some, None, refl, sym, ap, subst, arith, inl, inr}
use Rattle.std.specs.List.{AllByRecursion}
use Rattle.std.proofs.lemmas.Bool.{cases_Bool, eqb-true}
use Rattle.byteorder.specs.Endian.{big_bytes, big_number}
use Rattle.packet.specs.declared.bounds.Filtering.{Filtering}
use Rattle.packet.specs.declared.bounds.Filtering.TheVariants as filtering
use Rattle.packet.specs.Config.{Config, Pool, filtering_code}
use Rattle.durable.specs.declared.version.Version.{Version}
use Rattle.durable.specs.declared.version.Version.TheVariants.{First, Second}
use Rattle.durable.specs.Versions.{IsOf, mark_of}
use Rattle.durable.specs.Coding.{list_bytes, outside_bytes, IsPrefix, IsCodedConfig}
use Rattle.durable.specs.Reading.{byte_at, number_at, filtering_of, filtering_at, addresses_at, alone_from, outside_at, version_of, version_at}
use Rattle.durable.proofs.Coded.{Coded, some_is, guard_some, coded-chosen}
use Rattle.durable.proofs.Widths.{coded-byte, coded-number, coded-list, width1, width4}
use Rattle.durable.proofs.Values.{Any, either, coded-pair}

-- ---- marks

version_there : (v : Version) → Any v → (version_of (big_number 4 (mark_of v)) ≡ Some v) × (big_number 4 (mark_of v) < 256 ^ 4)
version_there First is = (refl, omega arith)
version_there Second is = (refl, omega arith)

version_back : (n : ℕ) (v : Version) → n < 256 ^ 4 → version_of n ≡ Some v → (n ≡ big_number 4 (mark_of v)) × Any v
version_back n v is e = elim (either (eqb n 0x4e475731) (Some First) (cond (eqb n 0x4e475732) (Some Second) None) v e) [
  | inl h ↦ (eqb-true n 0x4e475731 h.0 ∙ ap (λ (u : Version). big_number 4 (mark_of u)) (some_is First v h.1), tt)
  | inr h ↦ let g = guard_some (eqb n 0x4e475732) Second v h.1 in (eqb-true n 0x4e475732 g.0 ∙ ap (λ (u : Version). big_number 4 (mark_of u)) g.1, tt)
]

pub version_found : (n : ℕ) (v : Version) → big_number 4 (mark_of v) ≡ n → version_of n ≡ Some v
version_found n v is = subst (λ (k : ℕ). version_of k ≡ Some v) is (version_there v tt).0

pub version_none : (n : ℕ) → ((v : Version) → big_number 4 (mark_of v) ≢ n) → version_of n ≡ None
version_none n none = elim (cases_Bool (eqb n 0x4e475731)) [
  | inl h ↦ absurd (none First (sym (eqb-true n 0x4e475731 h)))
  | inr h ↦ elim (cases_Bool (eqb n 0x4e475732)) [
    | inl g ↦ absurd (none Second (sym (eqb-true n 0x4e475732 g)))
    | inr g ↦ rw (h, g) refl
  ]
]

mark_code : (v : Version) → big_bytes 4 (big_number 4 (mark_of v)) ≡ mark_of v
mark_code First = refl
mark_code Second = refl

coded-number-mark : Coded Any (λ v. big_bytes 4 (big_number 4 (mark_of v))) version_at
unfolding version_at
coded-number-mark = coded-chosen (λ n. n < 256 ^ 4) (big_bytes 4) (number_at 4) Any version_of (λ v. big_number 4 (mark_of v)) version_there version_back (coded-number 4 width4)

pub coded-version : Coded Any mark_of version_at
coded-version = record {
  again = λ v rest is. ap (λ (l : List ℕ). version_at (l ++ rest)) (sym (mark_code v)) ∙ coded-number-mark.again v rest is;
  takes = λ bytes v rest fits e. let t = coded-number-mark.takes bytes v rest fits e in (tt, t.1 ∙ ap (λ (l : List ℕ). l ++ rest) (mark_code v));
}

-- ---- what is outside

filtering_there : (f : Filtering) → Any f → (filtering_of (filtering_code f) ≡ Some f) × (filtering_code f < 256)
filtering_there filtering.Endpoint is = (refl, omega arith)
filtering_there filtering.Address is = (refl, omega arith)

filtering_back : (n : ℕ) (f : Filtering) → n < 256 → filtering_of n ≡ Some f → (n ≡ filtering_code f) × Any f
filtering_back n f is e = elim (either (eqb n 0) (Some filtering.Endpoint) (cond (eqb n 1) (Some filtering.Address) None) f e) [
  | inl h ↦ (eqb-true n 0 h.0 ∙ ap filtering_code (some_is filtering.Endpoint f h.1), tt)
  | inr h ↦ let g = guard_some (eqb n 1) filtering.Address f h.1 in (eqb-true n 1 g.0 ∙ ap filtering_code g.1, tt)
]

pub coded-filtering : Coded Any (λ f. filtering_code f ∷ []) filtering_at
unfolding filtering_at
coded-filtering = coded-chosen (λ b. b < 256) (λ b. b ∷ []) byte_at Any filtering_of filtering_code filtering_there filtering_back coded-byte

pub filtering_found : (n : ℕ) (f : Filtering) → filtering_code f ≡ n → filtering_of n ≡ Some f
filtering_found n f is = subst (λ (k : ℕ). filtering_of k ≡ Some f) is (filtering_there f tt).0

pub filtering_none : (n : ℕ) → ((f : Filtering) → filtering_code f ≢ n) → filtering_of n ≡ None
filtering_none n none = elim (cases_Bool (eqb n 0)) [
  | inl h ↦ absurd (none filtering.Endpoint (sym (eqb-true n 0 h)))
  | inr h ↦ elim (cases_Bool (eqb n 1)) [
    | inl g ↦ absurd (none filtering.Address (sym (eqb-true n 1 g)))
    | inr g ↦ rw (h, g) refl
  ]
]

coded-addresses : Coded (λ xs. (length xs < 256 ^ 1) × AllByRecursion (λ addr. addr < 256 ^ 4) xs) (list_bytes 1 (big_bytes 4)) addresses_at
unfolding addresses_at
coded-addresses = coded-list 1 (λ addr. addr < 256 ^ 4) (big_bytes 4) (number_at 4) width1 (coded-number 4 width4)

-- which addresses and filtering a version has a code for
abbrev pub OutsideFits : Version → Pool × Filtering → Type 0
OutsideFits First p = ((length p.0 ≡ 1) × (p.1 ≡ filtering.Endpoint)) × AllByRecursion (λ addr. addr < 256 ^ 4) p.0
OutsideFits Second p = ((length p.0 < 256 ^ 1) × AllByRecursion (λ addr. addr < 256 ^ 4) p.0) × Any p.1

alone : (p : Pool × Filtering) → OutsideFits First p → (alone_from (get_or p.0 0 0) ≡ Some p) × (get_or p.0 0 0 < 256 ^ 4)
alone ([], f) is = absurd (omega (arith, is.0.0))
alone (addr ∷ [], f) is = (ap (λ (g : Filtering). let q : Pool × Filtering = (addr ∷ [], g) in Some q) (sym is.0.1), is.1.0)
alone (addr ∷ more ∷ addrs, f) is = absurd (omega (arith, is.0.0))

alone_back : (addr : ℕ) (p : Pool × Filtering) → addr < 256 ^ 4 → alone_from addr ≡ Some p → (addr ≡ get_or p.0 0 0) × OutsideFits First p
alone_back addr p is h =
    let made : Pool × Filtering = (addr ∷ [], filtering.Endpoint) in
    subst (λ (q : Pool × Filtering). (addr ≡ get_or q.0 0 0) × OutsideFits First q) (some_is made p h) (refl, ((refl, refl), (is, tt)))

coded-first : Coded (OutsideFits First) (λ p. outside_bytes First p.0 p.1) (outside_at First)
unfolding outside_at
coded-first = coded-chosen (λ addr. addr < 256 ^ 4) (big_bytes 4) (number_at 4) (OutsideFits First) alone_from (λ p. get_or p.0 0 0) alone alone_back (coded-number 4 width4)

coded-second : Coded (OutsideFits Second) (λ p. outside_bytes Second p.0 p.1) (outside_at Second)
unfolding outside_at
coded-second = coded-pair coded-addresses coded-filtering

pub coded-outside : (version : Version) → Coded (OutsideFits version) (λ p. outside_bytes version p.0 p.1) (outside_at version)
coded-outside First = coded-first
coded-outside Second = coded-second

-- which configurations a version has a code for
abbrev pub IsStored : Version → Config → Type 0
IsStored version c = IsCodedConfig c × IsOf version c

pub fits_of : (version : Version) (c : Config) → IsStored version c → OutsideFits version (c.external, c.filtering)
fits_of First c is = (is.1, is.0.external)
fits_of Second c is = ((is.0.addresses, is.0.external), tt)

pub stored_of : (version : Version) (c : Config) → length c.lan < 256 ^ 1 → length c.wan < 256 ^ 1 → length c.inside < 256 ^ 1 → AllByRecursion IsPrefix c.inside
    → OutsideFits version (c.external, c.filtering) → IsStored version c
stored_of First c lan wan count inside is =
    let short : length c.external < 2 ^ 8 = omega (arith, is.0.0) in
    (record { lan = lan; wan = wan; count = count; inside = inside; addresses = short; external = is.1 }, is.0)
stored_of Second c lan wan count inside is = (record { lan = lan; wan = wan; count = count; inside = inside; addresses = is.0.0; external = is.0.1 }, tt)
