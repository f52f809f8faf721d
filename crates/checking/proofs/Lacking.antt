-- Characters that no address and no prefix has.
use Rattle.std.proofs.Common.{arith, sym, subst, ◌≡◌, ◌≢◌, ℕ, zero, suc, ◌+◌, ◌<◌, List, [], ◌∷◌, ◌++◌, length, get_or, Option, Some, None, Result, Ok, Err, IfErr, Bor, codes}
use Rattle.std.specs.Bool.{⊤}
use Rattle.std.specs.Char.{digit_value}
use Rattle.std.specs.Fmt.{decimal}
use Rattle.std.specs.Net.Grammar.{IsDotted}
use Rattle.std.specs.Option.{MatchOption}
use Rattle.std.specs.Str.Parse.{AllDigits}
use Rattle.std.proofs.lemmas.Fmt.{decimal_is_IsNumeral}
use Rattle.std.proofs.lemmas.List.{length-append}
use Rattle.std.proofs.Math.Seq.{get_or-append_seam}
use Rattle.std.proofs.lemmas.Str.Pattern.{IsSplitOnceResult, split_after, split_parts}
use Rattle.packet.specs.declared.endpoint.Prefix.{Prefix}
use Rattle.refusals.specs.declared.refusal.Refusal.TheVariants.{Config}
use Rattle.refusals.specs.declared.stop.Stop.{Stop}
use Rattle.checking.specs.Spelling.{SpellsAddress, SpellsList, SpellsNumber, SpellsPrefix}

abbrev pub Lacks : ℕ → List ℕ → Type 0
Lacks c [] = ⊤
Lacks c (x ∷ xs) = (x ≢ c) × Lacks c xs

-- it is no digit and no dot
abbrev pub IsOdd : ℕ → Type 0
IsOdd c = (¬ (digit_value c < 10)) × (46 ≢ c)

lacks-append : (c : ℕ) (xs ys : List ℕ) → Lacks c xs → Lacks c ys → Lacks c (xs ++ ys)
lacks-append c [] ys h k = k
lacks-append c (x ∷ xs) ys h k = (h.0, lacks-append c xs ys h.1 k)

lacks_at : (c : ℕ) (xs : List ℕ) → Lacks c xs → (i : ℕ) → i < length xs → get_or xs i 0 ≢ c
lacks_at c [] h i p = absurd (omega arith)
lacks_at c (x ∷ xs) h zero p = h.0
lacks_at c (x ∷ xs) h (suc i) p = lacks_at c xs h.1 i (omega arith)

digits_lack : (c : ℕ) → IsOdd c → (ds : List ℕ) → AllDigits 10 ds → Lacks c ds
digits_lack c odd [] h = tt
digits_lack c odd (d ∷ ds) h = (λ e. odd.0 (subst (λ x. digit_value x < 10) e h.0), digits_lack c odd ds h.1)

number_lacks : (c n : ℕ) → IsOdd c → n < 256 → Lacks c (decimal n)
number_lacks c n odd small = digits_lack c odd (decimal n) (decimal_is_IsNumeral n (omega arith)).0.1

dot_lacks : (c : ℕ) (xs : List ℕ) → IsOdd c → Lacks c xs → Lacks c (xs ++ codes ".")
dot_lacks c xs odd h = lacks-append c xs (codes ".") h (odd.1, tt)

dotted_lacks : (c : ℕ) (text octets : List ℕ) → IsOdd c → IsDotted text octets → Lacks c text
dotted_lacks c text octets odd d =
    let one = dot_lacks c _ odd (number_lacks c d.a odd d.fit.0) in
    let two = dot_lacks c _ odd (lacks-append c _ _ one (number_lacks c d.b odd d.fit.1)) in
    let three = dot_lacks c _ odd (lacks-append c _ _ two (number_lacks c d.c odd d.fit.2)) in
    subst (Lacks c) (sym d.spelled) (lacks-append c _ _ three (number_lacks c d.d odd d.fit.3))

slash_is_odd : IsOdd 47
slash_is_odd = (λ h. absurd (omega arith), λ e. absurd (omega arith))

comma_is_odd : IsOdd 44
comma_is_odd = (λ h. absurd (omega arith), λ e. absurd (omega arith))

front-shorter : (c : ℕ) (text front back : List ℕ) → text ≡ front ++ (c ∷ back) → length front < length text
front-shorter c text front back is =
    let all : length text ≡ length front + length (c ∷ back) = rw is (length-append front (c ∷ back)) in omega arith

-- the parts of a prefix stand round its first slash
pub prefix_is_split : (text : List ℕ) (p : Prefix) (r : Option (Bor (List ℕ) × Bor (List ℕ))) → SpellsPrefix text p → IsSplitOnceResult 47 text r
    → MatchOption r ⊥ (λ x. SpellsAddress x.0.now p.addr × SpellsNumber x.1.now p.len)
prefix_is_split text p None (front, back, is, (a, written, value), number) split =
    split_after 47 text front back None split (omega arith) is
    (lacks_at 47 front (dotted_lacks 47 front _ slash_is_odd written))
prefix_is_split text p (Some x) (front, back, is, (a, written, value), number) split =
    let parts = split_after 47 text front back (Some x) split (omega arith) is
    (lacks_at 47 front (dotted_lacks 47 front _ slash_is_odd written)) in (
      subst (λ t. SpellsAddress t p.addr) (sym parts.0) (a, written, value),
      subst (λ t. SpellsNumber t p.len) (sym parts.1) number,
    )

pub prefix_lacks_comma : (text : List ℕ) (p : Prefix) → SpellsPrefix text p → Lacks 44 text
prefix_lacks_comma text p (front, back, is, (a, written, value), number) =
    let after : Lacks 44 back = subst (Lacks 44) (sym number.1) (number_lacks 44 p.len comma_is_odd number.0) in
    subst (Lacks 44) (sym is)
    (lacks-append 44 front (47 ∷ back) (dotted_lacks 44 front _ comma_is_odd written) (λ e. absurd (omega arith), after))

pub address_lacks_comma : (text : List ℕ) (addr : ℕ) → SpellsAddress text addr → Lacks 44 text
address_lacks_comma text addr (a, written, value) = dotted_lacks 44 text _ comma_is_odd written

-- where a list of what has no comma is spelled, one stands before the first comma, and others behind it
module _ {A : Type 0} (Spells : List ℕ → A → Type 0) (lacks : (text : List ℕ) (a : A) → Spells text a → Lacks 44 text) where
  pub list_is_split : (text : List ℕ) (ps : List A) (r : Option (Bor (List ℕ) × Bor (List ℕ))) → SpellsList Spells text ps → IsSplitOnceResult 44 text r
      → MatchOption r ((p : A) × Spells text p) (λ x. ((p : A) × Spells x.0.now p) × ((qs : List A) × SpellsList Spells x.1.now qs))
  list_is_split text [] r spelled split = elim spelled [ ]
  list_is_split text (p ∷ []) None spelled split = (p, spelled)
  list_is_split text (p ∷ []) (Some x) spelled split =
      let parts = split_parts 44 text (Some x) split (omega arith) in
      absurd (lacks_at 44 text (lacks text p spelled) (length x.0.now) (front-shorter 44 text x.0.now x.1.now parts.0)
      (rw parts.0 (get_or-append_seam x.0.now 44 x.1.now 0)))
  list_is_split text (p ∷ q ∷ ps) None (front, rest, is, one, others) split =
      absurd (split_after 44 text front rest None split (omega arith) is (lacks_at 44 front (lacks front p one)))
  list_is_split text (p ∷ q ∷ ps) (Some x) (front, rest, is, one, others) split =
      let parts = split_after 44 text front rest (Some x) split (omega arith) is (lacks_at 44 front (lacks front p one)) in (
        (p, subst (λ t. Spells t p) (sym parts.0) one),
        (q ∷ ps, subst (λ t. SpellsList Spells t (q ∷ ps)) (sym parts.1) others),
      )

-- what holds anyway is the case where the options are no configuration
pub if_config : {T X : Type 0} (r : Result T Stop) → X → IfErr r (λ stop. stop.refusal ≡ Config → X)
if_config (Ok v) x = tt
if_config (Err stop) x = λ _. x
