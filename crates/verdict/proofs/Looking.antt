-- A walk looks at no more matches than the rules have that it reads.
use Rattle.std.proofs.Common.{◌≡◌, ℕ, zero, suc, ◌+◌, ◌<◌, ◌≤◌, Bool, List, [], ◌∷◌, Option, Some, None, MatchOption, length, slice_get, take, take_all, drop, get_or, refl, sym, ap, ◌∙◌, subst, inl, inr, arith, add-one}
use Rattle.std.proofs.lemmas.Bool.{cases_Bool}
use Rattle.std.proofs.lemmas.Option.{slice_get_within, get_or_from_slice_get}
use Rattle.std.proofs.lemmas.List.Sums.{sum_by-cons, sum_by_more, sum_by-take-le}
use Rattle.std.proofs.Math.Seq.{drop-cons}
use Rattle.ruletree.specs.declared.tree.Match.{Match}
use Rattle.ruletree.specs.declared.tree.Rule.{Rule}
use Rattle.ruletree.specs.declared.tree.Chain.{Chain}
use Rattle.ruletree.specs.declared.tree.Table.{Table}
use Rattle.rulesets.specs.Calls.{IsLooped}
use Rattle.verdict.specs.declared.chain.Outcome.{Outcome}
use Rattle.verdict.specs.declared.chain.Outcome.TheVariants.{Accepts, Drops, To, From, Masquerades, Ends}
use Rattle.verdict.specs.declared.stack.Place.{Place}
use Rattle.verdict.specs.declared.walk.Move.{Move}
use Rattle.verdict.specs.declared.walk.Move.TheVariants.{Next, Gives, Jumps, Goes}
use Rattle.verdict.specs.Places.{rules_at, Fit, told_of, GoesTo, EndsAll, Acts}
use Rattle.verdict.specs.Costs.{matches_of, matches_of_table, matches_of_tables, looked_at, raised_by, unlooked, looked_before, Reading, Looked}
use Rattle.verdict.proofs.Spending.{weighed, unread_told, weighed_told}

-- no more are looked at than there are
pub looked_few : (p : Match → Bool) (matches : List Match) → looked_at p matches ≤ length matches
looked_few p [] = omega arith
looked_few p (own ∷ matches) = elim (cases_Bool (p own)) [
  | inl holds ↦ let few = looked_few p matches in let e : looked_at p (own ∷ matches) ≡ looked_at p matches + 1 = rw holds refl in omega (arith, few, e)
  | inr fails ↦ let e : looked_at p (own ∷ matches) ≡ 1 = rw fails refl in omega (arith, e)
]

pub raised_few : (count more : ℕ) → raised_by count more ≤ count + more
unfolding raised_by
raised_few count more = omega arith

-- the matches of the rules before, and those of the rule there
pub matches_more : (rules : List Rule) (at : ℕ) (rule : Rule) → slice_get rules at ≡ Some rule → matches_of (take (at + 1) rules) ≡ matches_of (take at rules) + length rule.matches
matches_more rules at rule is =
    sum_by_more (λ r. length r.matches) rules at rule (slice_get_within rules at rule is)
    ∙ ap (λ (r : Rule). matches_of (take at rules) + length r.matches) (get_or_from_slice_get rules at rule rule is)

-- the matches of a front are among those of a longer one
pub matches_rise : (rules : List Rule) (from to : ℕ) → from ≤ to → matches_of (take from rules) ≤ matches_of (take to rules)
matches_rise [] zero to le = omega arith
matches_rise [] (suc from) zero le = absurd (omega (arith, le))
matches_rise [] (suc from) (suc to) le = omega arith
matches_rise (r ∷ rs) zero to le = omega arith
matches_rise (r ∷ rs) (suc from) zero le = absurd (omega (arith, le))
matches_rise (r ∷ rs) (suc from) (suc to) le =
    let less = matches_rise rs from to (omega (arith, le)) in
    let one = sum_by-cons (λ (r : Rule). length r.matches) r (take from rs) in
    let two = sum_by-cons (λ (r : Rule). length r.matches) r (take to rs) in
    omega (arith, less, one, two)

pub matches_all : (rules : List Rule) (at : ℕ) → matches_of (take at rules) ≤ matches_of rules
matches_all rules at = sum_by-take-le (λ (r : Rule). length r.matches) rules at

-- a rule is looked at behind those that were read
module _ (rules : List Rule) (from at : ℕ) (rule : Rule) (is_at : slice_get rules at ≡ Some rule) (rises : from ≤ at) (looks looks2 : ℕ) (looked : looks2 ≤ looks + length rule.matches) where
  pub looks_on : looks2 + matches_of (take from rules) ≤ looks + matches_of (take (at + 1) rules)
  looks_on =
      let more = matches_more rules at rule is_at in
      let rise = matches_rise rules from at rises in
      omega (arith, more, rise, looked)

  pub looks_all : looks2 + matches_of (take from rules) ≤ looks + matches_of rules
  looks_all = let on = looks_on in let all = matches_all rules (at + 1) in omega (arith, on, all)

module _ (chains : List Chain) where
  pub before_few : (places : List Place) → looked_before chains places ≤ weighed chains matches_of places
  before_few [] = omega arith
  before_few (p ∷ ps) =
      let few = before_few ps in
      let own = matches_all (rules_at chains p.chain) p.at in
      omega (arith, few, own)

  module _ (ends : ¬ IsLooped chains) (here : Place) (places : List Place) (fit : Fit chains (here ∷ places)) (known : List (Option Outcome)) (reading : Reading chains known here places) (known2 : List (Option Outcome)) (here2 : Place) (places2 : List Place) where
    -- a chain has been read to its end, where no match was looked at
    pub back_looks : (looks : ℕ) (result : Option Outcome) → known2 ≡ told_of known (here ∷ []) Ends → MatchOption result (places ≡ here2 ∷ places2) (λ outcome. (outcome ≡ Ends) × (places ≡ []))
        → Looked chains here places known looks here2 places2 known2 looks result
    back_looks looks None told back =
        let one = unread_told matches_of chains known here.chain Ends fit.0 (let in_chains = fit.0 in omega (arith, in_chains, reading.roomy)) reading.unknown.0 in
        let known_is = ap (unlooked chains) told in
        let counts = ap (looked_before chains) back in
        let own = matches_all (rules_at chains here.chain) here.at in
        omega (arith, one, known_is, counts, own)
    back_looks looks (Some outcome) told back =
        let all = weighed_told chains ends here places fit known reading matches_of Ends in
        let few = before_few (here ∷ places) in
        let known_is = ap (unlooked chains) (told ∙ sym (ap (λ ps. told_of known (here ∷ ps) Ends) back.1)) in
        omega (arith, all, few, known_is)

    module _ (looks looks2 at : ℕ) (rule : Rule) (is_at : slice_get (rules_at chains here.chain) at ≡ Some rule) (from : here.at ≤ at) (looked : looks2 ≤ looks + length rule.matches) where
      abbrev rules : List Rule
      rules = rules_at chains here.chain

      read_on : looks2 + matches_of (take here.at rules) ≤ looks + matches_of (take (at + 1) rules)
      read_on = looks_on rules here.at at rule is_at from looks looks2 looked

      read_all : looks2 + matches_of (take here.at rules) ≤ looks + matches_of rules
      read_all = looks_all rules here.at at rule is_at from looks looks2 looked

      module _ (result : Option Outcome) where
        abbrev Done : Type 0
        Done = Looked chains here places known looks here2 places2 known2 looks2 result

        goes : (h : Place) (p : List Place) → looks2 + looked_before chains (here ∷ places) ≤ looks + looked_before chains (h ∷ p) → result ≡ None → GoesTo h p known here2 places2 known2 → Done
        goes h p less none to =
            let known_is = ap (unlooked chains) to.same in
            let there = ap (looked_before chains) (ap (λ x. x ∷ places2) to.place ∙ ap (λ ps. h ∷ ps) to.stack) in
            subst (Looked chains here places known looks here2 places2 known2 looks2) (sym none) (omega (arith, less, known_is, there))

        -- the rule at this number is read next
        on : (to : ℕ) → looks2 + matches_of (take here.at rules) ≤ looks + matches_of (take to rules) → looks2 + looked_before chains (here ∷ places) ≤ looks + looked_before chains (record { chain = here.chain; at = to } ∷ places)
        on to less = omega (arith, less)

        -- after another chain
        on_after : (b to : ℕ) → looks2 + matches_of (take here.at rules) ≤ looks + matches_of (take to rules) → looks2 + looked_before chains (here ∷ places) ≤ looks + looked_before chains (record { chain = b; at = 0 } ∷ record { chain = here.chain; at = to } ∷ places)
        on_after b to less = omega (arith, less)

        all_read : looks2 + matches_of (take here.at rules) ≤ looks + matches_of (take (length rules) rules)
        all_read = let all = read_all in let e = ap matches_of (take_all (length rules) rules (omega arith)) in omega (arith, all, e)

        all_ended : (given : Outcome) → EndsAll given here places known known2 result → Done
        all_ended given ended =
            let told = weighed_told chains ends here places fit known reading matches_of given in
            let few = before_few places in
            let known_is = ap (unlooked chains) ended.told in
            let all = read_all in
            subst (Looked chains here places known looks here2 places2 known2 looks2) (sym ended.outcome_is) (omega (arith, told, few, known_is, all))

        pub act_looks : (move : Move) → Acts move at (length rules) here places known here2 places2 known2 result → Done
        act_looks Next acts = goes (record { chain = here.chain; at = at + 1 }) places (on (at + 1) read_on) acts.0 acts.1
        act_looks (Gives Ends) acts = goes (record { chain = here.chain; at = length rules }) places (on (length rules) all_read) acts.0 acts.1
        act_looks (Gives Accepts) acts = all_ended Accepts acts
        act_looks (Gives Drops) acts = all_ended Drops acts
        act_looks (Gives (To x)) acts = all_ended (To x) acts
        act_looks (Gives (From x)) acts = all_ended (From x) acts
        act_looks (Gives Masquerades) acts = all_ended Masquerades acts
        act_looks (Jumps b) acts = goes (record { chain = b; at = 0 }) (record { chain = here.chain; at = at + 1 } ∷ places) (on_after b (at + 1) read_on) acts.0 acts.1
        act_looks (Goes b) acts = goes (record { chain = b; at = 0 }) (record { chain = here.chain; at = length rules } ∷ places) (on_after b (length rules) all_read) acts.0 acts.1

pub matches_split : (tables : List Table) (i : ℕ) (table : Table) → i < length tables → table ≡ get_or tables i table → matches_of_tables (drop i tables) ≡ matches_of_table table + matches_of_tables (drop (i + 1) tables)
matches_split tables i table within is =
    ap matches_of_tables (drop-cons tables i table within ∙ ap (λ k. get_or tables i table ∷ drop k tables) (sym (add-one i)) ∙ ap (λ y. y ∷ drop (i + 1) tables) (sym is))
    ∙ sum_by-cons matches_of_table table (drop (i + 1) tables)
