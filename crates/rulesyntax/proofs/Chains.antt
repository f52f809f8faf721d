-- Chains: reading and spelling are one.
use Rattle.std.proofs.Common.{◌≡◌, ℕ, ◌<◌, Bool, true, false, List, [], ◌∷◌, ◌++◌, length, Option, Some, None, refl, sym, ap, subst, ◌∙◌, append_assoc, arith, inl, inr, ◌⊎◌}
use Rattle.std.specs.Prelude.{codes, nat_le, ℤ, pos, neg_ℤ, ◌+ℤ◌, map}
use Rattle.std.proofs.lemmas.Bool.{leb-true, le-leb}
use Rattle.std.proofs.lemmas.List.{append-nil}
use Rattle.ruletokens.specs.declared.token.Token.TheVariants.{Name, Number, Symbol, NewLine}
use Rattle.ruletokens.specs.declared.token.Symbol.TheVariants.{Open, Close, Semicolon, Minus, Plus}
use Rattle.rulesyntax.specs.declared.keyword.PriorityName.{PriorityName}
use Rattle.rulesyntax.specs.declared.keyword.PriorityName.TheVariants as priority
use Rattle.rulesyntax.specs.declared.keyword.MemberWord.{MemberWord}
use Rattle.rulesyntax.specs.declared.keyword.MemberWord.TheVariants as w
use Rattle.rulesyntax.specs.declared.chain.Stage.{Stage}
use Rattle.rulesyntax.specs.declared.chain.Stage.TheVariants as stage
use Rattle.rulesyntax.specs.declared.chain.ChainBody.{ChainBody}
use Rattle.ruletree.specs.declared.tree.ChainType.{ChainType}
use Rattle.ruletree.specs.declared.tree.ChainType.TheVariants.{Filter, Nat}
use Rattle.ruletree.specs.declared.tree.Hook.{Hook}
use Rattle.ruletree.specs.declared.tree.Hook.TheVariants.{Prerouting, Input, Forward, Output, Postrouting}
use Rattle.ruletree.specs.declared.tree.Policy.{Policy}
use Rattle.ruletree.specs.declared.tree.Policy.TheVariants as policy
use Rattle.ruletree.specs.declared.tree.Base.{Base}
use Rattle.ruletree.specs.declared.tree.Rule.{Rule}
use Rattle.ruletree.specs.declared.tree.Chain.{Chain}
use Rattle.rulesyntax.specs.Names.{priority_name, priority_value, type_name, hook_name, policy_name}
use Rattle.rulesyntax.specs.Words.{priority_words, type_words, hook_words, policy_words, member_words, member_name}
use Rattle.rulesyntax.specs.Grammar.{Tokens, Listed, CommentIs, AmountIs, PlusIs, MinusIs, NamedIs, PriorityIs, BaseIs, RuleIs, Member, comment_member, base_member, policy_member, rule_member, MemberIs, AreMembers, ChainIs}
use Rattle.rulesyntax.specs.Reading.{next_at, number_of, number_at, name_of, name_at, quoted_of, quoted_at, word_of, word_at, rank, symbol_of, symbol_at, keyword_of, keyword_at, closes, amount_at, less_behind, more_behind, named_priority, priority_at, base_behind, with_policy, rule_step, policy_behind, member_behind, step_at, chain_step, no_members, chain_behind}
use Rattle.rulesyntax.proofs.Sound.{Sound, just, nothing, weaker, then_sound, if_sound, cond_sound, number_sound, name_sound, word_sound, symbol_sound, keyword_sound}
use Rattle.rulesyntax.proofs.Elements.{Takes}
use Rattle.rulesyntax.proofs.Heads.{begins_name}
use Rattle.rulesyntax.proofs.Rules.{comment_from, rule_sound, rule_complete, rule_name, no_keyword_rule}
use Rattle.rulesyntax.proofs.Lists.{Taken, Stepped, Folds, block_sound, block_complete}

-- ---- priorities

amount_sound : (ts : Tokens) → Sound (λ (n : ℕ × Tokens). AmountIs n.0 ts n.1) (amount_at ts)
unfolding amount_at
amount_sound ts =
    then_sound (number_sound ts) (λ (n : ℕ × Tokens) (e : ts ≡ Number n.0 ∷ n.1).
    cond_sound (λ (b : nat_le n.0 1000000000 ≡ true). just {x = n} (e, leb-true n.0 1000000000 b)) (λ _. nothing))

amount_complete : (n : ℕ) (ts rest : Tokens) → AmountIs n ts rest → amount_at ts ≡ Some (n, rest)
unfolding amount_at number_at number_of next_at
amount_complete n ts rest h = ap amount_at h.0 ∙ rw (le-leb n 1000000000 h.1) refl

more_sound : (z : ℤ) (ts : Tokens) → Sound (λ (p : ℤ × Tokens). PlusIs z p.0 ts p.1 × (length p.1 < length ts)) (more_behind z ts)
unfolding more_behind
more_sound z ts =
    then_sound (amount_sound ts) (λ (n : ℕ × Tokens) (h : AmountIs n.0 ts n.1).
    just {x = (z +ℤ pos n.0, n.1)} ((n.0, h, refl), omega (arith, ap length h.0)))

less_sound : (z : ℤ) (ts a : Tokens) → ts ≡ Symbol Minus ∷ a → Sound (λ (p : ℤ × Tokens). MinusIs z p.0 ts p.1 × (length p.1 < length ts)) (less_behind z a)
unfolding less_behind
less_sound z ts a e =
    then_sound (amount_sound a) (λ (n : ℕ × Tokens) (h : AmountIs n.0 a n.1).
    just {x = (z +ℤ neg_ℤ (pos n.0), n.1)} ((n.0, a, e, h, refl), omega (arith, ap length e, ap length h.0)))

IsNamed : PriorityName → Tokens → ℤ × Tokens → Type 0
IsNamed name ts p = NamedIs name p.0 ts p.1 × (length p.1 < length ts)

named_sound : (name : PriorityName) (ts a : Tokens) → ts ≡ Name (priority_name name) ∷ a → Sound (IsNamed name ts) (named_priority (priority_value name) a)
unfolding named_priority IsNamed
named_sound name ts a e =
    if_sound (symbol_sound Minus a) (λ (b : Tokens) (f : a ≡ Symbol Minus ∷ b).
    weaker (less_sound (priority_value name) a b f) (λ (p : ℤ × Tokens) (h : MinusIs (priority_value name) p.0 a p.1 × (length p.1 < length a)).
    ((a, e, inr (inl h.0)), omega (arith, ap length e, h.1))))
    (if_sound (symbol_sound Plus a) (λ (b : Tokens) (f : a ≡ Symbol Plus ∷ b).
    weaker (more_sound (priority_value name) b) (λ (p : ℤ × Tokens) (h : PlusIs (priority_value name) p.0 b p.1 × (length p.1 < length b)).
    ((a, e, inr (inr (b, f, h.0))), omega (arith, ap length e, ap length f, h.1))))
    (just {x = (priority_value name, a)} ((a, e, inl (refl, refl)), omega (arith, ap length e))))

priority_sound : (ts : Tokens) → Sound (Takes PriorityIs ts) (priority_at ts)
unfolding priority_at IsNamed
priority_sound ts =
    if_sound (symbol_sound Minus ts) (λ (a : Tokens) (e : ts ≡ Symbol Minus ∷ a).
    weaker (less_sound (pos 0) ts a e) (λ (p : ℤ × Tokens) (h : MinusIs (pos 0) p.0 ts p.1 × (length p.1 < length ts)). (inr (inl h.0), h.1)))
    (if_sound (keyword_sound priority_name priority_words (refl, (refl, (refl, (refl, (refl, (refl, tt)))))) ts) (λ (k : PriorityName × Tokens) (e : ts ≡ Name (priority_name k.0) ∷ k.1).
    weaker (named_sound k.0 ts k.1 e) (λ (p : ℤ × Tokens) (h : IsNamed k.0 ts p). (inr (inr (k.0, h.0)), h.1)))
    (weaker (more_sound (pos 0) ts) (λ (p : ℤ × Tokens) (h : PlusIs (pos 0) p.0 ts p.1 × (length p.1 < length ts)). (inl h.0, h.1))))

closed_symbols : (ts : Tokens) → closes ts ≡ true → (symbol_at Minus ts ≡ None) × (symbol_at Plus ts ≡ None)
unfolding symbol_at symbol_of next_at rank
closed_symbols [] e = (refl, refl)
closed_symbols (Symbol Close ∷ ts) e = (refl, refl)
closed_symbols (Symbol Semicolon ∷ ts) e = (refl, refl)
closed_symbols (NewLine ∷ ts) e = (refl, refl)
closed_symbols (t ∷ ts) e = absurd cc

named_complete : (z sum : ℤ) (a rest : Tokens) → closes rest ≡ true
    → ((a ≡ rest) × (sum ≡ z)) ⊎ (MinusIs z sum a rest ⊎ ((b : Tokens) × (a ≡ Symbol Plus ∷ b) × PlusIs z sum b rest)) → named_priority z a ≡ Some (sum, rest)
unfolding named_priority less_behind more_behind symbol_at symbol_of next_at rank
named_complete z sum a rest e (inl h) =
    let c = closed_symbols rest e in
    ap (named_priority z) h.0 ∙ rw (c.0, c.1, h.1) refl
named_complete z sum a rest e (inr (inl h)) = ap (named_priority z) h.2 ∙ rw (amount_complete h.0 h.1 rest h.3, h.4) refl
named_complete z sum a rest e (inr (inr h)) = ap (named_priority z) h.1 ∙ rw (amount_complete h.2.0 h.0 rest h.2.1, h.2.2) refl

name_read : (name : PriorityName) (a : Tokens) → priority_at (Name (priority_name name) ∷ a) ≡ named_priority (priority_value name) a
unfolding priority_at keyword_at keyword_of next_at symbol_at symbol_of
name_read priority.Raw a = refl
name_read priority.Mangle a = refl
name_read priority.Dstnat a = refl
name_read priority.Filter a = refl
name_read priority.Security a = refl
name_read priority.Srcnat a = refl

priority_complete : (z : ℤ) (ts rest : Tokens) → PriorityIs z ts rest → closes rest ≡ true → priority_at ts ≡ Some (z, rest)
unfolding priority_at less_behind more_behind keyword_at keyword_of symbol_at symbol_of next_at rank
priority_complete z ts rest (inl h) e = ap priority_at h.1.0 ∙ rw (amount_complete h.0 (Number h.0 ∷ rest) rest (refl, h.1.1), h.2) refl
priority_complete z ts rest (inr (inl h)) e = ap priority_at h.2 ∙ rw (amount_complete h.0 h.1 rest h.3, h.4) refl
priority_complete z ts rest (inr (inr h)) e = ap priority_at h.1.1 ∙ name_read h.0 h.1.0 ∙ named_complete (priority_value h.0) z h.1.0 rest e h.1.2

-- ---- bases

IsBase : Tokens → Base × Tokens → Type 0
IsBase ts p = BaseIs p.0 ts p.1 × (p.0.policy ≡ policy.Accept) × (length p.1 < length ts)

base_sound : (ts a : Tokens) → ts ≡ Name (codes "type") ∷ a → Sound (IsBase ts) (base_behind a)
unfolding base_behind IsBase
base_sound ts a e =
    then_sound (keyword_sound type_name type_words (refl, (refl, tt)) a) (λ (t : ChainType × Tokens) (f : a ≡ Name (type_name t.0) ∷ t.1).
    then_sound (word_sound (codes "hook") t.1) (λ (b : Tokens) (g : t.1 ≡ Name (codes "hook") ∷ b).
    then_sound (keyword_sound hook_name hook_words (refl, (refl, (refl, (refl, (refl, tt))))) b) (λ (h : Hook × Tokens) (i : b ≡ Name (hook_name h.0) ∷ h.1).
    then_sound (word_sound (codes "priority") h.1) (λ (c : Tokens) (j : h.1 ≡ Name (codes "priority") ∷ c).
    then_sound (priority_sound c) (λ (p : ℤ × Tokens) (k : Takes PriorityIs c p).
    just {x = (record { line = tt; kind = t.0; hook = h.0; priority = p.0; policy = policy.Accept }, p.1)} (
      (c, e ∙ ap (λ (u : Tokens). Name (codes "type") ∷ u) (f ∙ ap (λ (u : Tokens). Name (type_name t.0) ∷ u) (g ∙ ap (λ (u : Tokens). Name (codes "hook") ∷ u) (i ∙ ap (λ (u : Tokens). Name (hook_name h.0) ∷ u) j))), k.0),
      refl,
      omega (arith, ap length e, ap length f, ap length g, ap length i, ap length j, k.1),
    ))))))

type_read : (t : ChainType) (a : Tokens) → keyword_at type_words (Name (type_name t) ∷ a) ≡ Some (t, a)
unfolding keyword_at keyword_of next_at
type_read Filter a = refl
type_read Nat a = refl

hook_read : (h : Hook) (a : Tokens) → keyword_at hook_words (Name (hook_name h) ∷ a) ≡ Some (h, a)
unfolding keyword_at keyword_of next_at
hook_read Prerouting a = refl
hook_read Input a = refl
hook_read Forward a = refl
hook_read Output a = refl
hook_read Postrouting a = refl

policy_read : (p : Policy) (a : Tokens) → keyword_at policy_words (Name (policy_name p) ∷ a) ≡ Some (p, a)
unfolding keyword_at keyword_of next_at
policy_read policy.Accept a = refl
policy_read policy.Drop a = refl

base_complete : (b : Base) (ts rest : Tokens) → BaseIs b ts rest → b.policy ≡ policy.Accept → closes rest ≡ true → (a : Tokens) × (ts ≡ Name (codes "type") ∷ a) × (base_behind a ≡ Some (b, rest))
unfolding base_behind word_at word_of next_at
base_complete b ts rest h p e = (_, h.1, rw (type_read b.kind (Name (codes "hook") ∷ Name (hook_name b.hook) ∷ Name (codes "priority") ∷ h.0), hook_read b.hook (Name (codes "priority") ∷ h.0), priority_complete b.priority h.0 rest h.2 e, ← p) refl)

-- ---- members

abbrev pub is_at : Stage → Member → Bool
is_at stage.Start (policy_member p) = false
is_at stage.Start _ = true
is_at stage.Policy (policy_member p) = true
is_at stage.Policy (rule_member r) = true
is_at stage.Policy _ = false
is_at stage.Rules (rule_member r) = true
is_at stage.Rules _ = false

abbrev pub fits : ChainBody → Member → Bool
fits c m = is_at c.stage m

abbrev pub with_member : ChainBody → Member → ChainBody
with_member c comment_member = c
with_member c (base_member b) = record { stage = stage.Policy; base = Some b; rules = c.rules }
with_member c (policy_member p) = record { stage = stage.Rules; base = with_policy c.base p; rules = c.rules }
with_member c (rule_member r) = record { stage = stage.Rules; base = c.base; rules = c.rules ++ r ∷ [] }

abbrev IsMember : ChainBody → Tokens → (ChainBody × Bool) × Tokens → Type 0
IsMember = Taken MemberIs (λ _. false) fits with_member

rule_fits : (s : Stage) (r : Rule) → is_at s (rule_member r) ≡ true
rule_fits stage.Start r = refl
rule_fits stage.Policy r = refl
rule_fits stage.Rules r = refl

rule_taken : (c : ChainBody) (ts : Tokens) → Sound (IsMember c ts) (rule_step c ts)
unfolding rule_step
rule_taken c ts =
    then_sound (rule_sound ts) (λ (r : Rule × Tokens) (h : Takes RuleIs ts r).
    just {x = ((record { stage = stage.Rules; base = c.base; rules = c.rules ++ r.0 ∷ [] }, false), r.1)}
    (record { item = rule_member r.0; spelled = h.0; ends = refl; fits = rule_fits c.stage r.0; body = refl; shrinks = h.1 }))

member_taken : (c : ChainBody) (k : MemberWord) (ts a : Tokens) → c.stage ≡ stage.Start → ts ≡ Name (member_name k) ∷ a → Sound (IsMember c ts) (member_behind c k a)
unfolding member_behind IsBase
member_taken c w.Comment ts a s e =
    then_sound (comment_from ts a e) (λ (rest : Tokens) (h : CommentIs ts rest × (length rest < length ts)).
    just {x = ((c, false), rest)} (record { item = comment_member; spelled = h.0; ends = refl; fits = ap (λ (u : Stage). is_at u comment_member) s; body = refl; shrinks = h.1 }))
member_taken c w.Type ts a s e =
    then_sound (base_sound ts a e) (λ (b : Base × Tokens) (h : IsBase ts b).
    just {x = ((record { stage = stage.Policy; base = Some b.0; rules = c.rules }, false), b.1)}
    (record { item = base_member b.0; spelled = (h.0, h.1); ends = refl; fits = ap (λ (u : Stage). is_at u (base_member b.0)) s; body = refl; shrinks = h.2 }))

policy_taken : (c : ChainBody) (ts a : Tokens) → c.stage ≡ stage.Policy → ts ≡ Name (codes "policy") ∷ a → Sound (IsMember c ts) (policy_behind c a)
unfolding policy_behind
policy_taken c ts a s e =
    then_sound (keyword_sound policy_name policy_words (refl, (refl, tt)) a) (λ (p : Policy × Tokens) (f : a ≡ Name (policy_name p.0) ∷ p.1).
    just {x = ((record { stage = stage.Rules; base = with_policy c.base p.0; rules = c.rules }, false), p.1)}
    (record { item = policy_member p.0; spelled = e ∙ ap (λ (u : Tokens). Name (codes "policy") ∷ u) f; ends = refl; fits = ap (λ (u : Stage). is_at u (policy_member p.0)) s; body = refl; shrinks = omega (arith, ap length e, ap length f) }))

at_taken : (s : Stage) (c : ChainBody) (ts : Tokens) → c.stage ≡ s → Sound (IsMember c ts) (step_at s c ts)
at_taken stage.Start c ts s =
    if_sound (keyword_sound member_name member_words (refl, (refl, tt)) ts) (λ (k : MemberWord × Tokens) (e : ts ≡ Name (member_name k.0) ∷ k.1). member_taken c k.0 ts k.1 s e)
    (rule_taken c ts)
at_taken stage.Policy c ts s =
    if_sound (word_sound (codes "policy") ts) (λ (a : Tokens) (e : ts ≡ Name (codes "policy") ∷ a). policy_taken c ts a s e)
    (rule_taken c ts)
at_taken stage.Rules c ts s = rule_taken c ts

chain_taken : (c : ChainBody) (ts : Tokens) → Sound (IsMember c ts) (chain_step c ts)
unfolding chain_step
chain_taken c ts = at_taken c.stage c ts refl

rule_given : (s : Stage) (c : ChainBody) (r : Rule) (ts rest : Tokens) → RuleIs r ts rest → closes rest ≡ true → step_at s c ts ≡ Some ((with_member c (rule_member r), false), rest)
unfolding rule_step
rule_given stage.Start c r ts rest h e = rw ((no_keyword_rule r ts rest h).member, rule_complete r ts rest h e) refl
rule_given stage.Policy c r ts rest h e = rw ((no_keyword_rule r ts rest h).policy, rule_complete r ts rest h e) refl
rule_given stage.Rules c r ts rest h e = rw (rule_complete r ts rest h e) refl

member_given : (s : Stage) (c : ChainBody) (m : Member) (ts rest : Tokens) → MemberIs m ts rest → is_at s m ≡ true → closes rest ≡ true → step_at s c ts ≡ Some ((with_member c m, false), rest)
unfolding keyword_at keyword_of word_at word_of quoted_at quoted_of next_at member_behind policy_behind
member_given s c (rule_member r) ts rest h f e = rule_given s c r ts rest h e
member_given stage.Start c comment_member ts rest h f e = ap (step_at stage.Start c) h.1
member_given stage.Policy c comment_member ts rest h f e = absurd cc
member_given stage.Rules c comment_member ts rest h f e = absurd cc
member_given stage.Start c (base_member b) ts rest h f e =
    let k = base_complete b ts rest h.0 h.1 e in
    ap (step_at stage.Start c) k.1 ∙ rw k.2 refl
member_given stage.Policy c (base_member b) ts rest h f e = absurd cc
member_given stage.Rules c (base_member b) ts rest h f e = absurd cc
member_given stage.Start c (policy_member p) ts rest h f e = absurd cc
member_given stage.Policy c (policy_member p) ts rest h f e = ap (step_at stage.Policy c) h ∙ rw (policy_read p rest) refl
member_given stage.Rules c (policy_member p) ts rest h f e = absurd cc

member_name_first : (m : Member) (ts rest : Tokens) → MemberIs m ts rest → begins_name ts ≡ true
member_name_first comment_member ts rest h = ap begins_name h.1
member_name_first (base_member b) ts rest h = ap begins_name h.0.1
member_name_first (policy_member p) ts rest h = ap begins_name h
member_name_first (rule_member r) ts rest h = rule_name r ts rest h

chain_stepped : Stepped MemberIs (λ _. false) fits with_member chain_step
unfolding chain_step
chain_stepped = record {
  sound = chain_taken;
  complete = λ c m ts rest h f e. member_given c.stage c m ts rest h f e;
  opens = member_name_first;
}

-- ---- the members of a chain, in their order

with_rules : Option Base → List Rule → ChainBody
with_rules b rules = record { stage = stage.Rules; base = b; rules = rules }

rules_fold : (ms : List Member) (c last : ChainBody) → c.stage ≡ stage.Rules → Folds fits with_member c ms last → (rules : List Rule) × (ms ≡ map rule_member rules) × (last ≡ with_rules c.base (c.rules ++ rules))
unfolding with_rules
rules_fold [] c last s h = ([], refl, h ∙ body c s)
  where
    body : (c : ChainBody) → c.stage ≡ stage.Rules → c ≡ record { stage = stage.Rules; base = c.base; rules = c.rules ++ [] }
    body c s = ap (λ (u : Stage). record { stage = u; base = c.base; rules = c.rules }) s ∙ ap (λ (rs : List Rule). record { stage = stage.Rules; base = c.base; rules = rs }) (sym (append-nil c.rules))
rules_fold (rule_member r ∷ ms) c last s h =
    let k = rules_fold ms (with_member c (rule_member r)) last refl h.1 in
    (r ∷ k.0, ap (λ (xs : List Member). rule_member r ∷ xs) k.1, k.2 ∙ ap (λ (rs : List Rule). with_rules c.base rs) (append_assoc c.rules (r ∷ []) k.0))
rules_fold (comment_member ∷ ms) c last s h = absurd (let e = ap (λ (u : Stage). is_at u comment_member) s in let f = h.0 in cc)
rules_fold (base_member b ∷ ms) c last s h = absurd (let e = ap (λ (u : Stage). is_at u (base_member b)) s in let f = h.0 in cc)
rules_fold (policy_member p ∷ ms) c last s h = absurd (let e = ap (λ (u : Stage). is_at u (policy_member p)) s in let f = h.0 in cc)

fold_rules : (rules : List Rule) (c : ChainBody) → c.stage ≡ stage.Rules → Folds fits with_member c (map rule_member rules) (with_rules c.base (c.rules ++ rules))
unfolding with_rules
fold_rules [] c s = ap (λ (rs : List Rule). record { stage = stage.Rules; base = c.base; rules = rs }) (append-nil c.rules) ∙ ap (λ (u : Stage). record { stage = u; base = c.base; rules = c.rules }) (sym s)
fold_rules (r ∷ rules) c s = (
  ap (λ (u : Stage). is_at u (rule_member r)) s,
  subst (λ (rs : List Rule). Folds fits with_member (with_member c (rule_member r)) (map rule_member rules) (with_rules c.base rs)) (append_assoc c.rules (r ∷ []) rules) (fold_rules rules (with_member c (rule_member r)) refl),
)

members_sound : (ms : List Member) (last : ChainBody) → Folds fits with_member no_members ms last → AreMembers ms last.base last.rules
unfolding with_rules
members_sound [] last h = (ap (λ (c : ChainBody). c.base) h, ap (λ (c : ChainBody). map rule_member c.rules) (sym h))
members_sound (comment_member ∷ ms) last h = members_sound ms last h.1
members_sound (policy_member p ∷ ms) last h = absurd (let e = h.0 in cc)
members_sound (rule_member r ∷ ms) last h =
    let k = rules_fold ms (with_member no_members (rule_member r)) last refl h.1 in
    (ap (λ (c : ChainBody). c.base) k.2, ap (λ (xs : List Member). rule_member r ∷ xs) k.1 ∙ sym (ap (λ (c : ChainBody). map rule_member c.rules) k.2))
members_sound (base_member b ∷ []) last h = (ap (λ (c : ChainBody). c.base) h.1, ap (λ (c : ChainBody). map rule_member c.rules) (sym h.1))
members_sound (base_member b ∷ policy_member p ∷ ms) last h =
    let k = rules_fold ms (record { stage = stage.Rules; base = with_policy (Some b) p; rules = [] }) last refl h.1.1 in
    (ap (λ (c : ChainBody). c.base) k.2, k.1 ∙ sym (ap (λ (c : ChainBody). map rule_member c.rules) k.2))
members_sound (base_member b ∷ rule_member r ∷ ms) last h =
    let k = rules_fold ms (record { stage = stage.Rules; base = Some b; rules = r ∷ [] }) last refl h.1.1 in
    (ap (λ (c : ChainBody). c.base) k.2, ap (λ (xs : List Member). rule_member r ∷ xs) k.1 ∙ sym (ap (λ (c : ChainBody). map rule_member c.rules) k.2))
members_sound (base_member b ∷ comment_member ∷ ms) last h = absurd (let e = h.1.0 in cc)
members_sound (base_member b ∷ base_member d ∷ ms) last h = absurd (let e = h.1.0 in cc)

no_rules : (rules : List Rule) → [] ≡ map rule_member rules → [] ≡ rules
no_rules [] e = refl
no_rules (r ∷ rules) e = absurd cc

-- these members make a chain of this base and these rules
IsBody : List Member → Option Base → List Rule → Type 0
IsBody ms b rules = (last : ChainBody) × Folds fits with_member no_members ms last × (last.base ≡ b) × (last.rules ≡ rules)

members_complete : (ms : List Member) (b : Option Base) (rules : List Rule) → AreMembers ms b rules → IsBody ms b rules
unfolding IsBody with_rules
members_complete [] b rules h = (no_members, refl, sym h.0, no_rules rules h.1)
members_complete (comment_member ∷ ms) b rules h =
    let k = members_complete ms b rules h in
    (k.0, (refl, k.1), k.2, k.3)
members_complete (policy_member p ∷ ms) b [] h = absurd (let e = h.1 in cc)
members_complete (policy_member p ∷ ms) b (r ∷ rules) h = absurd (let e = h.1 in cc)
members_complete (rule_member r ∷ ms) b [] h = absurd (let e = h.1 in cc)
members_complete (rule_member r ∷ ms) b (x ∷ rules) h =
    (with_rules None (x ∷ rules), subst (λ (xs : List Member). Folds fits with_member no_members xs (with_rules None (x ∷ rules))) (sym h.1) (refl, fold_rules rules (with_member no_members (rule_member x)) refl), sym h.0, refl)
members_complete (base_member y ∷ []) b rules h = (with_member no_members (base_member y), (refl, refl), sym h.0, no_rules rules h.1)
members_complete (base_member y ∷ policy_member p ∷ ms) b rules h =
    let c : ChainBody = record { stage = stage.Rules; base = with_policy (Some y) p; rules = [] } in
    (with_rules c.base rules, (refl, (refl, subst (λ (xs : List Member). Folds fits with_member c xs (with_rules c.base rules)) (sym h.1) (fold_rules rules c refl))), sym h.0, refl)
members_complete (base_member y ∷ rule_member r ∷ ms) b [] h = absurd (let e = h.1 in cc)
members_complete (base_member y ∷ rule_member r ∷ ms) b (x ∷ rules) h =
    let c : ChainBody = record { stage = stage.Policy; base = Some y; rules = [] } in
    (with_rules (Some y) (x ∷ rules), (refl, subst (λ (xs : List Member). Folds fits with_member c xs (with_rules (Some y) (x ∷ rules))) (sym h.1) (refl, fold_rules rules (with_member c (rule_member x)) refl)), sym h.0, refl)
members_complete (base_member y ∷ comment_member ∷ ms) b [] h = absurd (let e = h.1 in cc)
members_complete (base_member y ∷ comment_member ∷ ms) b (r ∷ rules) h = absurd (let e = h.1 in cc)
members_complete (base_member y ∷ base_member z ∷ ms) b [] h = absurd (let e = h.1 in cc)
members_complete (base_member y ∷ base_member z ∷ ms) b (r ∷ rules) h = absurd (let e = h.1 in cc)

-- ---- chains

pub chain_sound : (ts a : Tokens) → ts ≡ Name (codes "chain") ∷ a → Sound (Takes ChainIs ts) (chain_behind a)
unfolding chain_behind
chain_sound ts a e =
    then_sound (name_sound a) (λ (n : List ℕ × Tokens) (f : a ≡ Name n.0 ∷ n.1).
    then_sound (block_sound MemberIs (λ _. false) fits with_member chain_step chain_stepped no_members n.1)
    (λ (x : ChainBody × Tokens) (h : (b : Tokens) × (ms : List Member) × (n.1 ≡ Symbol Open ∷ b) × Listed MemberIs (λ _. false) ms b (Symbol Close ∷ x.1) × Folds fits with_member no_members ms x.0 × (length x.1 < length n.1)).
    just {x = (record { line = tt; name = n.0; base = x.0.base; rules = x.0.rules }, x.1)}
    ((h.0, h.1, e ∙ ap (λ (u : Tokens). Name (codes "chain") ∷ u) (f ∙ ap (λ (u : Tokens). Name n.0 ∷ u) h.2), h.3, members_sound h.1 x.0 h.4), omega (arith, ap length e, ap length f, h.5))))

pub chain_complete : (c : Chain) (ts rest : Tokens) → ChainIs c ts rest → (a : Tokens) × (ts ≡ Name (codes "chain") ∷ a) × (chain_behind a ≡ Some (c, rest))
unfolding chain_behind name_at name_of next_at IsBody
chain_complete c ts rest h =
    let m = members_complete h.1 c.base c.rules h.4 in
    let b = block_complete MemberIs (λ _. false) fits with_member chain_step chain_stepped no_members m.0 h.1 h.0 rest h.3 m.1 in
    (_, h.2, rw (b, m.2, m.3) refl)
