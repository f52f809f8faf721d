-- Tables and texts: reading and spelling are one.
use Rattle.std.proofs.Common.{◌≡◌, ℕ, suc, ◌<◌, ◌≤◌, Bool, true, false, List, [], ◌∷◌, ◌++◌, length, Option, Some, None, refl, sym, ap, subst, ◌∙◌, append_assoc, arith, inl, inr}
use Rattle.std.specs.Prelude.{codes, ◌||◌, ◌==◌, map, Result, Ok, Err, IfOk}
use Rattle.std.specs.Str.{bytes_eq}
use Rattle.std.proofs.lemmas.Bool.{eqb-true, or_parts}
use Rattle.std.proofs.Math.Dec.{eqb-suc-zero}
use Rattle.std.proofs.lemmas.List.{append-nil, nil_from_length}
use Rattle.ruletokens.specs.declared.token.Token.TheVariants.{Name, Symbol}
use Rattle.ruletokens.specs.declared.token.Symbol.TheVariants.{Open, Close}
use Rattle.rulesyntax.specs.declared.error.ReadError.{ReadError}
use Rattle.rulesyntax.specs.declared.keyword.ItemWord.{ItemWord}
use Rattle.rulesyntax.specs.declared.keyword.ItemWord.TheVariants as w
use Rattle.rulesyntax.specs.declared.keyword.StatementWord.{StatementWord}
use Rattle.rulesyntax.specs.declared.keyword.StatementWord.TheVariants as sw
use Rattle.rulesyntax.specs.declared.table.TableBody.{TableBody}
use Rattle.ruletree.specs.declared.tree.Family.{Family}
use Rattle.ruletree.specs.declared.tree.Family.TheVariants.{Ip, Inet}
use Rattle.ruletree.specs.declared.tree.Set.{Set}
use Rattle.ruletree.specs.declared.tree.Chain.{Chain}
use Rattle.ruletree.specs.declared.tree.Table.{Table}
use Rattle.ruletree.specs.declared.tree.Spelled.{Spelled}
use Rattle.rulesyntax.specs.Names.{family_name, is_reserved}
use Rattle.rulesyntax.specs.Words.{item_words, family_words, statement_words, item_name, statement_name}
use Rattle.rulesyntax.specs.Grammar.{Tokens, Listed, CommentIs, SetIs, ChainIs, Item, comment_item, set_item, chain_item, ItemIs, is_block, sets_of, chains_of, FamilyIs, TableIs, Statement, flush, table, StatementIs, is_table, AreStatements, Spells}
use Rattle.rulesyntax.specs.Reading.{if_some, next_at, name_of, name_at, quoted_of, quoted_at, word_of, word_at, keyword_of, keyword_at, item_behind, table_step, no_items, family_at, free_name_at, table_behind, flush_behind, statement_behind, text_step, text_at, Answers}
use Rattle.rulesyntax.proofs.Sound.{Sound, just, nothing, then_sound, cond_sound, name_sound, word_sound, keyword_sound}
use Rattle.rulesyntax.proofs.Elements.{Takes}
use Rattle.rulesyntax.proofs.Heads.{begins_name}
use Rattle.rulesyntax.proofs.Rules.{comment_from}
use Rattle.rulesyntax.proofs.Chains.{chain_sound, chain_complete}
use Rattle.rulesyntax.proofs.Sets.{set_sound, set_complete}
use Rattle.rulesyntax.proofs.Lists.{Taken, Stepped, Folds, IsList, list_sound, list_complete, block_sound, block_complete}

-- ---- items

abbrev pub fits : TableBody → Item → Bool
fits t x = true

abbrev pub with_item : TableBody → Item → TableBody
with_item t comment_item = t
with_item t (set_item s) = record { sets = t.sets ++ s ∷ []; chains = t.chains }
with_item t (chain_item c) = record { sets = t.sets; chains = t.chains ++ c ∷ [] }

abbrev IsItem : TableBody → Tokens → (TableBody × Bool) × Tokens → Type 0
IsItem = Taken ItemIs is_block fits with_item

item_taken : (t : TableBody) (k : ItemWord) (ts a : Tokens) → ts ≡ Name (item_name k) ∷ a → Sound (IsItem t ts) (item_behind t k a)
unfolding item_behind
item_taken t w.Comment ts a e =
    then_sound (comment_from ts a e) (λ (rest : Tokens) (h : CommentIs ts rest × (length rest < length ts)).
    just {x = ((t, false), rest)} (record { item = comment_item; spelled = h.0; ends = refl; fits = refl; body = refl; shrinks = h.1 }))
item_taken t w.Set ts a e =
    then_sound (set_sound ts a e) (λ (s : Set × Tokens) (h : Takes SetIs ts s).
    just {x = ((record { sets = t.sets ++ s.0 ∷ []; chains = t.chains }, true), s.1)} (record { item = set_item s.0; spelled = h.0; ends = refl; fits = refl; body = refl; shrinks = h.1 }))
item_taken t w.Chain ts a e =
    then_sound (chain_sound ts a e) (λ (c : Chain × Tokens) (h : Takes ChainIs ts c).
    just {x = ((record { sets = t.sets; chains = t.chains ++ c.0 ∷ [] }, true), c.1)} (record { item = chain_item c.0; spelled = h.0; ends = refl; fits = refl; body = refl; shrinks = h.1 }))

table_taken : (t : TableBody) (ts : Tokens) → Sound (IsItem t ts) (table_step t ts)
unfolding table_step
table_taken t ts = then_sound (keyword_sound item_name item_words (refl, (refl, (refl, tt))) ts) (λ (k : ItemWord × Tokens) (e : ts ≡ Name (item_name k.0) ∷ k.1). item_taken t k.0 ts k.1 e)

item_given : (t : TableBody) (x : Item) (ts rest : Tokens) → ItemIs x ts rest → table_step t ts ≡ Some ((with_item t x, is_block x), rest)
unfolding table_step item_behind keyword_at keyword_of quoted_at quoted_of next_at
item_given t comment_item ts rest h = ap (table_step t) h.1
item_given t (set_item s) ts rest h =
    let k = set_complete s ts rest h in
    ap (table_step t) k.1 ∙ rw k.2 refl
item_given t (chain_item c) ts rest h =
    let k = chain_complete c ts rest h in
    ap (table_step t) k.1 ∙ rw k.2 refl

item_first : (x : Item) (ts rest : Tokens) → ItemIs x ts rest → begins_name ts ≡ true
item_first comment_item ts rest h = ap begins_name h.1
item_first (set_item s) ts rest h = ap begins_name (set_complete s ts rest h).1
item_first (chain_item c) ts rest h = ap begins_name (chain_complete c ts rest h).1

table_stepped : Stepped ItemIs is_block fits with_item table_step
table_stepped = record {
  sound = table_taken;
  complete = λ t x ts rest h f e. item_given t x ts rest h;
  opens = item_first;
}

items_body : List Item → TableBody → TableBody
items_body xs t = record { sets = t.sets ++ sets_of xs; chains = t.chains ++ chains_of xs }

items_fold : (xs : List Item) (t last : TableBody) → Folds fits with_item t xs last → last ≡ items_body xs t
unfolding items_body
items_fold [] t last h = h ∙ rw (append-nil t.sets, append-nil t.chains) refl
items_fold (comment_item ∷ xs) t last h = items_fold xs t last h.1
items_fold (set_item s ∷ xs) t last h = items_fold xs (with_item t (set_item s)) last h.1 ∙ ap (λ (ss : List Set). record { sets = ss; chains = t.chains ++ chains_of xs }) (append_assoc t.sets (s ∷ []) (sets_of xs))
items_fold (chain_item c ∷ xs) t last h = items_fold xs (with_item t (chain_item c)) last h.1 ∙ ap (λ (cs : List Chain). record { sets = t.sets ++ sets_of xs; chains = cs }) (append_assoc t.chains (c ∷ []) (chains_of xs))

fold_items : (xs : List Item) (t : TableBody) → (last : TableBody) × Folds fits with_item t xs last
fold_items [] t = (t, refl)
fold_items (x ∷ xs) t = let k = fold_items xs (with_item t x) in (k.0, (refl, k.1))

-- ---- tables

family_sound : (ts : Tokens) → FamilyIs (family_at ts).0 ts (family_at ts).1
unfolding family_at
family_sound ts = from (keyword_at family_words ts) (keyword_sound family_name family_words (refl, (refl, tt)) ts)
  where
    found : (f : Family) (a : Tokens) → ts ≡ Name (family_name f) ∷ a → FamilyIs f ts a
    found Ip a e = inr e
    found Inet a e = e

    from : (o : Option (Family × Tokens)) → Sound (λ (k : Family × Tokens). ts ≡ Name (family_name k.0) ∷ k.1) o → FamilyIs (if_some o (λ k. k) (Ip, ts)).0 ts (if_some o (λ k. k) (Ip, ts)).1
    from (Some k) h = found k.0 k.1 (h.so k refl)
    from None h = inl refl

family_shrinks : (f : Family) (ts rest : Tokens) → FamilyIs f ts rest → length rest ≤ length ts
family_shrinks Ip ts rest (inl e) = omega (arith, ap length e)
family_shrinks Ip ts rest (inr e) = omega (arith, ap length e)
family_shrinks Inet ts rest e = omega (arith, ap length e)

free_sound : (ts : Tokens) → Sound (λ (n : List ℕ × Tokens). (ts ≡ Name n.0 ∷ n.1) × (is_reserved n.0 ≡ false)) (free_name_at ts)
unfolding free_name_at
free_sound ts = then_sound (name_sound ts) (λ (n : List ℕ × Tokens) (e : ts ≡ Name n.0 ∷ n.1). cond_sound (λ _. nothing) (λ (r : is_reserved n.0 ≡ false). just {x = n} (e, r)))

table_sound : (ts a : Tokens) → ts ≡ Name (codes "table") ∷ a → Sound (Takes TableIs ts) (table_behind a)
unfolding table_behind items_body
table_sound ts a e =
    let f = family_sound a in
    let l = family_shrinks (family_at a).0 a (family_at a).1 f in
    then_sound (free_sound (family_at a).1) (λ (n : List ℕ × Tokens) (g : ((family_at a).1 ≡ Name n.0 ∷ n.1) × (is_reserved n.0 ≡ false)).
    then_sound (block_sound ItemIs is_block fits with_item table_step table_stepped no_items n.1)
    (λ (x : TableBody × Tokens) (h : (b : Tokens) × (xs : List Item) × (n.1 ≡ Symbol Open ∷ b) × Listed ItemIs is_block xs b (Symbol Close ∷ x.1) × Folds fits with_item no_items xs x.0 × (length x.1 < length n.1)).
    let last = items_fold h.1 no_items x.0 h.4 in
    let behind = subst (λ (u : Tokens). FamilyIs (family_at a).0 a u) (g.0 ∙ ap (λ (u : Tokens). Name n.0 ∷ u) h.2) f in
    just {x = (record { line = tt; family = (family_at a).0; name = n.0; sets = x.0.sets; chains = x.0.chains }, x.1)}
    ((a, h.0, h.1, e, behind, g.1, h.3, ap (λ (t : TableBody). t.sets) last, ap (λ (t : TableBody). t.chains) last), omega (arith, ap length e, ap length g.0, l, h.5))))

family_read : (f : Family) (a : Tokens) → keyword_at family_words (Name (family_name f) ∷ a) ≡ Some (f, a)
unfolding keyword_at keyword_of next_at
family_read Ip a = refl
family_read Inet a = refl

-- a name that a table may have is no family
no_family : (n : List ℕ) (a : Tokens) → is_reserved n ≡ false → keyword_at family_words (Name n ∷ a) ≡ None
unfolding keyword_at keyword_of next_at
no_family n a e =
    let ip = bytes_eq n (codes "ip") in
    let inet = ip || bytes_eq n (codes "inet") in
    let ip6 = inet || bytes_eq n (codes "ip6") in
    let arp = ip6 || bytes_eq n (codes "arp") in
    let bridge = arp || bytes_eq n (codes "bridge") in
    let h4 = or_parts bridge (bytes_eq n (codes "netdev")) e in
    let h3 = or_parts arp (bytes_eq n (codes "bridge")) h4.0 in
    let h2 = or_parts ip6 (bytes_eq n (codes "arp")) h3.0 in
    let h1 = or_parts inet (bytes_eq n (codes "ip6")) h2.0 in
    let h0 = or_parts ip (bytes_eq n (codes "inet")) h1.0 in
    rw (h0.0, h0.1) refl

family_complete : (f : Family) (ts : Tokens) (n : List ℕ) (a : Tokens) → is_reserved n ≡ false → FamilyIs f ts (Name n ∷ a) → family_at ts ≡ (f, Name n ∷ a)
unfolding family_at
family_complete Ip ts n a r (inl e) = ap family_at e ∙ rw (no_family n a r) refl
family_complete Ip ts n a r (inr e) = ap family_at e ∙ rw (family_read Ip (Name n ∷ a)) refl
family_complete Inet ts n a r e = ap family_at e ∙ rw (family_read Inet (Name n ∷ a)) refl

table_complete : (t : Table) (ts rest : Tokens) → TableIs t ts rest → (a : Tokens) × (ts ≡ Name (codes "table") ∷ a) × (table_behind a ≡ Some (t, rest))
unfolding table_behind free_name_at name_at name_of next_at items_body
table_complete t ts rest h =
    let f = family_complete t.family h.0 t.name (Symbol Open ∷ h.1) h.5 h.4 in
    let m = fold_items h.2 no_items in
    let l = items_fold h.2 no_items m.0 m.1 in
    let b = block_complete ItemIs is_block fits with_item table_step table_stepped no_items m.0 h.2 h.1 rest h.6 m.1 in
    (h.0, h.3, rw (f, h.5, b, l, ← h.7, ← h.8) refl)

-- ---- statements

abbrev pub goes : Spelled → Statement → Bool
goes s flush = length s.tables == 0
goes s (table t) = true

abbrev pub with_statement : Spelled → Statement → Spelled
with_statement s flush = s
with_statement s (table t) = record { tables = s.tables ++ t ∷ [] }

abbrev IsStatement : Spelled → Tokens → (Spelled × Bool) × Tokens → Type 0
IsStatement = Taken StatementIs is_table goes with_statement

statement_taken : (s : Spelled) (k : StatementWord) (ts a : Tokens) → ts ≡ Name (statement_name k) ∷ a → Sound (IsStatement s ts) (statement_behind s k a)
unfolding statement_behind flush_behind
statement_taken s sw.Flush ts a e =
    cond_sound (λ (c : (length s.tables == 0) ≡ true).
    then_sound (word_sound (codes "ruleset") a) (λ (rest : Tokens) (f : a ≡ Name (codes "ruleset") ∷ rest).
    just {x = ((s, false), rest)} (record { item = flush; spelled = e ∙ ap (λ (u : Tokens). Name (codes "flush") ∷ u) f; ends = refl; fits = c; body = refl; shrinks = omega (arith, ap length e, ap length f) })))
    (λ _. nothing)
statement_taken s sw.Table ts a e =
    then_sound (table_sound ts a e) (λ (t : Table × Tokens) (h : Takes TableIs ts t).
    just {x = ((record { tables = s.tables ++ t.0 ∷ [] }, true), t.1)} (record { item = table t.0; spelled = h.0; ends = refl; fits = refl; body = refl; shrinks = h.1 }))

text_taken : (s : Spelled) (ts : Tokens) → Sound (IsStatement s ts) (text_step s ts)
unfolding text_step
text_taken s ts = then_sound (keyword_sound statement_name statement_words (refl, (refl, tt)) ts) (λ (k : StatementWord × Tokens) (e : ts ≡ Name (statement_name k.0) ∷ k.1). statement_taken s k.0 ts k.1 e)

statement_given : (s : Spelled) (x : Statement) (ts rest : Tokens) → StatementIs x ts rest → goes s x ≡ true → text_step s ts ≡ Some ((with_statement s x, is_table x), rest)
unfolding text_step statement_behind flush_behind keyword_at keyword_of word_at word_of next_at
statement_given s flush ts rest h f = ap (text_step s) h ∙ rw f refl
statement_given s (table t) ts rest h f =
    let k = table_complete t ts rest h in
    ap (text_step s) k.1 ∙ rw k.2 refl

statement_first : (x : Statement) (ts rest : Tokens) → StatementIs x ts rest → begins_name ts ≡ true
statement_first flush ts rest h = ap begins_name h
statement_first (table t) ts rest h = ap begins_name h.3

text_stepped : Stepped StatementIs is_table goes with_statement text_step
text_stepped = record {
  sound = text_taken;
  complete = λ s x ts rest h f e. statement_given s x ts rest h f;
  opens = statement_first;
}

-- ---- the statements of a text, in their order

not_empty : (tables : List Table) (t : Table) → (length (tables ++ t ∷ []) == 0) ≡ false
not_empty [] t = refl
not_empty (x ∷ tables) t = eqb-suc-zero (length (tables ++ t ∷ []))

IsTables : List Statement → Spelled → Spelled → Type 0
IsTables xs s last = (tables : List Table) × (xs ≡ map table tables) × (last ≡ record { tables = s.tables ++ tables })

tables_fold : (xs : List Statement) (s last : Spelled) → (length s.tables == 0) ≡ false → Folds goes with_statement s xs last → IsTables xs s last
unfolding IsTables
tables_fold [] s last n h = ([], refl, h ∙ ap (λ (ts : List Table). record { tables = ts }) (sym (append-nil s.tables)))
tables_fold (flush ∷ xs) s last n h = absurd (let e = h.0 in cc)
tables_fold (table t ∷ xs) s last n h =
    let k = tables_fold xs (with_statement s (table t)) last (not_empty s.tables t) h.1 in
    (t ∷ k.0, ap (λ (ys : List Statement). table t ∷ ys) k.1, k.2 ∙ ap (λ (ts : List Table). record { tables = ts }) (append_assoc s.tables (t ∷ []) k.0))

fold_tables : (tables : List Table) (s : Spelled) → Folds goes with_statement s (map table tables) (record { tables = s.tables ++ tables })
fold_tables [] s = ap (λ (ts : List Table). record { tables = ts }) (append-nil s.tables)
fold_tables (t ∷ tables) s = (refl, subst (λ (ts : List Table). Folds goes with_statement (with_statement s (table t)) (map table tables) (record { tables = ts })) (append_assoc s.tables (t ∷ []) tables) (fold_tables tables (with_statement s (table t))))

abbrev no_tables : Spelled
no_tables = record { tables = [] }

statements_sound : (xs : List Statement) (last : Spelled) → Folds goes with_statement no_tables xs last → AreStatements xs last.tables
unfolding IsTables
statements_sound [] last h = ap (λ (s : Spelled). map table s.tables) (sym h)
statements_sound (flush ∷ xs) last h = statements_sound xs last h.1
statements_sound (table t ∷ xs) last h =
    let k = tables_fold xs (with_statement no_tables (table t)) last refl h.1 in
    ap (λ (ys : List Statement). table t ∷ ys) k.1 ∙ sym (ap (λ (s : Spelled). map table s.tables) k.2)

statements_complete : (xs : List Statement) (tables : List Table) → AreStatements xs tables → Folds goes with_statement no_tables xs (record { tables = tables })
statements_complete (flush ∷ xs) tables h = (refl, statements_complete xs tables h)
statements_complete [] tables h = subst (λ (ys : List Statement). Folds goes with_statement no_tables ys (record { tables = tables })) (sym h) (fold_tables tables no_tables)
statements_complete (table t ∷ xs) tables h = subst (λ (ys : List Statement). Folds goes with_statement no_tables ys (record { tables = tables })) (sym h) (fold_tables tables no_tables)

-- ---- texts

pub text_sound : (ts : Tokens) → Sound (λ (r : Spelled). Spells r ts) (text_at ts)
unfolding text_at
text_sound ts =
    then_sound (list_sound StatementIs is_table goes with_statement text_step text_stepped (suc (length ts)) no_tables ts) (λ (x : Spelled × Tokens) (h : IsList StatementIs is_table goes with_statement no_tables ts x).
    cond_sound (λ (c : (length x.1 == 0) ≡ true).
    let nothing_left : x.1 ≡ [] = nil_from_length x.1 (eqb-true (length x.1) 0 c) in
    just {x = x.0} (h.items, subst (λ (u : Tokens). Listed StatementIs is_table h.items ts u) nothing_left h.listed, statements_sound h.items x.0 h.folds))
    (λ _. nothing))

pub text_complete : (ts : Tokens) (r : Spelled) → Spells r ts → text_at ts ≡ Some r
unfolding text_at
text_complete ts r h = rw (list_complete StatementIs is_table goes with_statement text_step text_stepped h.0 (suc (length ts)) no_tables r ts [] h.1 (statements_complete h.0 r.tables h.2) refl (omega arith)) refl

abbrev some_rules : Spelled → Option Spelled
some_rules r = Some r

pub same_rules : (a b : Spelled) → some_rules a ≡ some_rules b → a ≡ b
same_rules a b e = cc

pub one_ruleset : (ts : Tokens) (a b : Spelled) → Spells a ts → Spells b ts → a ≡ b
one_ruleset ts a b g h = same_rules a b (sym (text_complete ts a g) ∙ text_complete ts b h)

pub is_found : (r : Result Spelled ReadError) (ts : Tokens) → Answers r (text_at ts) → IfOk r (λ x. Spells x ts)
is_found (Ok x) ts h = (text_sound ts).so x h
is_found (Err e) ts h = tt
