-- Sets: reading and spelling are one.
use Rattle.std.proofs.Common.{◌≡◌, ℕ, suc, ◌<◌, Bool, true, false, List, [], ◌∷◌, ◌++◌, length, Some, refl, ap, ◌∙◌, append_assoc, arith}
use Rattle.std.specs.Prelude.{codes}
use Rattle.std.proofs.lemmas.List.{append-nil}
use Rattle.ruletokens.specs.declared.token.Token.TheVariants.{Name, Symbol, NewLine}
use Rattle.ruletokens.specs.declared.token.Symbol.TheVariants.{Open, Close, Semicolon, Equal}
use Rattle.rulesyntax.specs.declared.keyword.Flag.{Flag}
use Rattle.rulesyntax.specs.declared.keyword.LineWord.{LineWord}
use Rattle.rulesyntax.specs.declared.keyword.LineWord.TheVariants as w
use Rattle.rulesyntax.specs.declared.set.SetBody.{SetBody}
use Rattle.ruletree.specs.declared.tree.Element.{Element}
use Rattle.ruletree.specs.declared.tree.Set.{Set}
use Rattle.ruletree.specs.declared.tree.SetType.{SetType}
use Rattle.ruletree.specs.declared.tree.SetElements.{SetElements}
use Rattle.rulesyntax.specs.Words.{line_words, line_name}
use Rattle.rulesyntax.specs.Grammar.{Tokens, Listed, Entries, CommentIs, ElementIs, FlagIs, SetLine, type_line, elements_line, flags_line, merge_line, comment_line, SetLineIs, types_of, elements_of, SetIs}
use Rattle.rulesyntax.specs.Reading.{next_at, name_of, name_at, quoted_of, quoted_at, rank, symbol_of, symbol_at, keyword_of, keyword_at, closes, element_at, flag_at, type_behind, elements_behind, line_behind, set_step, no_lines, set_behind}
use Rattle.rulesyntax.proofs.Sound.{Sound, just, then_sound, name_sound, symbol_sound, keyword_sound}
use Rattle.rulesyntax.proofs.Elements.{Takes, Within, is_apart, is_ended, element_entered, entries_sound, entries_complete, braced_sound, braced_complete}
use Rattle.rulesyntax.proofs.Verdicts.{flag_entered}
use Rattle.rulesyntax.proofs.Heads.{begins_name}
use Rattle.rulesyntax.proofs.Rules.{comment_from}
use Rattle.rulesyntax.proofs.Lists.{Taken, Stepped, Folds, block_sound, block_complete}

abbrev pub fits : SetBody → SetLine → Bool
fits s l = true

abbrev pub with_line : SetBody → SetLine → SetBody
with_line s (type_line t) = record { types = s.types ++ t ∷ []; elements = s.elements }
with_line s (elements_line e) = record { types = s.types; elements = s.elements ++ e ∷ [] }
with_line s (flags_line f) = s
with_line s merge_line = s
with_line s comment_line = s

abbrev IsLine : SetBody → Tokens → (SetBody × Bool) × Tokens → Type 0
IsLine = Taken SetLineIs (λ _. false) fits with_line

line_taken : (s : SetBody) (k : LineWord) (ts a : Tokens) → ts ≡ Name (line_name k) ∷ a → Sound (IsLine s ts) (line_behind s k a)
unfolding line_behind type_behind elements_behind
line_taken s w.Type ts a e =
    then_sound (name_sound a) (λ (n : List ℕ × Tokens) (f : a ≡ Name n.0 ∷ n.1).
    just {x = ((record { types = s.types ++ record { line = tt; name_line = tt; name = n.0 } ∷ []; elements = s.elements }, false), n.1)}
    (record { item = type_line (record { line = tt; name_line = tt; name = n.0 }); spelled = e ∙ ap (λ (u : Tokens). Name (codes "type") ∷ u) f; ends = refl; fits = refl; body = refl; shrinks = omega (arith, ap length e, ap length f) }))
line_taken s w.Flags ts a e =
    then_sound (entries_sound FlagIs flag_at flag_entered false (suc (length a)) a) (λ (fs : List Flag × Tokens) (h : Takes (Entries FlagIs false) a fs).
    just {x = ((s, false), fs.1)} (record { item = flags_line fs.0; spelled = (a, e, h.0); ends = refl; fits = refl; body = refl; shrinks = omega (arith, ap length e, h.1) }))
line_taken s w.AutoMerge ts a e = just {x = ((s, false), a)} (record { item = merge_line; spelled = e; ends = refl; fits = refl; body = refl; shrinks = omega (arith, ap length e) })
line_taken s w.Elements ts a e =
    then_sound (symbol_sound Equal a) (λ (b : Tokens) (f : a ≡ Symbol Equal ∷ b).
    then_sound (symbol_sound Open b) (λ (c : Tokens) (g : b ≡ Symbol Open ∷ c).
    then_sound (braced_sound ElementIs element_at element_entered c) (λ (xs : List Element × Tokens) (h : Within ElementIs c xs).
    just {x = ((record { types = s.types; elements = s.elements ++ record { line = tt; elements = xs.0 } ∷ [] }, false), xs.1)}
    (record { item = elements_line (record { line = tt; elements = xs.0 }); spelled = (b, e ∙ ap (λ (u : Tokens). Name (codes "elements") ∷ u) f, (c, g, h.0)); ends = refl; fits = refl; body = refl; shrinks = omega (arith, ap length e, ap length f, ap length g, h.1) }))))
line_taken s w.Comment ts a e =
    then_sound (comment_from ts a e) (λ (rest : Tokens) (h : CommentIs ts rest × (length rest < length ts)).
    just {x = ((s, false), rest)} (record { item = comment_line; spelled = h.0; ends = refl; fits = refl; body = refl; shrinks = h.1 }))

set_taken : (s : SetBody) (ts : Tokens) → Sound (IsLine s ts) (set_step s ts)
unfolding set_step
set_taken s ts = then_sound (keyword_sound line_name line_words (refl, (refl, (refl, (refl, (refl, tt))))) ts) (λ (k : LineWord × Tokens) (e : ts ≡ Name (line_name k.0) ∷ k.1). line_taken s k.0 ts k.1 e)

closed_ends : (ts : Tokens) → closes ts ≡ true → (is_apart ts ≡ true) × (is_ended false ts ≡ true)
closed_ends [] e = (refl, refl)
closed_ends (Symbol Close ∷ ts) e = (refl, refl)
closed_ends (Symbol Semicolon ∷ ts) e = (refl, refl)
closed_ends (NewLine ∷ ts) e = (refl, refl)
closed_ends (t ∷ ts) e = absurd cc

line_given : (s : SetBody) (l : SetLine) (ts rest : Tokens) → SetLineIs l ts rest → closes rest ≡ true → set_step s ts ≡ Some ((with_line s l, false), rest)
unfolding set_step line_behind type_behind elements_behind keyword_at keyword_of name_at name_of quoted_at quoted_of symbol_at symbol_of next_at rank
line_given s (type_line t) ts rest h e = ap (set_step s) h
line_given s (elements_line x) ts rest h e = ap (set_step s) (h.1 ∙ ap (λ (u : Tokens). Name (codes "elements") ∷ Symbol Equal ∷ u) h.2.1) ∙ rw (braced_complete ElementIs element_at element_entered x.elements h.2.0 rest h.2.2) refl
line_given s (flags_line fs) ts rest h e =
    let c = closed_ends rest e in
    ap (set_step s) h.1 ∙ rw (entries_complete FlagIs flag_at flag_entered false fs (suc (length h.0)) h.0 rest h.2 c.1 c.0 (omega arith)) refl
line_given s merge_line ts rest h e = ap (set_step s) h
line_given s comment_line ts rest h e = ap (set_step s) h.1

line_first : (l : SetLine) (ts rest : Tokens) → SetLineIs l ts rest → begins_name ts ≡ true
line_first (type_line t) ts rest h = ap begins_name h
line_first (elements_line x) ts rest h = ap begins_name h.1
line_first (flags_line fs) ts rest h = ap begins_name h.1
line_first merge_line ts rest h = ap begins_name h
line_first comment_line ts rest h = ap begins_name h.1

set_stepped : Stepped SetLineIs (λ _. false) fits with_line set_step
set_stepped = record {
  sound = set_taken;
  complete = λ s l ts rest h f e. line_given s l ts rest h e;
  opens = line_first;
}

lines_body : List SetLine → SetBody → SetBody
lines_body ls s = record { types = s.types ++ types_of ls; elements = s.elements ++ elements_of ls }

lines_fold : (ls : List SetLine) (s last : SetBody) → Folds fits with_line s ls last → last ≡ lines_body ls s
unfolding lines_body
lines_fold [] s last h = h ∙ rw (append-nil s.types, append-nil s.elements) refl
lines_fold (type_line t ∷ ls) s last h = lines_fold ls (with_line s (type_line t)) last h.1 ∙ ap (λ (ts : List SetType). record { types = ts; elements = s.elements ++ elements_of ls }) (append_assoc s.types (t ∷ []) (types_of ls))
lines_fold (elements_line x ∷ ls) s last h = lines_fold ls (with_line s (elements_line x)) last h.1 ∙ ap (λ (xs : List SetElements). record { types = s.types ++ types_of ls; elements = xs }) (append_assoc s.elements (x ∷ []) (elements_of ls))
lines_fold (flags_line fs ∷ ls) s last h = lines_fold ls s last h.1
lines_fold (merge_line ∷ ls) s last h = lines_fold ls s last h.1
lines_fold (comment_line ∷ ls) s last h = lines_fold ls s last h.1

fold_lines : (ls : List SetLine) (s : SetBody) → (last : SetBody) × Folds fits with_line s ls last
fold_lines [] s = (s, refl)
fold_lines (l ∷ ls) s = let k = fold_lines ls (with_line s l) in (k.0, (refl, k.1))

pub set_sound : (ts a : Tokens) → ts ≡ Name (codes "set") ∷ a → Sound (Takes SetIs ts) (set_behind a)
unfolding set_behind lines_body
set_sound ts a e =
    then_sound (name_sound a) (λ (n : List ℕ × Tokens) (f : a ≡ Name n.0 ∷ n.1).
    then_sound (block_sound SetLineIs (λ _. false) fits with_line set_step set_stepped no_lines n.1)
    (λ (x : SetBody × Tokens) (h : (b : Tokens) × (ls : List SetLine) × (n.1 ≡ Symbol Open ∷ b) × Listed SetLineIs (λ _. false) ls b (Symbol Close ∷ x.1) × Folds fits with_line no_lines ls x.0 × (length x.1 < length n.1)).
    let last = lines_fold h.1 no_lines x.0 h.4 in
    just {x = (record { line = tt; name_line = tt; name = n.0; types = x.0.types; elements = x.0.elements }, x.1)}
    ((h.0, h.1, e ∙ ap (λ (u : Tokens). Name (codes "set") ∷ u) (f ∙ ap (λ (u : Tokens). Name n.0 ∷ u) h.2), h.3, ap (λ (s : SetBody). s.types) last, ap (λ (s : SetBody). s.elements) last), omega (arith, ap length e, ap length f, h.5))))

pub set_complete : (s : Set) (ts rest : Tokens) → SetIs s ts rest → (a : Tokens) × (ts ≡ Name (codes "set") ∷ a) × (set_behind a ≡ Some (s, rest))
unfolding set_behind name_at name_of next_at lines_body
set_complete s ts rest h =
    let m = fold_lines h.1 no_lines in
    let l = lines_fold h.1 no_lines m.0 m.1 in
    let b = block_complete SetLineIs (λ _. false) fits with_line set_step set_stepped no_lines m.0 h.1 h.0 rest h.3 m.1 in
    (_, h.2, rw (b, l, ← h.4, ← h.5) refl)
