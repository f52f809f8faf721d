-- Rules: reading and spelling are one.
use Rattle.std.proofs.Common.{◌≡◌, ℕ, zero, suc, ◌<◌, ◌≤◌, Bool, true, false, List, [], ◌∷◌, ◌++◌, length, Option, Some, None, refl, sym, ap, subst, ◌∙◌, append_assoc, arith, inl, inr, ◌⊎◌}
use Rattle.std.specs.Prelude.{codes, nat_le, ◌&&◌}
use Rattle.std.proofs.lemmas.Bool.{leb-true, le-leb}
use Rattle.std.proofs.lemmas.List.{append-nil}
use Rattle.ruletokens.specs.declared.token.Token.TheVariants.{Name, Number, Address, Quoted, Symbol, NewLine}
use Rattle.ruletokens.specs.declared.token.Symbol.TheVariants.{Open, Close, Semicolon, Colon}
use Rattle.rulesyntax.specs.declared.keyword.VerdictWord.{VerdictWord}
use Rattle.rulesyntax.specs.declared.keyword.NatWord.{NatWord}
use Rattle.rulesyntax.specs.declared.keyword.NatWord.TheVariants as w
use Rattle.rulesyntax.specs.declared.rule.Part as read
use Rattle.rulesyntax.specs.declared.rule.Part.TheVariants as part
use Rattle.rulesyntax.specs.declared.rule.Parts.{Parts}
use Rattle.ruletree.specs.declared.tree.Head.{Head}
use Rattle.ruletree.specs.declared.tree.Match.{Match}
use Rattle.ruletree.specs.declared.tree.Verdict.{Verdict}
use Rattle.ruletree.specs.declared.tree.Verdict.TheVariants.{Accept, Drop, Return, Continue, Jump, Goto}
use Rattle.ruletree.specs.declared.tree.Pair.{Pair}
use Rattle.ruletree.specs.declared.tree.Vmap.{Vmap}
use Rattle.ruletree.specs.declared.tree.End.{End}
use Rattle.ruletree.specs.declared.tree.End.TheVariants as end
use Rattle.ruletree.specs.declared.tree.Rule.{Rule}
use Rattle.ruletree.specs.declared.tree.Head.TheVariants.{Iifname, Oifname, Saddr, Daddr, Protocol, Sport, Dport, State}
use Rattle.ruletree.specs.declared.tree.Transport.TheVariants.{Tcp, Udp}
use Rattle.rulesyntax.specs.Words.{member_words, verdict_words, nat_words, verdict_name, nat_name}
use Rattle.rulesyntax.specs.Grammar.{Tokens, CommentIs, Each, CounterIs, Part, counter, test, PartIs, matches_of, HeadIs, VerdictIs, PairIs, VmapIs, ToIs, PortIs, EndIs, MayEnd, MatchIs, IsSaid, RuleIs}
use Rattle.rulesyntax.specs.Reading.{next_at, number_of, number_at, address_of, address_at, name_of, name_at, quoted_of, quoted_at, word_of, word_at, rank, symbol_of, symbol_at, keyword_of, keyword_at, verdict_behind, head_at, pair_at, amounts_behind, counter_behind, begins_head, begins_word, begins_vmap, begins_part, part_at, with_part, parts_from, no_parts, vmap_at, to_at, port_behind, port_at, dnat_behind, snat_behind, nat_behind, wrapped, verdict_end, vmap_end, end_at, comment_at, is_said, rule_at, closes}
use Rattle.rulesyntax.proofs.Sound.{Sound, just, nothing, weaker, then_sound, if_sound, cond_sound, number_sound, address_sound, quoted_sound, word_sound, symbol_sound, keyword_sound}
use Rattle.rulesyntax.proofs.Elements.{Takes, Within, braced_sound, braced_complete}
use Rattle.rulesyntax.proofs.Verdicts.{verdict_from, verdict_keyword, pair_entered}
use Rattle.rulesyntax.proofs.Heads.{begins_name, head_sound, head_complete}
use Rattle.rulesyntax.proofs.Matches.{is_calm, match_sound, match_complete, match_no_vmap}

-- ---- counters

amounts_from : (ts a : Tokens) → ts ≡ Name (codes "counter") ∷ Name (codes "packets") ∷ a → Sound (λ (rest : Tokens). CounterIs ts rest × (length rest < length ts)) (amounts_behind a)
unfolding amounts_behind
amounts_from ts a e =
    then_sound (number_sound a) (λ (p : ℕ × Tokens) (f : a ≡ Number p.0 ∷ p.1).
    then_sound (word_sound (codes "bytes") p.1) (λ (b : Tokens) (g : p.1 ≡ Name (codes "bytes") ∷ b).
    then_sound (number_sound b) (λ (q : ℕ × Tokens) (h : b ≡ Number q.0 ∷ q.1).
    just {x = q.1} (
      inr (p.0, q.0, e ∙ ap (λ (u : Tokens). Name (codes "counter") ∷ Name (codes "packets") ∷ u) (f ∙ ap (λ (u : Tokens). Number p.0 ∷ u) (g ∙ ap (λ (u : Tokens). Name (codes "bytes") ∷ u) h))),
      omega (arith, ap length e, ap length f, ap length g, ap length h),
    ))))

counter_from : (ts a : Tokens) → ts ≡ Name (codes "counter") ∷ a → Sound (λ (rest : Tokens). CounterIs ts rest × (length rest < length ts)) (counter_behind a)
unfolding counter_behind
counter_from ts a e =
    if_sound (word_sound (codes "packets") a) (λ (b : Tokens) (f : a ≡ Name (codes "packets") ∷ b). amounts_from ts b (e ∙ ap (λ (u : Tokens). Name (codes "counter") ∷ u) f))
    (just {x = a} (inl e, omega (arith, ap length e)))

counter_complete : (ts a rest : Tokens) → CounterIs ts rest → word_at (codes "packets") rest ≡ None → ts ≡ Name (codes "counter") ∷ a → counter_behind a ≡ Some rest
unfolding counter_behind amounts_behind number_at number_of word_at word_of next_at
counter_complete ts a rest (inl h) e f =
    let k : a ≡ rest = let g = sym f ∙ h in cc in
    rw (k, e) refl
counter_complete ts a rest (inr h) e f =
    let k : a ≡ Name (codes "packets") ∷ Number h.0 ∷ Name (codes "bytes") ∷ Number h.1 ∷ rest = let g = sym f ∙ h.2 in cc in
    ap counter_behind k

-- ---- parts

part_of : read.Part → Part
part_of part.Counter = counter
part_of (part.Match m) = test m

to_part : Part → read.Part
to_part counter = part.Counter
to_part (test m) = part.Match m

part_sound : (ts : Tokens) → Sound (λ (p : read.Part × Tokens). PartIs (part_of p.0) ts p.1 × (length p.1 < length ts)) (part_at ts)
unfolding part_at part_of
part_sound ts =
    if_sound (word_sound (codes "counter") ts) (λ (a : Tokens) (e : ts ≡ Name (codes "counter") ∷ a).
    then_sound (counter_from ts a e) (λ (rest : Tokens) (h : CounterIs ts rest × (length rest < length ts)). just {x = (part.Counter, rest)} h))
    (then_sound (match_sound ts) (λ (m : Match × Tokens) (h : Takes MatchIs ts m). just {x = (part.Match m.0, m.1)} h))

-- what stands behind a part
record IsBehindPart (ts : Tokens) : Type 0 where
  calm : is_calm ts ≡ true
  packets : word_at (codes "packets") ts ≡ None

-- what stands behind all of them
record IsBehindParts (ts : Tokens) : Type 0 where
  calm : is_calm ts ≡ true
  packets : word_at (codes "packets") ts ≡ None
  part : begins_part ts ≡ false

name_calm : (ts : Tokens) → begins_name ts ≡ true → is_calm ts ≡ true
name_calm [] e = absurd cc
name_calm (Name n ∷ ts) e = refl
name_calm (t ∷ ts) e = absurd cc

behind_counter : (ts rest : Tokens) → CounterIs ts rest → (begins_name ts ≡ true) × IsBehindPart ts × (begins_part ts ≡ true)
unfolding word_at word_of next_at begins_part begins_word
behind_counter ts rest (inl e) = (ap begins_name e, record { calm = ap is_calm e; packets = ap (word_at (codes "packets")) e }, ap begins_part e)
behind_counter ts rest (inr h) = (ap begins_name h.2, record { calm = ap is_calm h.2; packets = ap (word_at (codes "packets")) h.2 }, ap begins_part h.2)

behind_match : (m : Match) (ts rest : Tokens) → MatchIs m ts rest → (begins_name ts ≡ true) × IsBehindPart ts × (begins_part ts ≡ true)
unfolding begins_part begins_word
behind_match m ts rest h =
    let k = head_complete m.head ts h.0 h.2 in
    (k.name, record { calm = name_calm ts k.name; packets = k.packets }, rw (k.counter, k.head, match_no_vmap m ts rest h) refl)

part_begins : (x : Part) (ts rest : Tokens) → PartIs x ts rest → (begins_name ts ≡ true) × IsBehindPart ts × (begins_part ts ≡ true)
part_begins counter ts rest h = behind_counter ts rest h
part_begins (test m) ts rest h = behind_match m ts rest h

part_complete : (x : Part) (ts rest : Tokens) → PartIs x ts rest → IsBehindPart rest → part_at ts ≡ Some (to_part x, rest)
unfolding part_at to_part word_at word_of next_at
part_complete counter ts rest (inl h) b = ap part_at h ∙ rw (counter_complete (Name (codes "counter") ∷ rest) rest rest (inl refl) b.packets refl) refl
part_complete counter ts rest (inr h) b = ap part_at h.2 ∙ rw (counter_complete _ _ rest (inr (h.0, h.1, refl)) b.packets refl) refl
part_complete (test m) ts rest h b =
    let k = head_complete m.head ts h.0 h.2 in
    let c : word_at (codes "counter") ts ≡ None = k.counter in
    no_counter c
  where
    no_counter : word_at (codes "counter") ts ≡ None → part_at ts ≡ Some (part.Match m, rest)
    no_counter c = rw (c, match_complete m ts rest h b.calm) refl

any_of : Bool → List Part → Bool
any_of b [] = b
any_of b (x ∷ xs) = true

any_true : (xs : List Part) → any_of true xs ≡ true
unfolding any_of
any_true [] = refl
any_true (x ∷ xs) = refl

with_any : (ps : Parts) (x : read.Part) → (with_part ps x).any ≡ true
with_any ps part.Counter = refl
with_any ps (part.Match m) = refl

with_matches : (ps : Parts) (x : read.Part) (xs : List Part) → (with_part ps x).matches ++ matches_of xs ≡ ps.matches ++ matches_of (part_of x ∷ xs)
unfolding part_of
with_matches ps part.Counter xs = refl
with_matches ps (part.Match m) xs = append_assoc ps.matches (m ∷ []) (matches_of xs)

Shrunk : List Part → Tokens → Tokens → Type 0
Shrunk [] ts rest = length rest ≤ length ts
Shrunk (x ∷ xs) ts rest = length rest < length ts

weak_shrunk : (xs : List Part) (ts rest : Tokens) → Shrunk xs ts rest → length rest ≤ length ts
unfolding Shrunk
weak_shrunk [] ts rest h = h
weak_shrunk (x ∷ xs) ts rest h = omega arith

AreParts : Parts → Tokens → Parts × Tokens → Type 0
AreParts ps ts q = (xs : List Part) × Each PartIs xs ts q.1 × (q.0.matches ≡ ps.matches ++ matches_of xs) × (q.0.any ≡ any_of ps.any xs) × Shrunk xs ts q.1

parts_sound : (n : ℕ) (ps : Parts) (ts : Tokens) → Sound (AreParts ps ts) (parts_from n ps ts)
unfolding parts_from AreParts any_of Shrunk
parts_sound zero ps ts = nothing
parts_sound (suc n) ps ts =
    cond_sound
    (λ _. then_sound (part_sound ts) (λ (p : read.Part × Tokens) (h : PartIs (part_of p.0) ts p.1 × (length p.1 < length ts)).
    weaker (parts_sound n (with_part ps p.0) p.1) (λ (q : Parts × Tokens) (k : AreParts (with_part ps p.0) p.1 q).
    let s : length q.1 ≤ length p.1 = weak_shrunk k.0 p.1 q.1 k.4 in
    (part_of p.0 ∷ k.0, (p.1, h.0, k.1), k.2 ∙ with_matches ps p.0 k.0, k.3 ∙ ap (λ (b : Bool). any_of b k.0) (with_any ps p.0) ∙ any_true k.0, omega (arith, h.1)))))
    (λ _. just {x = (ps, ts)} ([], refl, sym (append-nil ps.matches), refl, omega arith))

added : Parts → List Part → Parts
added ps [] = ps
added ps (x ∷ xs) = added (with_part ps (to_part x)) xs

added_matches : (xs : List Part) (ps : Parts) → (added ps xs).matches ≡ ps.matches ++ matches_of xs
unfolding added to_part
added_matches [] ps = sym (append-nil ps.matches)
added_matches (counter ∷ xs) ps = added_matches xs (with_part ps part.Counter)
added_matches (test m ∷ xs) ps = added_matches xs (with_part ps (part.Match m)) ∙ append_assoc ps.matches (m ∷ []) (matches_of xs)

added_any : (xs : List Part) (ps : Parts) → (added ps xs).any ≡ any_of ps.any xs
unfolding added any_of to_part
added_any [] ps = refl
added_any (counter ∷ xs) ps = added_any xs (with_part ps part.Counter) ∙ any_true xs
added_any (test m ∷ xs) ps = added_any xs (with_part ps (part.Match m)) ∙ any_true xs

each_behind : (xs : List Part) (ts rest : Tokens) → Each PartIs xs ts rest → IsBehindParts rest → IsBehindPart ts
each_behind [] ts rest h b = subst (λ (u : Tokens). IsBehindPart u) (sym h) (record { calm = b.calm; packets = b.packets })
each_behind (x ∷ xs) ts rest h b = (part_begins x ts h.0 h.1).1

parts_complete : (xs : List Part) (n : ℕ) (ps : Parts) (ts rest : Tokens) → Each PartIs xs ts rest → IsBehindParts rest → length ts < n → parts_from n ps ts ≡ Some (added ps xs, rest)
unfolding parts_from added
parts_complete xs zero ps ts rest h b lt = absurd (omega arith)
parts_complete [] (suc n) ps ts rest h b lt = rw (h, b.part) refl
parts_complete (x ∷ xs) (suc n) ps ts rest h b lt =
    let c = part_complete x ts h.0 h.1 (each_behind xs h.0 rest h.2 b) in
    let s : length h.0 < n = omega (arith, ((part_sound ts).so (to_part x, h.0) c).1) in
    rw ((part_begins x ts h.0 h.1).2, c) (parts_complete xs n (with_part ps (to_part x)) h.0 rest h.2 b s)

-- ---- ends

vmap_sound : (ts : Tokens) → Sound (Takes VmapIs ts) (vmap_at ts)
unfolding vmap_at
vmap_sound ts =
    then_sound (head_sound ts) (λ (h : Head × Tokens) (k : Takes HeadIs ts h).
    then_sound (word_sound (codes "vmap") h.1) (λ (a : Tokens) (e : h.1 ≡ Name (codes "vmap") ∷ a).
    then_sound (symbol_sound Open a) (λ (b : Tokens) (f : a ≡ Symbol Open ∷ b).
    then_sound (braced_sound PairIs pair_at pair_entered b) (λ (ps : List Pair × Tokens) (l : Within PairIs b ps).
    just {x = (record { line = tt; head = h.0; pairs = ps.0 }, ps.1)} ((a, subst (λ (u : Tokens). HeadIs h.0 ts u) e k.0, (b, f, l.0)), omega (arith, k.1, ap length e, ap length f, l.1))))))

IsTo : Tokens → Tokens → Type 0
IsTo a u = (a ≡ Name (codes "to") ∷ u) ⊎ (a ≡ Name (codes "ip") ∷ Name (codes "to") ∷ u)

to_sound : (a : Tokens) → Sound (IsTo a) (to_at a)
unfolding to_at IsTo
to_sound a =
    if_sound (word_sound (codes "ip") a) (λ (b : Tokens) (e : a ≡ Name (codes "ip") ∷ b).
    weaker (word_sound (codes "to") b) (λ (u : Tokens) (f : b ≡ Name (codes "to") ∷ u). inr (e ∙ ap (λ (v : Tokens). Name (codes "ip") ∷ v) f)))
    (weaker (word_sound (codes "to") a) (λ (u : Tokens) (f : a ≡ Name (codes "to") ∷ u). inl f))

to_address : (a u : Tokens) (x : ℕ) (rest : Tokens) → IsTo a u → u ≡ Address x ∷ rest → ToIs x a rest × (length rest < length a)
unfolding IsTo
to_address a u x rest (inl e) f = (inl (e ∙ ap (λ (v : Tokens). Name (codes "to") ∷ v) f), omega (arith, ap length e, ap length f))
to_address a u x rest (inr e) f = (inr (e ∙ ap (λ (v : Tokens). Name (codes "ip") ∷ Name (codes "to") ∷ v) f), omega (arith, ap length e, ap length f))

to_complete : (a : Tokens) (x : ℕ) (rest : Tokens) → ToIs x a rest → to_at a ≡ Some (Address x ∷ rest)
unfolding to_at word_at word_of next_at
to_complete a x rest (inl e) = ap to_at e
to_complete a x rest (inr e) = ap to_at e

port_sound : (ts : Tokens) → Sound (λ (p : Option ℕ × Tokens). PortIs p.0 ts p.1 × (length p.1 ≤ length ts)) (port_at ts)
unfolding port_at port_behind
port_sound ts =
    if_sound (symbol_sound Colon ts) (λ (a : Tokens) (e : ts ≡ Symbol Colon ∷ a).
    then_sound (number_sound a) (λ (n : ℕ × Tokens) (f : a ≡ Number n.0 ∷ n.1).
    cond_sound (λ (b : (nat_le 1 n.0 && nat_le n.0 65535) ≡ true).
    just {x = (Some n.0, n.1)} ((e ∙ ap (λ (u : Tokens). Symbol Colon ∷ u) f, leb-true 1 n.0 (both (nat_le 1 n.0) (nat_le n.0 65535) b).0, leb-true n.0 65535 (both (nat_le 1 n.0) (nat_le n.0 65535) b).1), omega (arith, ap length e, ap length f)))
    (λ _. nothing)))
    (just {x = (None, ts)} (refl, omega arith))
  where
    both : (a b : Bool) → (a && b) ≡ true → (a ≡ true) × (b ≡ true)
    both true b e = (refl, e)
    both false b e = absurd cc

port_complete : (p : Option ℕ) (ts rest : Tokens) → PortIs p ts rest → symbol_at Colon rest ≡ None → port_at ts ≡ Some (p, rest)
unfolding port_at port_behind symbol_at symbol_of next_at rank number_at number_of
port_complete None ts rest h e = ap port_at h ∙ rw e refl
port_complete (Some n) ts rest h e = ap port_at h.0 ∙ rw (le-leb 1 n h.1, le-leb n 65535 h.2) refl

nat_from : (ts : Tokens) (k : NatWord) (a : Tokens) → ts ≡ Name (nat_name k) ∷ a → Sound (Takes EndIs ts) (nat_behind k a)
unfolding nat_behind dnat_behind snat_behind
nat_from ts w.Dnat a e =
    then_sound (to_sound a) (λ (u : Tokens) (h : IsTo a u).
    then_sound (address_sound u) (λ (x : ℕ × Tokens) (f : u ≡ Address x.0 ∷ x.1).
    then_sound (port_sound x.1) (λ (p : Option ℕ × Tokens) (k : PortIs p.0 x.1 p.1 × (length p.1 ≤ length x.1)).
    just {x = (end.Dnat (record { line = tt; address_line = tt; address = x.0; port = p.0 }), p.1)} ((a, x.1, e, (to_address a u x.0 x.1 h f).0, k.0), omega (arith, ap length e, (to_address a u x.0 x.1 h f).1, k.1)))))
nat_from ts w.Snat a e =
    then_sound (to_sound a) (λ (u : Tokens) (h : IsTo a u).
    then_sound (address_sound u) (λ (x : ℕ × Tokens) (f : u ≡ Address x.0 ∷ x.1).
    just {x = (end.Snat (record { line = tt; address_line = tt; address = x.0 }), x.1)} ((a, e, (to_address a u x.0 x.1 h f).0), omega (arith, ap length e, (to_address a u x.0 x.1 h f).1))))
nat_from ts w.Masquerade a e = just {x = (end.Masquerade tt, a)} (e, omega (arith, ap length e))

EndShrunk : Option End → Tokens → Tokens → Type 0
EndShrunk None ts rest = length rest ≤ length ts
EndShrunk (Some e) ts rest = length rest < length ts

Ends : Tokens → Option End × Tokens → Type 0
Ends ts p = MayEnd p.0 ts p.1 × EndShrunk p.0 ts p.1

wrapped_sound : (ts : Tokens) (o : Option (End × Tokens)) → Sound (Takes EndIs ts) o → Sound (Ends ts) (wrapped o)
unfolding wrapped Ends EndShrunk
wrapped_sound ts o h = then_sound h (λ (e : End × Tokens) (k : Takes EndIs ts e). just {x = (Some e.0, e.1)} k)

verdict_ends : (ts : Tokens) (k : VerdictWord) (a : Tokens) → ts ≡ Name (verdict_name k) ∷ a → Sound (Takes EndIs ts) (verdict_end k a)
unfolding verdict_end
verdict_ends ts k a e = then_sound (verdict_from ts k a e) (λ (v : Verdict × Tokens) (h : Takes VerdictIs ts v). just {x = (end.Verdict v.0, v.1)} h)

vmap_ends : (ts : Tokens) → Sound (Takes EndIs ts) (vmap_end ts)
unfolding vmap_end
vmap_ends ts = then_sound (vmap_sound ts) (λ (v : Vmap × Tokens) (h : Takes VmapIs ts v). just {x = (end.Vmap v.0, v.1)} h)

end_sound : (ts : Tokens) → Sound (Ends ts) (end_at ts)
unfolding end_at Ends EndShrunk
end_sound ts =
    if_sound (verdict_keyword ts) (λ (k : VerdictWord × Tokens) (e : ts ≡ Name (verdict_name k.0) ∷ k.1). wrapped_sound ts (verdict_end k.0 k.1) (verdict_ends ts k.0 k.1 e))
    (if_sound (keyword_sound nat_name nat_words (refl, (refl, (refl, tt))) ts) (λ (k : NatWord × Tokens) (e : ts ≡ Name (nat_name k.0) ∷ k.1). wrapped_sound ts (nat_behind k.0 k.1) (nat_from ts k.0 k.1 e))
    (cond_sound (λ _. wrapped_sound ts (vmap_end ts) (vmap_ends ts)) (λ _. just {x = (None, ts)} (refl, omega arith))))

-- what stands behind an end
record IsBehindEnd (ts : Tokens) : Type 0 where
  calm : is_calm ts ≡ true
  packets : word_at (codes "packets") ts ≡ None
  part : begins_part ts ≡ false
  verdict : keyword_at verdict_words ts ≡ None
  nat : keyword_at nat_words ts ≡ None
  head : begins_head ts ≡ false
  colon : symbol_at Colon ts ≡ None

-- an end that is read, and that is no part
record IsEnd (e : Option End) (ts rest : Tokens) : Type 0 where
  read : end_at ts ≡ Some (e, rest)
  behind : IsBehindParts ts

moved_end : (e : Option End) (ts a rest : Tokens) → ts ≡ a → IsEnd e a rest → IsEnd e ts rest
moved_end e ts a rest p h = subst (λ (u : Tokens). IsEnd e u rest) (sym p) h

verdict_is_end : (v : Verdict) (ts rest : Tokens) → VerdictIs v ts rest → IsEnd (Some (end.Verdict v)) ts rest
unfolding end_at wrapped verdict_end verdict_behind keyword_at keyword_of next_at name_at name_of word_at word_of begins_part begins_word begins_head begins_vmap head_at
verdict_is_end Accept ts rest h = moved_end _ _ _ _ h (record { read = refl; behind = record { calm = refl; packets = refl; part = refl } })
verdict_is_end Drop ts rest h = moved_end _ _ _ _ h (record { read = refl; behind = record { calm = refl; packets = refl; part = refl } })
verdict_is_end Return ts rest h = moved_end _ _ _ _ h (record { read = refl; behind = record { calm = refl; packets = refl; part = refl } })
verdict_is_end Continue ts rest h = moved_end _ _ _ _ h (record { read = refl; behind = record { calm = refl; packets = refl; part = refl } })
verdict_is_end (Jump t) ts rest h = moved_end _ _ _ _ h (record { read = refl; behind = record { calm = refl; packets = refl; part = refl } })
verdict_is_end (Goto t) ts rest h = moved_end _ _ _ _ h (record { read = refl; behind = record { calm = refl; packets = refl; part = refl } })

vmap_is_end : (v : Vmap) (ts rest : Tokens) → VmapIs v ts rest → IsEnd (Some (end.Vmap v)) ts rest
unfolding end_at wrapped vmap_end vmap_at begins_part begins_word begins_vmap symbol_at symbol_of next_at rank word_at word_of
vmap_is_end v ts rest h =
    let k = head_complete v.head ts (Name (codes "vmap") ∷ h.0) h.1 in
    record {
      read = rw (k.verdict, k.nat, k.head, k.read, h.2.1, braced_complete PairIs pair_at pair_entered v.pairs h.2.0 rest h.2.2) refl;
      behind = record { calm = name_calm ts k.name; packets = k.packets; part = rw (k.counter, k.head, k.read) refl };
    }

dnat_is_end : (d : _) (ts rest : Tokens) → EndIs (end.Dnat d) ts rest → symbol_at Colon rest ≡ None → IsEnd (Some (end.Dnat d)) ts rest
unfolding end_at wrapped nat_behind dnat_behind address_at address_of keyword_at keyword_of next_at word_at word_of begins_part begins_word begins_head begins_vmap head_at
dnat_is_end d ts rest h c = moved_end _ _ _ _ h.2 (record { read = rw (to_complete h.0 d.address h.1 h.3, port_complete d.port h.1 rest h.4 c) refl; behind = record { calm = refl; packets = refl; part = refl } })

snat_is_end : (d : _) (ts rest : Tokens) → EndIs (end.Snat d) ts rest → IsEnd (Some (end.Snat d)) ts rest
unfolding end_at wrapped nat_behind snat_behind address_at address_of keyword_at keyword_of next_at word_at word_of begins_part begins_word begins_head begins_vmap head_at
snat_is_end d ts rest h = moved_end _ _ _ _ h.1 (record { read = rw (to_complete h.0 d.address rest h.2) refl; behind = record { calm = refl; packets = refl; part = refl } })

masquerade_is_end : (ts rest : Tokens) → ts ≡ Name (codes "masquerade") ∷ rest → IsEnd (Some (end.Masquerade tt)) ts rest
unfolding end_at wrapped nat_behind keyword_at keyword_of next_at word_at word_of begins_part begins_word begins_head begins_vmap head_at
masquerade_is_end ts rest h = moved_end _ _ _ _ h (record { read = refl; behind = record { calm = refl; packets = refl; part = refl } })

end_complete : (e : Option End) (ts rest : Tokens) → MayEnd e ts rest → IsBehindEnd rest → IsEnd e ts rest
unfolding end_at
end_complete None ts rest h b = moved_end _ _ _ _ h (record { read = rw (b.verdict, b.nat, b.head) refl; behind = record { calm = b.calm; packets = b.packets; part = b.part } })
end_complete (Some (end.Verdict v)) ts rest h b = verdict_is_end v ts rest h
end_complete (Some (end.Vmap v)) ts rest h b = vmap_is_end v ts rest h
end_complete (Some (end.Dnat d)) ts rest h b = dnat_is_end d ts rest h b.colon
end_complete (Some (end.Snat s)) ts rest h b = snat_is_end s ts rest h
end_complete (Some (end.Masquerade l)) ts rest h b = masquerade_is_end ts rest h

-- ---- comments

pub comment_from : (ts a : Tokens) → ts ≡ Name (codes "comment") ∷ a → Sound (λ (rest : Tokens). CommentIs ts rest × (length rest < length ts)) (quoted_at a)
comment_from ts a e = weaker (quoted_sound a) (λ (rest : Tokens) (h : (q : List ℕ) × (a ≡ Quoted q ∷ rest)). ((h.0, e ∙ ap (λ (u : Tokens). Name (codes "comment") ∷ u) h.1), omega (arith, ap length e, ap length h.1)))

MayComment : Tokens → Tokens → Type 0
MayComment ts rest = (ts ≡ rest) ⊎ CommentIs ts rest

comment_sound : (ts : Tokens) → Sound (λ (rest : Tokens). MayComment ts rest × (length rest ≤ length ts)) (comment_at ts)
unfolding comment_at MayComment
comment_sound ts =
    if_sound (word_sound (codes "comment") ts) (λ (a : Tokens) (e : ts ≡ Name (codes "comment") ∷ a).
    weaker (comment_from ts a e) (λ (rest : Tokens) (h : CommentIs ts rest × (length rest < length ts)). (inr h.0, omega (arith, h.1))))
    (just {x = ts} (inl refl, omega arith))

record IsComment (ts rest : Tokens) : Type 0 where
  read : comment_at ts ≡ Some rest
  behind : IsBehindEnd ts

closed_comment : (ts : Tokens) → closes ts ≡ true → IsComment ts ts
unfolding comment_at keyword_at keyword_of next_at word_at word_of begins_part begins_word begins_head begins_vmap head_at symbol_at symbol_of rank
closed_comment [] e = record { read = refl; behind = record { calm = refl; packets = refl; part = refl; verdict = refl; nat = refl; head = refl; colon = refl } }
closed_comment (Symbol Close ∷ ts) e = record { read = refl; behind = record { calm = refl; packets = refl; part = refl; verdict = refl; nat = refl; head = refl; colon = refl } }
closed_comment (Symbol Semicolon ∷ ts) e = record { read = refl; behind = record { calm = refl; packets = refl; part = refl; verdict = refl; nat = refl; head = refl; colon = refl } }
closed_comment (NewLine ∷ ts) e = record { read = refl; behind = record { calm = refl; packets = refl; part = refl; verdict = refl; nat = refl; head = refl; colon = refl } }
closed_comment (t ∷ ts) e = absurd cc

comment_complete : (ts rest : Tokens) → MayComment ts rest → closes rest ≡ true → IsComment ts rest
unfolding MayComment comment_at quoted_at quoted_of keyword_at keyword_of next_at word_at word_of begins_part begins_word begins_head begins_vmap head_at symbol_at symbol_of rank
comment_complete ts rest (inl h) e = subst (λ (u : Tokens). IsComment u rest) (sym h) (closed_comment rest e)
comment_complete ts rest (inr h) e = subst (λ (u : Tokens). IsComment u rest) (sym h.1) (record { read = refl; behind = record { calm = refl; packets = refl; part = refl; verdict = refl; nat = refl; head = refl; colon = refl } })

-- ---- rules

said_from : (xs : List Part) (e : Option End) (any : Bool) → any ≡ any_of false xs → is_said (record { matches = []; any = any }) e ≡ true → IsSaid xs e
unfolding any_of
said_from [] None any h s = absurd cc
said_from [] (Some e) any h s = tt
said_from (x ∷ xs) None any h s = tt
said_from (x ∷ xs) (Some e) any h s = tt

said_is : (xs : List Part) (e : Option End) (ps : Parts) → ps.any ≡ any_of false xs → IsSaid xs e → is_said ps e ≡ true
unfolding any_of
said_is [] None ps h s = absurd s
said_is [] (Some e) ps h s = refl
said_is (x ∷ xs) None ps h s = h
said_is (x ∷ xs) (Some e) ps h s = refl

rule_shrinks : (xs : List Part) (e : Option End) (ts a b rest : Tokens) → Shrunk xs ts a → EndShrunk e a b → length rest ≤ length b → IsSaid xs e → length rest < length ts
unfolding Shrunk EndShrunk
rule_shrinks [] None ts a b rest h k l s = absurd s
rule_shrinks [] (Some e) ts a b rest h k l s = omega arith
rule_shrinks (x ∷ xs) None ts a b rest h k l s = omega arith
rule_shrinks (x ∷ xs) (Some e) ts a b rest h k l s = omega arith

said_any : (ps : Parts) (e : Option End) → is_said ps e ≡ is_said (record { matches = []; any = ps.any }) e
said_any ps None = refl
said_any ps (Some e) = refl

pub rule_sound : (ts : Tokens) → Sound (Takes RuleIs ts) (rule_at ts)
unfolding rule_at Ends AreParts MayComment
rule_sound ts =
    then_sound (parts_sound (suc (length ts)) no_parts ts) (λ (ps : Parts × Tokens) (h : AreParts no_parts ts ps).
    then_sound (end_sound ps.1) (λ (e : Option End × Tokens) (k : Ends ps.1 e).
    cond_sound (λ (s : is_said ps.0 e.0 ≡ true).
    then_sound (comment_sound e.1) (λ (rest : Tokens) (c : MayComment e.1 rest × (length rest ≤ length e.1)).
    let said : IsSaid h.0 e.0 = said_from h.0 e.0 ps.0.any h.3 (sym (said_any ps.0 e.0) ∙ s) in
    just {x = (record { line = tt; matches = ps.0.matches; end = e.0 }, rest)}
    ((h.0, ps.1, e.1, h.1, k.0, c.0, h.2, said), rule_shrinks h.0 e.0 ts ps.1 e.1 rest h.4 k.1 c.1 said)))
    (λ _. nothing)))

pub rule_complete : (r : Rule) (ts rest : Tokens) → RuleIs r ts rest → closes rest ≡ true → rule_at ts ≡ Some (r, rest)
unfolding rule_at MayComment
rule_complete r ts rest h e =
    let c = comment_complete h.2 rest h.5 e in
    let k = end_complete r.end h.1 h.2 h.4 c.behind in
    let p = parts_complete h.0 (suc (length ts)) no_parts ts h.1 h.3 k.behind (omega arith) in
    let s = said_is h.0 r.end (added no_parts h.0) (added_any h.0 no_parts) h.7 in
    rw (p, k.read, s, c.read) (ap (λ (ms : List Match). Some (record { line = tt; matches = ms; end = r.end }, rest)) (added_matches h.0 no_parts ∙ sym h.6))

-- an end begins with a name
end_name : (e : End) (ts rest : Tokens) → EndIs e ts rest → begins_name ts ≡ true
end_name (end.Verdict Accept) ts rest h = ap begins_name h
end_name (end.Verdict Drop) ts rest h = ap begins_name h
end_name (end.Verdict Return) ts rest h = ap begins_name h
end_name (end.Verdict Continue) ts rest h = ap begins_name h
end_name (end.Verdict (Jump t)) ts rest h = ap begins_name h
end_name (end.Verdict (Goto t)) ts rest h = ap begins_name h
end_name (end.Vmap v) ts rest h = (head_complete v.head ts (Name (codes "vmap") ∷ h.0) h.1).name
end_name (end.Dnat d) ts rest h = ap begins_name h.2
end_name (end.Snat s) ts rest h = ap begins_name h.1
end_name (end.Masquerade l) ts rest h = ap begins_name h

pub rule_name : (r : Rule) (ts rest : Tokens) → RuleIs r ts rest → begins_name ts ≡ true
rule_name r ts rest h = from h.0 r.end h.1 h.3 h.4 h.7
  where
    from : (xs : List Part) (e : Option End) (a : Tokens) → Each PartIs xs ts a → MayEnd e a h.2 → IsSaid xs e → begins_name ts ≡ true
    from [] None a p k s = absurd s
    from [] (Some e) a p k s = ap begins_name p ∙ end_name e a h.2 k
    from (x ∷ xs) e a p k s = (part_begins x ts p.0 p.1).0

-- no rule begins as what may stand before the rules of a chain
pub record IsRule (ts : Tokens) : Type 0 where
  pub member : keyword_at member_words ts ≡ None
  pub policy : word_at (codes "policy") ts ≡ None

moved_rule : (ts a : Tokens) → ts ≡ a → IsRule a → IsRule ts
moved_rule ts a e h = subst (λ (u : Tokens). IsRule u) (sym e) h

head_rule : (h : Head) (ts rest : Tokens) → HeadIs h ts rest → IsRule ts
unfolding keyword_at keyword_of word_at word_of next_at
head_rule Iifname ts rest (inl (inl e)) = moved_rule _ _ e (record { member = refl; policy = refl })
head_rule Iifname ts rest (inl (inr e)) = moved_rule _ _ e (record { member = refl; policy = refl })
head_rule Iifname ts rest (inr (inl e)) = moved_rule _ _ e (record { member = refl; policy = refl })
head_rule Iifname ts rest (inr (inr e)) = moved_rule _ _ e (record { member = refl; policy = refl })
head_rule Oifname ts rest (inl (inl e)) = moved_rule _ _ e (record { member = refl; policy = refl })
head_rule Oifname ts rest (inl (inr e)) = moved_rule _ _ e (record { member = refl; policy = refl })
head_rule Oifname ts rest (inr (inl e)) = moved_rule _ _ e (record { member = refl; policy = refl })
head_rule Oifname ts rest (inr (inr e)) = moved_rule _ _ e (record { member = refl; policy = refl })
head_rule Saddr ts rest e = moved_rule _ _ e (record { member = refl; policy = refl })
head_rule Daddr ts rest e = moved_rule _ _ e (record { member = refl; policy = refl })
head_rule Protocol ts rest (inl e) = moved_rule _ _ e (record { member = refl; policy = refl })
head_rule Protocol ts rest (inr e) = moved_rule _ _ e (record { member = refl; policy = refl })
head_rule (Sport Tcp) ts rest e = moved_rule _ _ e (record { member = refl; policy = refl })
head_rule (Sport Udp) ts rest e = moved_rule _ _ e (record { member = refl; policy = refl })
head_rule (Dport Tcp) ts rest e = moved_rule _ _ e (record { member = refl; policy = refl })
head_rule (Dport Udp) ts rest e = moved_rule _ _ e (record { member = refl; policy = refl })
head_rule State ts rest e = moved_rule _ _ e (record { member = refl; policy = refl })

part_rule : (x : Part) (ts rest : Tokens) → PartIs x ts rest → IsRule ts
unfolding keyword_at keyword_of word_at word_of next_at
part_rule counter ts rest (inl e) = moved_rule _ _ e (record { member = refl; policy = refl })
part_rule counter ts rest (inr h) = moved_rule _ _ h.2 (record { member = refl; policy = refl })
part_rule (test m) ts rest h = head_rule m.head ts h.0 h.2

end_rule : (e : End) (ts rest : Tokens) → EndIs e ts rest → IsRule ts
unfolding keyword_at keyword_of word_at word_of next_at
end_rule (end.Verdict Accept) ts rest h = moved_rule _ _ h (record { member = refl; policy = refl })
end_rule (end.Verdict Drop) ts rest h = moved_rule _ _ h (record { member = refl; policy = refl })
end_rule (end.Verdict Return) ts rest h = moved_rule _ _ h (record { member = refl; policy = refl })
end_rule (end.Verdict Continue) ts rest h = moved_rule _ _ h (record { member = refl; policy = refl })
end_rule (end.Verdict (Jump t)) ts rest h = moved_rule _ _ h (record { member = refl; policy = refl })
end_rule (end.Verdict (Goto t)) ts rest h = moved_rule _ _ h (record { member = refl; policy = refl })
end_rule (end.Vmap v) ts rest h = head_rule v.head ts (Name (codes "vmap") ∷ h.0) h.1
end_rule (end.Dnat d) ts rest h = moved_rule _ _ h.2 (record { member = refl; policy = refl })
end_rule (end.Snat s) ts rest h = moved_rule _ _ h.1 (record { member = refl; policy = refl })
end_rule (end.Masquerade l) ts rest h = moved_rule _ _ h (record { member = refl; policy = refl })

pub no_keyword_rule : (r : Rule) (ts rest : Tokens) → RuleIs r ts rest → IsRule ts
no_keyword_rule r ts rest h = from h.0 r.end h.1 h.3 h.4 h.7
  where
    from : (xs : List Part) (e : Option End) (a : Tokens) → Each PartIs xs ts a → MayEnd e a h.2 → IsSaid xs e → IsRule ts
    from [] None a p k s = absurd s
    from [] (Some e) a p k s = moved_rule ts a p (end_rule e a h.2 k)
    from (x ∷ xs) e a p k s = part_rule x ts p.0 p.1
