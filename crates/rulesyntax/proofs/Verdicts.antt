-- Verdicts, pairs and flags: reading and spelling are one.
use Rattle.std.proofs.Common.{◌≡◌, ℕ, true, List, ◌∷◌, length, Option, Some, refl, ap, subst, ◌∙◌, arith}
use Rattle.std.specs.Prelude.{codes}
use Rattle.ruletokens.specs.declared.token.Token.TheVariants.{Name, Symbol}
use Rattle.ruletokens.specs.declared.token.Symbol.TheVariants.{Colon}
use Rattle.rulesyntax.specs.declared.keyword.VerdictWord.{VerdictWord}
use Rattle.rulesyntax.specs.declared.keyword.VerdictWord.TheVariants as w
use Rattle.rulesyntax.specs.declared.keyword.Flag.{Flag}
use Rattle.rulesyntax.specs.declared.keyword.Flag.TheVariants as flag
use Rattle.ruletree.specs.declared.tree.Verdict.{Verdict}
use Rattle.ruletree.specs.declared.tree.Verdict.TheVariants.{Accept, Drop, Return, Continue, Jump, Goto}
use Rattle.ruletree.specs.declared.tree.Element.{Element}
use Rattle.ruletree.specs.declared.tree.Pair.{Pair}
use Rattle.rulesyntax.specs.Names.{flag_name}
use Rattle.rulesyntax.specs.Words.{verdict_words, flag_words, verdict_name}
use Rattle.rulesyntax.specs.Grammar.{Tokens, ElementIs, VerdictIs, PairIs, FlagIs}
use Rattle.rulesyntax.specs.Reading.{next_at, name_of, name_at, keyword_of, keyword_at, rank, symbol_of, symbol_at, is_close, verdict_behind, verdict_at, pair_at, flag_at}
use Rattle.rulesyntax.proofs.Sound.{Sound, just, then_sound, name_sound, symbol_sound, keyword_sound}
use Rattle.rulesyntax.proofs.Elements.{Takes, Entered, is_apart, element_sound, element_complete, element_entered}

pub verdict_from : (ts : Tokens) (v : VerdictWord) (a : Tokens) → ts ≡ Name (verdict_name v) ∷ a → Sound (Takes VerdictIs ts) (verdict_behind v a)
unfolding verdict_behind
verdict_from ts w.Accept a e = just {x = (Accept, a)} (e, omega (arith, ap length e))
verdict_from ts w.Drop a e = just {x = (Drop, a)} (e, omega (arith, ap length e))
verdict_from ts w.Return a e = just {x = (Return, a)} (e, omega (arith, ap length e))
verdict_from ts w.Continue a e = just {x = (Continue, a)} (e, omega (arith, ap length e))
verdict_from ts w.Jump a e =
    then_sound (name_sound a) (λ (n : List ℕ × Tokens) (f : a ≡ Name n.0 ∷ n.1).
    just {x = (Jump (record { line = tt; chain = n.0 }), n.1)} (e ∙ ap (λ (u : Tokens). Name (codes "jump") ∷ u) f, omega (arith, ap length e, ap length f)))
verdict_from ts w.Goto a e =
    then_sound (name_sound a) (λ (n : List ℕ × Tokens) (f : a ≡ Name n.0 ∷ n.1).
    just {x = (Goto (record { line = tt; chain = n.0 }), n.1)} (e ∙ ap (λ (u : Tokens). Name (codes "goto") ∷ u) f, omega (arith, ap length e, ap length f)))

pub verdict_keyword : (ts : Tokens) → Sound (λ (k : VerdictWord × Tokens). ts ≡ Name (verdict_name k.0) ∷ k.1) (keyword_at verdict_words ts)
verdict_keyword ts = keyword_sound verdict_name verdict_words (refl, (refl, (refl, (refl, (refl, (refl, tt)))))) ts

verdict_sound : (ts : Tokens) → Sound (Takes VerdictIs ts) (verdict_at ts)
unfolding verdict_at
verdict_sound ts = then_sound (verdict_keyword ts) (λ (k : VerdictWord × Tokens) (e : ts ≡ Name (verdict_name k.0) ∷ k.1). verdict_from ts k.0 k.1 e)

pub verdict_complete : (v : Verdict) (ts rest : Tokens) → VerdictIs v ts rest → verdict_at ts ≡ Some (v, rest)
unfolding verdict_at verdict_behind keyword_at keyword_of next_at name_at name_of
verdict_complete Accept ts rest h = ap verdict_at h
verdict_complete Drop ts rest h = ap verdict_at h
verdict_complete Return ts rest h = ap verdict_at h
verdict_complete Continue ts rest h = ap verdict_at h
verdict_complete (Jump n) ts rest h = ap verdict_at h
verdict_complete (Goto n) ts rest h = ap verdict_at h

pair_sound : (ts : Tokens) → Sound (Takes PairIs ts) (pair_at ts)
unfolding pair_at
pair_sound ts =
    then_sound (element_sound ts) (λ (p : Element × Tokens) (h : Takes ElementIs ts p).
    then_sound (symbol_sound Colon p.1) (λ (a : Tokens) (e : p.1 ≡ Symbol Colon ∷ a).
    then_sound (verdict_sound a) (λ (v : Verdict × Tokens) (k : Takes VerdictIs a v).
    just {x = (record { key = p.0; verdict = v.0 }, v.1)} ((a, subst (λ (u : Tokens). ElementIs p.0 ts u) e h.0, k.0), omega (arith, h.1, k.1, ap length e)))))

pair_complete : (p : Pair) (ts rest : Tokens) → PairIs p ts rest → is_apart rest ≡ true → pair_at ts ≡ Some (p, rest)
unfolding pair_at symbol_at symbol_of next_at rank
pair_complete p ts rest h e = rw (element_complete p.key ts (Symbol Colon ∷ h.0) h.1 refl, verdict_complete p.verdict h.0 rest h.2) refl

pub pair_entered : Entered PairIs pair_at
pair_entered = record {
  sound = pair_sound;
  complete = pair_complete;
  opens = λ p ts rest h. element_entered.opens p.key ts (Symbol Colon ∷ h.0) h.1;
}

flag_sound : (ts : Tokens) → Sound (Takes FlagIs ts) (flag_at ts)
unfolding flag_at
flag_sound ts = longer (keyword_at flag_words ts) (keyword_sound flag_name flag_words (refl, (refl, tt)) ts)
  where
    longer : (o : Option (Flag × Tokens)) → Sound (λ (k : Flag × Tokens). ts ≡ Name (flag_name k.0) ∷ k.1) o → Sound (Takes FlagIs ts) o
    longer o h = record { so = λ k e. (h.so k e, omega (arith, ap length (h.so k e))) }

flag_complete : (f : Flag) (ts rest : Tokens) → FlagIs f ts rest → is_apart rest ≡ true → flag_at ts ≡ Some (f, rest)
unfolding flag_at keyword_at keyword_of next_at
flag_complete flag.Interval ts rest h e = ap flag_at h
flag_complete flag.Constant ts rest h e = ap flag_at h

pub flag_entered : Entered FlagIs flag_at
unfolding is_close
flag_entered = record {
  sound = flag_sound;
  complete = flag_complete;
  opens = λ f ts rest h. ap is_close h;
}
