-- Heads: reading and spelling are one.
use Rattle.std.proofs.Common.{◌≡◌, ◌<◌, Bool, true, false, ◌∷◌, length, Some, None, refl, sym, ap, subst, ◌∙◌, arith, inl, inr}
use Rattle.std.specs.Prelude.{codes}
use Rattle.ruletokens.specs.declared.token.Token.TheVariants.{Name}
use Rattle.rulesyntax.specs.declared.keyword.HeadWord.{HeadWord}
use Rattle.rulesyntax.specs.declared.keyword.HeadWord.TheVariants as w
use Rattle.rulesyntax.specs.declared.keyword.MetaWord.{MetaWord}
use Rattle.rulesyntax.specs.declared.keyword.MetaWord.TheVariants as meta
use Rattle.rulesyntax.specs.declared.keyword.IpWord.{IpWord}
use Rattle.rulesyntax.specs.declared.keyword.IpWord.TheVariants as ip
use Rattle.rulesyntax.specs.declared.keyword.PortWord.{PortWord}
use Rattle.rulesyntax.specs.declared.keyword.PortWord.TheVariants as port
use Rattle.ruletree.specs.declared.tree.Transport.{Transport}
use Rattle.ruletree.specs.declared.tree.Transport.TheVariants.{Tcp, Udp}
use Rattle.ruletree.specs.declared.tree.Head.{Head}
use Rattle.ruletree.specs.declared.tree.Head.TheVariants.{Iifname, Oifname, Saddr, Daddr, Protocol, Sport, Dport, State}
use Rattle.rulesyntax.specs.Names.{transport_name}
use Rattle.rulesyntax.specs.Words.{head_words, meta_words, ip_words, port_words, verdict_words, nat_words, head_name, meta_name, ip_name, port_name}
use Rattle.rulesyntax.specs.Grammar.{Tokens, HeadIs}
use Rattle.rulesyntax.specs.Reading.{next_at, word_of, word_at, keyword_of, keyword_at, meta_head, ip_head, port_head, head_behind, head_at, begins_head, begins_word}
use Rattle.rulesyntax.proofs.Sound.{Sound, just, then_sound, word_sound, keyword_sound}
use Rattle.rulesyntax.proofs.Elements.{Takes}

meta_is : (k : MetaWord) (ts rest : Tokens) → ts ≡ Name (codes "meta") ∷ Name (meta_name k) ∷ rest → HeadIs (meta_head k) ts rest
unfolding meta_head
meta_is meta.Iifname ts rest e = inl (inr e)
meta_is meta.Iif ts rest e = inr (inr e)
meta_is meta.Oifname ts rest e = inl (inr e)
meta_is meta.Oif ts rest e = inr (inr e)
meta_is meta.L4proto ts rest e = inr e

ip_is : (k : IpWord) (ts rest : Tokens) → ts ≡ Name (codes "ip") ∷ Name (ip_name k) ∷ rest → HeadIs (ip_head k) ts rest
unfolding ip_head
ip_is ip.Saddr ts rest e = e
ip_is ip.Daddr ts rest e = e
ip_is ip.Protocol ts rest e = inl e

port_is : (t : Transport) (k : PortWord) (ts rest : Tokens) → ts ≡ Name (transport_name t) ∷ Name (port_name k) ∷ rest → HeadIs (port_head t k) ts rest
unfolding port_head
port_is t port.Sport ts rest e = e
port_is t port.Dport ts rest e = e

ports_from : (t : Transport) (ts a : Tokens) → ts ≡ Name (transport_name t) ∷ a → Sound (λ (k : PortWord × Tokens). HeadIs (port_head t k.0) ts k.1 × (length k.1 < length ts)) (keyword_at port_words a)
ports_from t ts a e = record {
  so = λ k f.
      let g = (keyword_sound port_name port_words (refl, (refl, tt)) a).so k f in
      (port_is t k.0 ts k.1 (e ∙ ap (λ (u : Tokens). Name (transport_name t) ∷ u) g), omega (arith, ap length e, ap length g));
}

head_from : (ts : Tokens) (k : HeadWord) (a : Tokens) → ts ≡ Name (head_name k) ∷ a → Sound (Takes HeadIs ts) (head_behind k a)
unfolding head_behind
head_from ts w.Meta a e =
    then_sound (keyword_sound meta_name meta_words (refl, (refl, (refl, (refl, (refl, tt))))) a) (λ (k : MetaWord × Tokens) (f : a ≡ Name (meta_name k.0) ∷ k.1).
    just {x = (meta_head k.0, k.1)} (meta_is k.0 ts k.1 (e ∙ ap (λ (u : Tokens). Name (codes "meta") ∷ u) f), omega (arith, ap length e, ap length f)))
head_from ts w.Ip a e =
    then_sound (keyword_sound ip_name ip_words (refl, (refl, (refl, tt))) a) (λ (k : IpWord × Tokens) (f : a ≡ Name (ip_name k.0) ∷ k.1).
    just {x = (ip_head k.0, k.1)} (ip_is k.0 ts k.1 (e ∙ ap (λ (u : Tokens). Name (codes "ip") ∷ u) f), omega (arith, ap length e, ap length f)))
head_from ts w.Tcp a e = then_sound (ports_from Tcp ts a e) (λ (k : PortWord × Tokens) (h : HeadIs (port_head Tcp k.0) ts k.1 × (length k.1 < length ts)). just {x = (port_head Tcp k.0, k.1)} h)
head_from ts w.Udp a e = then_sound (ports_from Udp ts a e) (λ (k : PortWord × Tokens) (h : HeadIs (port_head Udp k.0) ts k.1 × (length k.1 < length ts)). just {x = (port_head Udp k.0, k.1)} h)
head_from ts w.Ct a e =
    then_sound (word_sound (codes "state") a) (λ (u : Tokens) (f : a ≡ Name (codes "state") ∷ u).
    just {x = (State, u)} (e ∙ ap (λ (v : Tokens). Name (codes "ct") ∷ v) f, omega (arith, ap length e, ap length f)))
head_from ts w.Iifname a e = just {x = (Iifname, a)} (inl (inl e), omega (arith, ap length e))
head_from ts w.Iif a e = just {x = (Iifname, a)} (inr (inl e), omega (arith, ap length e))
head_from ts w.Oifname a e = just {x = (Oifname, a)} (inl (inl e), omega (arith, ap length e))
head_from ts w.Oif a e = just {x = (Oifname, a)} (inr (inl e), omega (arith, ap length e))

pub head_sound : (ts : Tokens) → Sound (Takes HeadIs ts) (head_at ts)
unfolding head_at
head_sound ts = then_sound (keyword_sound head_name head_words (refl, (refl, (refl, (refl, (refl, (refl, (refl, (refl, (refl, tt))))))))) ts) (λ (k : HeadWord × Tokens) (e : ts ≡ Name (head_name k.0) ∷ k.1). head_from ts k.0 k.1 e)

-- a name comes first
abbrev pub begins_name : Tokens → Bool
begins_name (Name n ∷ ts) = true
begins_name _ = false

-- how a head is read, and what doesn't begin with it
pub record IsHead (h : Head) (ts rest : Tokens) : Type 0 where
  pub read : head_at ts ≡ Some (h, rest)
  pub head : begins_head ts ≡ true
  pub name : begins_name ts ≡ true
  pub counter : word_at (codes "counter") ts ≡ None
  pub packets : word_at (codes "packets") ts ≡ None
  pub verdict : keyword_at verdict_words ts ≡ None
  pub nat : keyword_at nat_words ts ≡ None

read_head : (h : Head) (ts a rest : Tokens) → ts ≡ a → IsHead h a rest → IsHead h ts rest
read_head h ts a rest e k = subst (λ (u : Tokens). IsHead h u rest) (sym e) k

pub head_complete : (h : Head) (ts rest : Tokens) → HeadIs h ts rest → IsHead h ts rest
unfolding head_at keyword_at keyword_of next_at head_behind meta_head ip_head port_head word_at word_of begins_head begins_word
head_complete Iifname ts rest (inl (inl e)) = read_head _ _ _ _ e (record { read = refl; head = refl; name = refl; counter = refl; packets = refl; verdict = refl; nat = refl })
head_complete Iifname ts rest (inl (inr e)) = read_head _ _ _ _ e (record { read = refl; head = refl; name = refl; counter = refl; packets = refl; verdict = refl; nat = refl })
head_complete Iifname ts rest (inr (inl e)) = read_head _ _ _ _ e (record { read = refl; head = refl; name = refl; counter = refl; packets = refl; verdict = refl; nat = refl })
head_complete Iifname ts rest (inr (inr e)) = read_head _ _ _ _ e (record { read = refl; head = refl; name = refl; counter = refl; packets = refl; verdict = refl; nat = refl })
head_complete Oifname ts rest (inl (inl e)) = read_head _ _ _ _ e (record { read = refl; head = refl; name = refl; counter = refl; packets = refl; verdict = refl; nat = refl })
head_complete Oifname ts rest (inl (inr e)) = read_head _ _ _ _ e (record { read = refl; head = refl; name = refl; counter = refl; packets = refl; verdict = refl; nat = refl })
head_complete Oifname ts rest (inr (inl e)) = read_head _ _ _ _ e (record { read = refl; head = refl; name = refl; counter = refl; packets = refl; verdict = refl; nat = refl })
head_complete Oifname ts rest (inr (inr e)) = read_head _ _ _ _ e (record { read = refl; head = refl; name = refl; counter = refl; packets = refl; verdict = refl; nat = refl })
head_complete Saddr ts rest e = read_head _ _ _ _ e (record { read = refl; head = refl; name = refl; counter = refl; packets = refl; verdict = refl; nat = refl })
head_complete Daddr ts rest e = read_head _ _ _ _ e (record { read = refl; head = refl; name = refl; counter = refl; packets = refl; verdict = refl; nat = refl })
head_complete Protocol ts rest (inl e) = read_head _ _ _ _ e (record { read = refl; head = refl; name = refl; counter = refl; packets = refl; verdict = refl; nat = refl })
head_complete Protocol ts rest (inr e) = read_head _ _ _ _ e (record { read = refl; head = refl; name = refl; counter = refl; packets = refl; verdict = refl; nat = refl })
head_complete (Sport Tcp) ts rest e = read_head _ _ _ _ e (record { read = refl; head = refl; name = refl; counter = refl; packets = refl; verdict = refl; nat = refl })
head_complete (Sport Udp) ts rest e = read_head _ _ _ _ e (record { read = refl; head = refl; name = refl; counter = refl; packets = refl; verdict = refl; nat = refl })
head_complete (Dport Tcp) ts rest e = read_head _ _ _ _ e (record { read = refl; head = refl; name = refl; counter = refl; packets = refl; verdict = refl; nat = refl })
head_complete (Dport Udp) ts rest e = read_head _ _ _ _ e (record { read = refl; head = refl; name = refl; counter = refl; packets = refl; verdict = refl; nat = refl })
head_complete State ts rest e = read_head _ _ _ _ e (record { read = refl; head = refl; name = refl; counter = refl; packets = refl; verdict = refl; nat = refl })
