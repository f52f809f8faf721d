-- What is seen between braces.
use Rattle.std.proofs.Common.{◌≡◌, true, false, [], ◌∷◌, Option, Some, None, refl, sym, ap, ◌∙◌}
use Rattle.std.specs.Prelude.{Result}
use Rattle.ruletokens.specs.declared.token.Token.{Token}
use Rattle.ruletokens.specs.declared.token.Token.TheVariants.{Symbol, NewLine}
use Rattle.ruletokens.specs.declared.token.Symbol.TheVariants.{Close}
use Rattle.rulesyntax.specs.declared.error.ReadError.{ReadError}
use Rattle.rulesyntax.specs.Grammar.{Tokens, inside}
use Rattle.rulesyntax.specs.Reading.{◌>>=◌, skip, next_at, close_at, is_close, Nexts, Goes}
use denote.Bor.{Bor}

next_seen : (ts : Tokens) → next_at (inside ts) ≡ (next_at (skip ts) >>= λ p. Some (p.0, inside p.1))
unfolding skip next_at
next_seen [] = refl
next_seen (NewLine ∷ ts) = next_seen ts
next_seen (Symbol Close ∷ ts) = refl
next_seen (t ∷ ts) = refl

pub next_inside : (r : Option (Bor Token × Bor Tokens)) (ts us : Tokens) → us ≡ skip ts → Nexts false r (next_at us) → Nexts true r (next_at (inside ts))
next_inside (Some x) ts us e h = next_seen ts ∙ ap (λ o. o >>= λ p. Some (p.0, inside p.1)) (ap next_at (sym e) ∙ h)
next_inside None ts us e h = next_seen ts ∙ ap (λ o. o >>= λ p. Some (p.0, inside p.1)) (ap next_at (sym e) ∙ h)

close_seen : (ts : Tokens) → close_at (inside ts) ≡ close_at (skip ts)
unfolding skip close_at
close_seen [] = refl
close_seen (NewLine ∷ ts) = close_seen ts
close_seen (Symbol Close ∷ ts) = refl
close_seen (t ∷ ts) = refl

pub close_inside : (r : Result (Bor Tokens) ReadError) (ts us : Tokens) → us ≡ skip ts → Goes false r (close_at us) → Goes false r (close_at (inside ts))
close_inside r ts us e h = rw (close_seen ts, ← e) h

is_close_seen : (ts : Tokens) → is_close (inside ts) ≡ is_close (skip ts)
unfolding skip is_close
is_close_seen [] = refl
is_close_seen (NewLine ∷ ts) = is_close_seen ts
is_close_seen (Symbol Close ∷ ts) = refl
is_close_seen (t ∷ ts) = refl

pub is_close_inside : (ts us : Tokens) → us ≡ skip ts → is_close (inside ts) ≡ is_close us
is_close_inside ts us e = is_close_seen ts ∙ ap is_close (sym e)
