-- What is so behind each beginning of turns, of two lists of them one after the other.
use Rattle.std.proofs.Common.{◌≡◌, List, [], ◌∷◌, ◌++◌, refl, sym, ap, ◌∙◌, append_assoc, append-nil}
use Rattle.socket_edge.specs.Turns.{Turn}

module _ {T : Type 0} where
  -- behind each beginning of these, and then behind them and more
  abbrev pub by_both : List Turn → (List Turn → T) → (List Turn → T) → List Turn → T
  by_both [] f g before = g before
  by_both (t ∷ turns) f g [] = f []
  by_both (t ∷ turns) f g (b ∷ before) = by_both turns (λ (ts : List Turn). f (t ∷ ts)) g before

  pub by_then : (turns more : List Turn) (f g : List Turn → T) → by_both turns f g (turns ++ more) ≡ g more
  by_then [] more f g = refl
  by_then (t ∷ turns) more f g = by_then turns more (λ (ts : List Turn). f (t ∷ ts)) g

  by_within : (before rest : List Turn) (t : Turn) (f g : List Turn → T) → by_both (before ++ t ∷ rest) f g before ≡ f before
  by_within [] rest t f g = refl
  by_within (b ∷ before) rest t f g = by_within before rest t (λ (ts : List Turn). f (b ∷ ts)) g

  pub by_at : (turns before rest : List Turn) (t : Turn) (f g : List Turn → T) → turns ≡ before ++ t ∷ rest → by_both turns f g before ≡ f before
  by_at turns before rest t f g e = ap (λ (ts : List Turn). by_both ts f g before) e ∙ by_within before rest t f g

  pub by_end : (turns : List Turn) (f g : List Turn → T) → by_both turns f g turns ≡ g []
  by_end turns f g = ap (λ (ts : List Turn). by_both turns f g ts) (sym (append-nil turns)) ∙ by_then turns [] f g

  -- they may be all
  pub by_next : (turns before rest : List Turn) (t : Turn) (f g : List Turn → T) → turns ≡ before ++ t ∷ rest → f turns ≡ g [] → by_both turns f g (before ++ t ∷ []) ≡ f (before ++ t ∷ [])
  by_next turns before [] t f g e same = ap (λ (ts : List Turn). by_both turns f g ts) (sym e) ∙ by_end turns f g ∙ sym same ∙ ap f e
  by_next turns before (r ∷ rest) t f g e same = by_at turns (before ++ t ∷ []) rest r f g (e ∙ sym (append_assoc before (t ∷ []) (r ∷ rest)))

  pub by_first : (turns : List Turn) (f g : List Turn → T) (one : T) → f [] ≡ one → g [] ≡ f turns → by_both turns f g [] ≡ one
  by_first [] f g one is same = same ∙ is
  by_first (t ∷ turns) f g one is same = is

  -- behind none of the turns the one, behind all of them the last, and in between another
  abbrev pub at_turn : T → T → T → List Turn → List Turn → T
  at_turn one mid last turns [] = one
  at_turn one mid last turns (b ∷ before) = by_both turns (λ (ts : List Turn). mid) (λ (ts : List Turn). last) (b ∷ before)

  pub at_last : (one mid last : T) (turns : List Turn) → (turns ≡ [] → last ≡ one) → at_turn one mid last turns turns ≡ last
  at_last one mid last [] none = sym (none refl)
  at_last one mid last (t ∷ turns) none = by_end (t ∷ turns) (λ (ts : List Turn). mid) (λ (ts : List Turn). last)

  pub at_mid : (one mid last : T) (turns before rest : List Turn) (b t : Turn) → turns ≡ (b ∷ before) ++ t ∷ rest → at_turn one mid last turns (b ∷ before) ≡ mid
  at_mid one mid last turns before rest b t e = by_at turns (b ∷ before) rest t (λ (ts : List Turn). mid) (λ (ts : List Turn). last) e

  -- what is so of the last and of the other is so behind each of the turns
  at_some : (one mid last : T) (turns before rest : List Turn) (b : Turn) (so : T → Type 0) → turns ≡ (b ∷ before) ++ rest → so mid → so last → so (at_turn one mid last turns (b ∷ before))
  at_some one mid last turns before [] b so e m l = let all : turns ≡ b ∷ before = e ∙ append-nil (b ∷ before) in rw (all, by_end (b ∷ before) (λ (ts : List Turn). mid) (λ (ts : List Turn). last)) l
  at_some one mid last turns before (r ∷ rest) b so e m l = rw (at_mid one mid last turns before rest b r e) m

  pub at_behind : (one mid last : T) (turns before rest : List Turn) (t : Turn) (so : T → Type 0) → turns ≡ before ++ t ∷ rest → so mid → so last → so (at_turn one mid last turns (before ++ t ∷ []))
  at_behind one mid last turns [] rest t so e m l = at_some one mid last turns [] rest t so e m l
  at_behind one mid last turns (b ∷ before) rest t so e m l = at_some one mid last turns (before ++ t ∷ []) rest b so (e ∙ sym (append_assoc (b ∷ before) (t ∷ []) rest)) m l
