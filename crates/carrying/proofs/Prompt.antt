-- Each turn's packets are handed on before the next turn.
use Rattle.std.proofs.Common.{◌≡◌, inl, inr, ℕ, ◌+◌, ◌≤◌, List, [], ◌∷◌, ◌++◌, length, take, sym, ap, subst, ◌∙◌, arith, length-append}
use Rattle.std.proofs.lemmas.List.{append-nil, take-append-le}
use Rattle.std.proofs.Math.Seq.{take-length}
use Rattle.machine.specs.declared.event.Answer.{Answer}
use Rattle.machine.specs.declared.event.Event.{Event}
use Rattle.carrying.specs.Runs.{EachHandsOn, HandsOn, all_events, last_of}
use Rattle.carrying.specs.Turns.{Turn}
use Rattle.carrying.proofs.Joined.{events-front}
use Rattle.carrying.proofs.Taken.{place_of}

module _ (last : ℕ) (R : ℕ → List (List ℕ) → List (List ℕ) → List (List ℕ) → List (List ℕ) → Type 0) where
  pub hands-first : R 0 [] [] [] [] → EachHandsOn last R [] []
  hands-first one [] after e = one
  hands-first one (b ∷ before) after e = absurd (omega (arith, ap length e))

  -- one more
  pub hands-then : (ts : List Turn) (t : Turn) (xs ys zs : List (ℕ × Answer)) → zs ≡ xs ++ ys → length xs ≡ length (all_events last ts) → length zs ≡ length (all_events last (ts ++ t ∷ []))
      → EachHandsOn last R ts xs → HandsOn last R (ts ++ t ∷ []) zs → EachHandsOn last R (ts ++ t ∷ []) zs
  hands-then ts t xs ys zs are long whole each one = at
    where
      earlier : (before rest : List Turn) → ts ≡ before ++ rest → HandsOn last R before (take (length (all_events last before)) zs)
      earlier before rest e =
          let n = length (all_events last before) in
          let le : n ≤ length xs = omega (arith, long, ap (λ (us : List Turn). length (all_events last us)) e, ap (λ (es : List Event). length es) (events-front last before rest), length-append (all_events last before) (all_events (last_of last before) rest)) in
          let front : take n zs ≡ take n xs = ap (λ (us : List (ℕ × Answer)). take n us) are ∙ take-append-le n xs ys le in
          subst (λ (us : List (ℕ × Answer)). HandsOn last R before us) (sym front) (each before rest e)

      at : EachHandsOn last R (ts ++ t ∷ []) zs
      at before [] e =
          let all = ts ++ t ∷ [] in
          let same : all ≡ before = e ∙ append-nil before in
          let every : zs ≡ take (length (all_events last all)) zs = sym (take-length zs) ∙ ap (λ (n : ℕ). take n zs) whole in
          subst (λ (b : List Turn). HandsOn last R b (take (length (all_events last b)) zs)) same
          (subst (λ (us : List (ℕ × Answer)). HandsOn last R all us) every one)
      at before (u ∷ after) e = elim (place_of ts before after t u e) [
        | inl r ↦ earlier before (u ∷ r.0) r.1
        | inr m ↦ earlier before [] (sym m.0 ∙ sym (append-nil before))
      ]
