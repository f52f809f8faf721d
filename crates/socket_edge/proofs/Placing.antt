-- Where the frames of held answers begin, among the frames of all answers.
use Rattle.std.proofs.Common.{◌≡◌, ◌≢◌, ℕ, ◌+◌, ◌<◌, ◌≤◌, List, [], ◌∷◌, ◌++◌, length, take, drop, refl, sym, ap, ◌∙◌, arith, length-append, flat_map, append-nil, length-take-le, take-append-drop, take-take}
use Rattle.std.proofs.Math.Seq.{drop-append_seam, take-append_seam}
use Rattle.machine.specs.declared.event.Answer.{Answer}
use Rattle.frames.specs.Answers.{frame, frames}
use Rattle.socket_edge.proofs.Answers.{frames-append}

-- behind frames that were handed out stand those of these answers
abbrev Behind : List ℕ → List (ℕ × Answer) → ℕ
Behind answered answers = length (answered ++ flat_map frame answers)

handed-none : (answered : List ℕ) (out : List (ℕ × Answer)) (at before : ℕ) → before ≡ length answered → out ≡ [] → at ≡ before → at ≡ Behind answered out
handed-none answered out at before begins is same = same ∙ begins ∙ ap length (sym (append-nil answered)) ∙ ap (Behind answered) (sym is)

handed-all : (answered : List ℕ) (all out new : List (ℕ × Answer)) (at : ℕ) → out ++ new ≡ all → new ≡ [] → at ≡ Behind answered all → at ≡ Behind answered out
handed-all answered all out new at order is same = same ∙ ap (Behind answered) (sym order ∙ ap (λ (l : List (ℕ × Answer)). out ++ l) is ∙ append-nil out)

-- one more was answered: all are handed out, all but it, or none
at-next : (answered : List ℕ) (old new out : List (ℕ × Answer)) (at before last end : ℕ) → before ≡ length answered → last ≡ Behind answered old
    → (length new ≡ 0 → at ≡ end) → (length new ≡ 1 → at ≡ last) → (1 < length new → at ≡ before)
    → (answer : ℕ × Answer) → out ++ new ≡ old ++ answer ∷ [] → (1 < length new → out ≡ []) → end ≡ Behind answered (old ++ answer ∷ []) → at ≡ Behind answered out
at-next answered old [] out at before last end begins alone none one more answer order few all = handed-all answered (old ++ answer ∷ []) out [] at order refl (none refl ∙ all)
at-next answered old (x ∷ []) out at before last end begins alone none one more answer order few all =
    let size : length out ≡ length old = omega (arith, ap length order, length-append out (x ∷ []), length-append old (answer ∷ [])) in
    let same : out ≡ old = sym (take-append_seam out (x ∷ [])) ∙ ap (take (length out)) order ∙ ap (λ (n : ℕ). take n (old ++ answer ∷ [])) size ∙ take-append_seam old (answer ∷ []) in
    one refl ∙ alone ∙ ap (Behind answered) (sym same)
at-next answered old (x ∷ y ∷ xs) out at before last end begins alone none one more answer order few all =
    let many : 1 < length (x ∷ y ∷ xs) = omega arith in handed-none answered out at before begins (few many) (more many)

-- none was: all that were held are handed out, or none
at-fault : (answered : List ℕ) (old new out : List (ℕ × Answer)) (at before end : ℕ) → before ≡ length answered
    → (length new ≡ 0 → at ≡ end) → (length new ≡ 1 → at ≡ before) → (1 < length new → at ≡ before)
    → out ++ new ≡ old → (new ≢ [] → out ≡ []) → end ≡ Behind answered old → at ≡ Behind answered out
at-fault answered old [] out at before end begins none one more order few all = handed-all answered old out [] at order refl (none refl ∙ all)
at-fault answered old (x ∷ []) out at before end begins none one more order few all = handed-none answered out at before begins (few (λ e. absurd cc)) (one refl)
at-fault answered old (x ∷ y ∷ xs) out at before end begins none one more order few all = handed-none answered out at before begins (few (λ e. absurd cc)) (more (omega arith))

-- the bytes up to a place, and those from there on
pub parts-at : (at end : ℕ) (bytes answered held : List ℕ) → at ≤ end → take end bytes ≡ answered ++ held → at ≡ length answered
    → (take at bytes ≡ answered) × (drop at (take end bytes) ≡ held)
parts-at at end bytes answered held within is size = (
  sym (take-take at end bytes within) ∙ ap (take at) is ∙ ap (λ (n : ℕ). take n (answered ++ held)) size ∙ take-append_seam answered held,
  ap (drop at) is ∙ ap (λ (n : ℕ). drop n (answered ++ held)) size ∙ drop-append_seam answered held,
)

-- and both together
pub whole-at : (at end : ℕ) (bytes : List ℕ) → at ≤ end → take end bytes ≡ take at bytes ++ drop at (take end bytes)
whole-at at end bytes within = sym (take-append-drop at (take end bytes)) ∙ ap (λ (xs : List ℕ). xs ++ drop at (take end bytes)) (take-take at end bytes within)

-- the frames of the answers in front, parted anew
parted : (answered : List ℕ) (old out new : List (ℕ × Answer)) → out ++ new ≡ old → answered ++ flat_map frame old ≡ (answered ++ flat_map frame out) ++ flat_map frame new
parted answered old out new order = ap (λ (l : List (ℕ × Answer)). answered ++ flat_map frame l) (sym order) ∙ sym (frames-append answered out new)

one-more : (answered : List ℕ) (old : List (ℕ × Answer)) (answer : ℕ × Answer) → (answered ++ flat_map frame old) ++ frame answer ≡ answered ++ flat_map frame (old ++ answer ∷ [])
one-more answered old answer = ap (λ (zs : List ℕ). (answered ++ flat_map frame old) ++ zs) (sym (append-nil (frame answer))) ∙ frames-append answered old (answer ∷ [])

module _ (a h : ℕ) (xs answered : List ℕ) (old new out : List (ℕ × Answer)) (at : ℕ) (first : a ≤ h) (fits : h ≤ length xs) (front : take a xs ≡ answered) (are : drop a (take h xs) ≡ frames old) where
  begins : a ≡ length answered
  begins = sym (length-take-le a xs (omega (arith, first, fits))) ∙ ap length front

  whole : take h xs ≡ answered ++ flat_map frame old
  whole = whole-at a h xs first ∙ ap (λ (zs : List ℕ). zs ++ drop a (take h xs)) front ∙ ap (λ (zs : List ℕ). answered ++ zs) are

  -- the frame of one more answer stands behind them
  pub taken-in : (k : ℕ) (ws : List ℕ) (answer : ℕ × Answer) → h + k ≤ length ws → take (h + k) ws ≡ take h xs ++ frame answer → out ++ new ≡ old ++ answer ∷ [] → (1 < length new → out ≡ [])
      → (length new ≡ 0 → at ≡ h + k) → (length new ≡ 1 → at ≡ h) → (1 < length new → at ≡ a) → at ≤ h + k
      → (take at ws ≡ answered ++ frames out) × (drop at (take (h + k) ws) ≡ frames new)
  taken-in k ws answer long there order few none one more within =
      let all : take (h + k) ws ≡ answered ++ flat_map frame (old ++ answer ∷ []) = there ∙ ap (λ (zs : List ℕ). zs ++ frame answer) whole ∙ one-more answered old answer in
      parts-at at (h + k) ws (answered ++ frames out) (frames new) within (all ∙ parted answered (old ++ answer ∷ []) out new order)
      (at-next answered old new out at a h (h + k) begins (sym (length-take-le h xs fits) ∙ ap length whole) none one more answer order few (sym (length-take-le (h + k) ws long) ∙ ap length all))

  -- nothing does
  pub refused-in : (ws : List ℕ) → h ≤ length ws → take h ws ≡ take h xs → out ++ new ≡ old → (new ≢ [] → out ≡ [])
      → (length new ≡ 0 → at ≡ h) → (length new ≡ 1 → at ≡ a) → (1 < length new → at ≡ a) → at ≤ h
      → (take at ws ≡ answered ++ frames out) × (drop at (take h ws) ≡ frames new)
  refused-in ws long there order few none one more within =
      let all : take h ws ≡ answered ++ flat_map frame old = there ∙ whole in
      parts-at at h ws (answered ++ frames out) (frames new) within (all ∙ parted answered old out new order)
      (at-fault answered old new out at a h begins none one more order few (sym (length-take-le h ws long) ∙ ap length all))
