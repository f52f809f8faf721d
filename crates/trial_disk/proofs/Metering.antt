-- What the meter has counted after so many calls.
use Rattle.std.proofs.Common.{◌≡◌, ◌⊎◌, inl, inr, ⊎_elim, ℕ, zero, suc, ◌-◌, ◌<◌, ◌≤◌, ◌∙◌, ap, arith}
use Rattle.std.specs.Prelude.{Some, None, if◌then◌else◌, Bool, false}
use Rattle.std.proofs.lemmas.Bool.{cases_lt}
use Rattle.std.proofs.Math.Dec.{eqb-suc-zero}
use Rattle.trial_disk.specs.declared.meter.Turn.TheVariants.{Passes, Refused, Cut}
use Rattle.trial_disk.specs.Metered.{Metered, AfterCalls, FuseBlows, FailsOnce, ticked, failed, burnt, spent, is_due, turn_by, turn_of}

abbrev IsNext : Metered → Metered → Type 0
IsNext mid new = (new ≡ ticked mid) ⊎ (new ≡ failed (ticked mid))

fuse_next : (mid new : Metered) → IsNext mid new → new.fuse ≡ burnt mid.fuse
fuse_next mid new is = ⊎_elim (λ e. ap (λ m. m.fuse) e) (λ e. ap (λ m. m.fuse) e) is

once_next : (mid new : Metered) → IsNext mid new → new.once ≡ spent mid.once
once_next mid new is = ⊎_elim (λ e. ap (λ m. m.once) e) (λ e. ap (λ m. m.once) e) is

no_fuse : (n : ℕ) (set now : Metered) → set.fuse ≡ None → AfterCalls n set now → now.fuse ≡ None
no_fuse zero set now none after = ap (λ m. m.fuse) after ∙ none
no_fuse (suc n) set now none after = fuse_next after.0 now after.2 ∙ ap burnt (no_fuse n set after.0 none after.1)

no_once : (n : ℕ) (set now : Metered) → set.once ≡ None → AfterCalls n set now → now.once ≡ None
no_once zero set now none after = ap (λ m. m.once) after ∙ none
no_once (suc n) set now none after = once_next after.0 now after.2 ∙ ap spent (no_once n set after.0 none after.1)

fuse_left : (calls n : ℕ) (set now : Metered) → set.fuse ≡ Some calls → AfterCalls n set now → now.fuse ≡ Some (calls - n)
fuse_left calls zero set now is after = ap (λ m. m.fuse) after ∙ is ∙ ap Some (let e : calls ≡ calls - 0 = omega arith in e)
fuse_left calls (suc n) set now is after =
    fuse_next after.0 now after.2 ∙ ap burnt (fuse_left calls n set after.0 is after.1) ∙ ap Some (let e : calls - n - 1 ≡ calls - suc n = omega arith in e)

turn_some : (left : ℕ) → 0 < left → is_due (Some left) ≡ false
turn_some zero lt = absurd (omega (arith, lt))
turn_some (suc left) lt = eqb-suc-zero left

once_left : (calls n : ℕ) (set now : Metered) → n ≤ calls → set.once ≡ Some calls → AfterCalls n set now → now.once ≡ Some (calls - n)
once_left calls zero set now le is after = ap (λ m. m.once) after ∙ is ∙ ap Some (let e : calls ≡ calls - 0 = omega arith in e)
once_left calls (suc n) set now le is after =
    once_next after.0 now after.2 ∙ ap spent (once_left calls n set after.0 (omega (arith, le)) is after.1)
    ∙ spent_more (calls - n) (omega (arith, le)) ∙ ap Some (let e : calls - n - 1 ≡ calls - suc n = omega arith in e)
  where
    spent_more : (left : ℕ) → 0 < left → spent (Some left) ≡ Some (left - 1)
    spent_more left lt = ap (λ (b : Bool). if b then None else Some (left - 1)) (turn_some left lt)

once_over : (calls n : ℕ) (set now : Metered) → calls < n → set.once ≡ Some calls → AfterCalls n set now → now.once ≡ None
once_over calls zero set now lt is after = absurd (omega (arith, lt))
once_over calls (suc n) set now lt is after = elim (cases_lt calls n) [
  | inl less ↦ once_next after.0 now after.2 ∙ ap spent (once_over calls n set after.0 less is after.1)
  | inr same ↦
      let zero_left : calls - n ≡ 0 = omega (arith, lt, same) in
      once_next after.0 now after.2 ∙ ap spent (once_left calls n set after.0 (omega (arith, lt, same)) is after.1 ∙ ap Some zero_left)
]

pub fuse_blows : FuseBlows
fuse_blows calls n set now is none after =
    let fuse = fuse_left calls n set now is after in
    let once = no_once n set now none after in (
      λ lt.
          ap (λ f. turn_by f now.once) fuse ∙ ap (λ o. turn_by (Some (calls - n)) o) once
          ∙ ap (λ (b : Bool). if b then Refused else Passes) (turn_some (calls - n) (omega (arith, lt))),
      λ le.
          let over : calls - n ≡ 0 = omega (arith, le) in
          ap (λ f. turn_by f now.once) (fuse ∙ ap Some over),
    )

pub fails_once : FailsOnce
fails_once calls n set now none is after =
    let fuse = no_fuse n set now none after in
    let bare : turn_of now ≡ turn_by None now.once = ap (λ f. turn_by f now.once) fuse in (
      λ here.
          let over : calls - n ≡ 0 = omega (arith, here) in
          bare ∙ ap (λ o. turn_by None o) (once_left calls n set now (omega (arith, here)) is after ∙ ap Some over),
      λ other. elim (cases_lt n calls) [
        | inl before ↦
            bare ∙ ap (λ o. turn_by None o) (once_left calls n set now (omega (arith, before)) is after)
            ∙ ap (λ (b : Bool). if b then Cut else Passes) (turn_some (calls - n) (omega (arith, before)))
        | inr behind ↦ bare ∙ ap (λ o. turn_by None o) (once_over calls n set now (omega (arith, behind, other)) is after)
      ],
    )
