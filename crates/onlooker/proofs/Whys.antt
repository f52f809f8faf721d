-- Why a look tells nothing.
use Rattle.std.proofs.Common.{◌≡◌, ◌⊎◌, ◌<◌, ◌≤◌, ◌+◌, ◌-◌, inl, inr, refl, sym, subst, arith, ℕ, zero, suc, List}
use Rattle.std.specs.Prelude.{Result, Ok, Err, IfOk, IfErr}
use Rattle.packet.specs.Config.{Config}
use Rattle.disk_model.specs.Disk.{Files, pair}
use Rattle.disk_model.specs.declared.disk.FileId.{FileId}
use Rattle.onlooker.specs.declared.fault.LookFault.{LookFault}
use Rattle.onlooker.specs.declared.fault.LookFault.TheVariants.{File, NoMemory, Changing, Damaged, Differs}
use Rattle.onlooker.specs.Looking.{IsInVain, IsOfSystem, IsUnfit, IsUnseen, IsWhy, LooksInVain, Sees, SeesNoState, SeesNothing}

module _ {F : Type 0} (gives : F → F → FileId → ℕ → List ℕ → Type 0) where
  pub unseen_of_system : (old new : F) (fault : LookFault) → IsOfSystem fault → IsUnseen gives old new fault
  unseen_of_system old new (File file error) is = tt
  unseen_of_system old new NoMemory is = tt
  unseen_of_system old new Changing is = absurd is
  unseen_of_system old new Damaged is = absurd is
  unseen_of_system old new (Differs stored) is = absurd is

  pub why_of_unseen : (config : Config) (old new : F) (fault : LookFault) → IsUnseen gives old new fault → IsWhy gives config old new fault
  why_of_unseen config old new (File file error) is = tt
  why_of_unseen config old new NoMemory is = tt
  why_of_unseen config old new Changing is = is
  why_of_unseen config old new Damaged is = absurd is
  why_of_unseen config old new (Differs stored) is = absurd is

  pub why_of_unfit : (config : Config) (old new : F) (files : Files) → Sees gives old new files → (fault : LookFault) → IsUnfit config files fault → IsWhy gives config old new fault
  why_of_unfit config old new files sees (File file error) is = tt
  why_of_unfit config old new files sees NoMemory is = tt
  why_of_unfit config old new files sees Changing is = absurd is
  why_of_unfit config old new files sees Damaged is = (files, sees, is)
  why_of_unfit config old new files sees (Differs stored) is = (files, sees, is)

  -- one look more in vain, before those that there were
  pub one_more_look :
      (P : F → Type 0) (most rest : ℕ) (old between : F) → (SeesNothing gives old between ⊎ SeesNoState gives old between)
      → rest + 1 ≤ most → ((n : ℕ) × (n < rest) × (from : F) × LooksInVain gives n between from × P from)
      → (n : ℕ) × (n < most) × (from : F) × LooksInVain gives n old from × P from
  one_more_look P most rest old between vain more (n, less, from, looks, p) = (suc n, omega (arith, less, more), from, (between, vain, looks), p)

  pub no_more_look :
      (P : F → Type 0) (most : ℕ) (old : F) → 0 < most → P old
      → (n : ℕ) × (n < most) × (from : F) × LooksInVain gives n old from × P from
  no_more_look P most old some p = (zero, some, old, refl, p)

  pub more_ok :
      {T : Type 0} (r : Result T LookFault) (P : F → T → Type 0) (most rest : ℕ) (old between : F) → (SeesNothing gives old between ⊎ SeesNoState gives old between)
      → rest + 1 ≤ most → IfOk r (λ (x : T). (n : ℕ) × (n < rest) × (from : F) × LooksInVain gives n between from × P from x)
      → IfOk r (λ (x : T). (n : ℕ) × (n < most) × (from : F) × LooksInVain gives n old from × P from x)
  more_ok (Ok x) P most rest old between vain more told = one_more_look (λ (from : F). P from x) most rest old between vain more told
  more_ok (Err e) P most rest old between vain more told = tt

  pub more_err :
      {T : Type 0} (r : Result T LookFault) (P : F → LookFault → Type 0) (most rest : ℕ) (old between : F) → (SeesNothing gives old between ⊎ SeesNoState gives old between)
      → rest + 1 ≤ most → IfErr r (λ (x : LookFault). (n : ℕ) × (n < rest) × (from : F) × LooksInVain gives n between from × P from x)
      → IfErr r (λ (x : LookFault). (n : ℕ) × (n < most) × (from : F) × LooksInVain gives n old from × P from x)
  more_err (Err x) P most rest old between vain more told = one_more_look (λ (from : F). P from x) most rest old between vain more told
  more_err (Ok y) P most rest old between vain more told = tt

  pub first_ok :
      {T : Type 0} (r : Result T LookFault) (P : F → T → Type 0) (most : ℕ) (old : F) → 0 < most → IfOk r (P old)
      → IfOk r (λ (x : T). (n : ℕ) × (n < most) × (from : F) × LooksInVain gives n old from × P from x)
  first_ok (Ok x) P most old some seen = no_more_look (λ (from : F). P from x) most old some seen
  first_ok (Err e) P most old some seen = tt

  -- as many looks in vain as there may be
  pub more_all :
      {T : Type 0} (r : Result T LookFault) (most : ℕ) (old between new : F) → 1 < most → (SeesNothing gives old between ⊎ SeesNoState gives old between)
      → IfErr r (λ (x : LookFault). IsInVain x → LooksInVain gives (most - 1) between new) → IfErr r (λ (x : LookFault). IsInVain x → LooksInVain gives most old new)
  more_all (Ok y) most old between new more vain told = tt
  more_all (Err x) most old between new more vain told = λ is.
      let next : suc (most - 1) ≡ most = omega (arith, more) in
      let all : LooksInVain gives (suc (most - 1)) old new = (between, vain, told is) in
      subst (λ (k : ℕ). LooksInVain gives k old new) next all

  vain_of : (config : Config) (old new : F) (fault : LookFault) → IsInVain fault → IsWhy gives config old new fault → SeesNothing gives old new ⊎ SeesNoState gives old new
  vain_of config old new (File file error) is why = absurd is
  vain_of config old new NoMemory is why = absurd is
  vain_of config old new Changing is why = inl why
  vain_of config old new Damaged is why = inr why
  vain_of config old new (Differs stored) is why = absurd is

  -- behind the only look that there may be
  pub last_all :
      (config : Config) (fault : LookFault) (most : ℕ) (old new : F) → 0 < most → most ≤ 1 → IsWhy gives config old new fault → IsInVain fault
      → LooksInVain gives most old new
  last_all config fault most old new some few why is =
      let one : suc zero ≡ most = omega (arith, some, few) in
      let all : LooksInVain gives (suc zero) old new = (new, vain_of config old new fault is why, refl) in
      subst (λ (k : ℕ). LooksInVain gives k old new) one all

  pub sees_as : (old new : F) (a b c d : List ℕ) → c ≡ a → d ≡ b → Sees gives old new (pair a b) → Sees gives old new (pair c d)
  sees_as old new a b c d e f sees = subst (λ (y : List ℕ). Sees gives old new (pair c y)) (sym f) (subst (λ (x : List ℕ). Sees gives old new (pair x b)) (sym e) sees)
