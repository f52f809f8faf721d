use Rattle.std.proofs.Common.{ℕ, zero, suc, ◌≤◌, ⊎_elim, ap, arith, subst}
use Rattle.disk_model.specs.Disk.{Files}
use Rattle.disk_model.specs.Laws.{AreCalls, IsCall}
use Rattle.disk_model.proofs.laws.only_widens.Goals as goal

module _ {D : Type 0} (honest : D → Type 0) (moment : D → ℕ) (left : D → ℕ → Files → Type 0) where
  widens : (old new : D) (t : ℕ) (files : Files) → IsCall honest moment left old new → t ≤ moment old → left old t files → left new t files
  widens old new t files call le is = ⊎_elim (λ looks. looks.keeps t files le is) (λ writes. writes.3.keeps t files le is) call

  rises : (n : ℕ) (old new : D) → AreCalls honest moment left n old new → moment old ≤ moment new
  rises zero old new calls = omega (arith, ap moment calls)
  rises (suc n) old new calls =
      let before = rises n old calls.0 calls.1 in
      ⊎_elim (λ looks. omega (arith, before, looks.later)) (λ writes. omega (arith, before, writes.3.later)) calls.2

  keeps : (n : ℕ) (old new : D) (t : ℕ) (files : Files) → AreCalls honest moment left n old new → t ≤ moment old → left old t files → left new t files
  keeps zero old new t files calls le is = subst (λ (d : D). left d t files) calls is
  keeps (suc n) old new t files calls le is =
      let before = rises n old calls.0 calls.1 in
      widens calls.0 new t files calls.2 (omega (arith, le, before)) (keeps n old calls.0 t files calls.1 le is)

  since_entry : ((disk : D) (s t : ℕ) (files : Files) → s ≤ t → left disk t files → left disk s files) → (m n : ℕ) (old mid new : D) (t : ℕ) (files : Files)
      → AreCalls honest moment left m old mid → AreCalls honest moment left n mid new → moment old ≤ t → left mid t files → left new (moment old) files
  since_entry earlier m n old mid new t files first then since is =
      keeps n mid new (moment old) files then (rises m old mid first) (earlier mid (moment old) t files since is)

pub returns : goal.returns
returns g c =
    let moment = g.D.Disk.moment in
    let since = since_entry g.D.Disk.honest moment g.D.Disk.left g.met.D.Disk.earlier in
    record {
      with_calls = widens g.D.Disk.honest moment g.D.Disk.left;
      with_moments = g.met.D.Disk.earlier;
      between = λ m n old mid new files first then now. since m n old mid new (moment mid) files first then (rises g.D.Disk.honest moment g.D.Disk.left m old mid first) now;
      within = since;
    }
