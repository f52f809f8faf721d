-- The numbers whose quotient by a size is the same: where they begin and end.
use Rattle.std.proofs.Common.{◌≡◌, ◌↔◌, ℕ, ◌+◌, ◌-◌, ◌*◌, ◌/◌, ◌^◌, ◌<◌, ◌≤◌, sym, ap, ◌∙◌, subst, IsTrue, arith}
use Rattle.std.proofs.Math.Nat.{div-lt_iff_lt-mul, le-div_iff_mul-le, mul-le-mul_right, lt-div-mul-add, div-mul-le_self}
use Rattle.std.proofs.lemmas.Nat.{pow-add, pow_pos}
use Rattle.std.proofs.lemmas.Bool.{eqb-true, eq-eqb}
use Rattle.packet.specs.declared.endpoint.Prefix.{Prefix}
use Rattle.packet.specs.Config.{size, covers}

module _ (s : ℕ) (some : 0 < s) where
  pub same_block : (v a : ℕ) → a / s * s ≤ v → v ≤ a / s * s + (s - 1) → v / s ≡ a / s
  same_block v a from to =
      let below : v < (a / s + 1) * s = grind arith in
      let up : a / s ≤ v / s = (le-div_iff_mul-le some).1 from in
      let down : v / s < a / s + 1 = (div-lt_iff_lt-mul some).1 below in
      omega arith

  pub block_from : (v a : ℕ) → v / s ≡ a / s → a / s * s ≤ v
  block_from v a e = subst (λ q. q * s ≤ v) e (div-mul-le_self v s)

  pub block_to : (v a : ℕ) → v / s ≡ a / s → v ≤ a / s * s + (s - 1)
  block_to v a e =
      let h : v < a / s * s + s = subst (λ q. v < q * s + s) e (lt-div-mul-add some) in
      omega arith

  -- a block that begins below a multiple of the size ends below it
  pub block_below : (a q : ℕ) → a < q * s → a / s * s + s ≤ q * s
  block_below a q lt =
      let h : a / s < q = (div-lt_iff_lt-mul some).1 lt in
      let le : (a / s + 1) * s ≤ q * s = mul-le-mul_right s (omega arith) in
      grind arith

-- the size of a prefix divides the number of addresses
pub size_divides : (k : ℕ) → 2 ^ 32 ≡ 2 ^ (32 - (32 - k)) * 2 ^ (32 - k)
size_divides k =
    let e : 32 ≡ 32 - (32 - k) + (32 - k) = omega arith in
    ap (λ n. 2 ^ n) e ∙ pow-add 2 (32 - (32 - k)) (32 - k)

-- the addresses of a prefix end within 32 bits
pub block_end : (p : Prefix) (s : ℕ) → s ≡ size p → p.addr < 2 ^ 32 → p.addr / s * s + s ≤ 2 ^ 32
unfolding size
block_end p s is lt =
    let e : 2 ^ 32 ≡ 2 ^ (32 - (32 - p.len)) * s = rw is (size_divides p.len) in
    let some : 0 < s = rw is (pow_pos (32 - p.len)) in
    subst (λ n. p.addr / s * s + s ≤ n) (sym e) (block_below s some p.addr (2 ^ (32 - (32 - p.len))) (subst (λ n. p.addr < n) e lt))

-- the addresses that a prefix covers are those from the first of its block to the last
pub covered : (p : Prefix) (s : ℕ) → s ≡ size p → (v : ℕ) → IsTrue (covers v p) ↔ (v / s ≡ p.addr / s)
unfolding covers
covered p s is v = rw is (λ h. eqb-true _ _ h, λ e. eq-eqb _ _ e)
