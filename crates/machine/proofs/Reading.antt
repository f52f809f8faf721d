-- What is known of a packet that is read.
use Rattle.std.proofs.Common.{◌≡◌, ℕ, ◌<◌, ◌==◌, false, List, Result, Ok, IsOkAnd, refl, sym, subst, arith}
use Rattle.std.proofs.lemmas.Bool.{or_parts}
use Rattle.std.proofs.lemmas.Bool.Decides.{nat_tests}
use Rattle.packet.specs.Fields.{fields, transport, u16_at, view_of}
use Rattle.packet.specs.declared.view.View.{View}
use Rattle.packet.specs.declared.fault.Fault.{Fault}
use Rattle.packet.proofs.Accepted.{passed}

not_zero : (n : ℕ) → (n == 0) ≡ false → 0 < n
not_zero n h = grind (arith, nat_tests)

-- neither port is 0
pub ports_are_some : (b : List ℕ) (view : View) → fields b ≡ Ok view → (0 < view.src.port) × (0 < view.dst.port)
unfolding view_of
ports_are_some b view e =
    let h = passed b (λ v. v ≡ view) (subst (λ (r : Result View Fault). IsOkAnd r (λ v. v ≡ view)) (sym e) refl) in
    let some = or_parts (u16_at 0 (transport b) == 0) (u16_at 2 (transport b) == 0) h.0.some_ports in
    (subst (λ (v : View). 0 < v.src.port) h.1 (not_zero _ some.0), subst (λ (v : View). 0 < v.dst.port) h.1 (not_zero _ some.1))
