-- What is read of a packet fits its fields.
use Rattle.std.proofs.Common.{◌≡◌, ◌≢◌, ℕ, ◌+◌, ◌<◌, ◌==◌, false, List, drop, refl, sym, subst, arith}
use Rattle.std.proofs.lemmas.Bool.{or_parts}
use Rattle.std.proofs.lemmas.Bool.Decides.{nat_tests}
use Rattle.std.proofs.lemmas.List.{get_or-drop}
use Rattle.byteorder.specs.Numbers.{big_from-lt}
use Rattle.packet.specs.Fields.{transport, header_length, u16_at, u32_at, view_of}
use Rattle.packet.specs.Laws.{AreBytes, Fits, PacketsFit}
use Rattle.packet.proofs.Accepted.{Passes, passed, u16_at-lt}

-- the bytes behind a place are bytes
behind : (n : ℕ) (b : List ℕ) → AreBytes b → AreBytes (drop n b)
behind n b bytes = λ k. subst (λ x. x < 256) (sym (get_or-drop n b k 0)) (bytes (n + k))

u32_at-lt : (at : ℕ) (b : List ℕ) → AreBytes b → u32_at at b < 4294967296
unfolding u32_at
u32_at-lt at b bytes = big_from-lt 0 4 (drop at b) (behind at b bytes)

not_zero : (x : ℕ) → (x == 0) ≡ false → x ≢ 0
not_zero x h e = grind (arith, nat_tests)

fits : (b : List ℕ) → AreBytes b → Passes b → Fits (view_of b)
unfolding view_of
fits b bytes passes =
    let ports = or_parts (u16_at 0 (transport b) == 0) (u16_at 2 (transport b) == 0) passes.some_ports in
    let part = behind (header_length b) b bytes in
    record {
      src = record { fits = (u32_at-lt 12 b bytes, u16_at-lt 0 (transport b) part); some_port = not_zero _ ports.0 };
      dst = record { fits = (u32_at-lt 16 b bytes, u16_at-lt 2 (transport b) part); some_port = not_zero _ ports.1 };
      ttl = bytes 8;
    }

pub packets_fit : PacketsFit
packets_fit b view bytes read =
    let got = passed b (λ it. it ≡ view) (rw read refl) in
    subst Fits got.1 (fits b bytes got.0)
