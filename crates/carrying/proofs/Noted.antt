-- Dropped packets that are noted, one after the other.
use Rattle.std.proofs.Common.{◌≡◌, ℕ, ◌+◌, ◌≤◌, ap, refl, ◌∙◌, arith}
use Rattle.carrying.specs.Noting.{Noted, Notes, NotesMore, noted_at}

pub more-then : (a b c : Noted) → NotesMore a b → NotesMore b c → NotesMore a c
more-then a b c p q =
    let most : b.most ≡ a.most = ap (λ (x : Noted). x.most) p.1 in
    let moment : b.moment ≡ a.moment = ap (λ (x : Noted). x.moment) p.1 in
    let count : b.count + q.0 ≡ a.count + (p.0 + q.0) = omega (arith, ap (λ (x : Noted). x.count) p.1) in
    let fresh : b.fresh + q.0 ≡ a.fresh + (p.0 + q.0) = omega (arith, ap (λ (x : Noted). x.fresh) p.1) in
    (p.0 + q.0, q.1 ∙ rw (most, moment, count, fresh) refl)

-- a turn's
pub notes : (at : ℕ) (old begun new : Noted) → begun ≡ record old { moment = at; count = noted_at at old; fresh = 0 } → NotesMore begun new → new.count ≤ new.most → Notes at old new
notes at old begun new e p within = record {
  most_stays = ap (λ (x : Noted). x.most) p.1 ∙ ap (λ (x : Noted). x.most) e;
  moment_is = ap (λ (x : Noted). x.moment) p.1 ∙ ap (λ (x : Noted). x.moment) e;
  counted = omega (arith, ap (λ (x : Noted). x.count) p.1, ap (λ (x : Noted). x.fresh) p.1, ap (λ (x : Noted). x.count) e, ap (λ (x : Noted). x.fresh) e);
  bounded = within;
}
