use Rattle.std.proofs.Common.{◌≡◌, ◌+◌, sym, ◌∙◌, subst, arith}
use Rattle.buckets.specs.Places.{number}
use Rattle.buckets.proofs.Values.{ArePackedBelow, next-packed}
use Rattle.buckets.proofs.places.lift_each.Goals as goal

pub loop-preserved : goal.loop-preserved
loop-preserved c =
    let small = c.number-from.ensures.small in
    let same : c.number-from.result ≡ number c.in-Some.key = c.number-from.ensures.same in
    record {
      sound = c.lift.ensures.sound;
      same = λ key. c.lift.ensures.same key ∙ c.loop.invariant.same key;
      room = omega (arith, c.lift.ensures.room, c.loop.invariant.room);
      below = subst (λ n. ArePackedBelow c.lift.new.places c.lift.new.overflow.held (n + 1)) (sym same)
          (next-packed c.loop.places c.lift.new.places c.loop.overflow.held c.lift.new.overflow.held c.loop.from c.in-Some.key c.loop.invariant.below c.in-Some.ensures.next c.lift.ensures.filled c.if-not-lift.ensures.settled);
      small = omega (arith, small);
    }
