use Rattle.std.proofs.Common.{◌≡◌, ◌++◌, ◌∷◌, [], not, length-append, arith}
use Rattle.verdict.proofs.Same.{firsts_more, not_false}
use Rattle.verdict.proofs.repeats.firsts_of.Goals as goal

pub loop-place-preserved : goal.loop-place-preserved
loop-place-preserved c =
    let pushed : c.push.new.self.items ≡ c.loop-place.firsts.items ++ not c.repeats-is_first.result ∷ [] = c.in_ok-push.ensures.items in
    rw pushed (record {
      count = let one = length-append c.loop-place.firsts.items (not c.repeats-is_first.result ∷ []) in let n = c.loop-place.invariant.count in omega (arith, one, n);
      repeated = firsts_more c.args.matches.now c.loop-place.firsts.items c.loop-place.place (not c.repeats-is_first.result) c.loop-place.invariant.count
          (λ told. c.repeats-is_first.ensures (not_false c.repeats-is_first.result told)) c.loop-place.invariant.repeated;
    })
