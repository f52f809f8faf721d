use Rattle.std.proofs.Common.{refl, sym, subst}
use Rattle.verdict.specs.declared.matching.Test.{Test}
use Rattle.verdict.specs.Tests.{IsLaidIf}
use Rattle.verdict.proofs.row.lay_first.Goals as goal

pub returns-then-not-is_first : goal.returns-then-not-is_first
returns-then-not-is_first c =
    subst (λ b. IsLaidIf b c.args.sets.now c.args.own.now c.args.tests.now c.args.pools.now c.args.tests.now c.args.pools.now) (sym c.if-not-is_first.true) (refl, refl)

pub returns : goal.returns
returns c =
    let test : Test = record { head = c.args.own.now.head; negated = c.args.own.now.negated; pool = c.in_ok-pool.pool } in
    subst (λ b. IsLaidIf b c.args.sets.now c.args.own.now c.args.tests.now c.args.pools.now c.push.new.self c.lay_side.new.pools) (sym c.if-not-is_first.false) (record {
      test = test;
      last = c.in_ok-push.ensures.ok;
      pools_stay = c.in_ok-pool.ensures.0;
      is = record { head = refl; negated = refl; held = c.in_ok-pool.ensures.1 };
    })
