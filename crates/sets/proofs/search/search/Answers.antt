use Rattle.std.proofs.Common.{Less, Equal, Greater, ◌<◌, ◌^◌, length, sym, subst, arith}
use Rattle.sets.specs.Intervals.{StandsBesideElement}
use Rattle.sets.specs.Members.{fact_of}
use Rattle.sets.proofs.Places.{in_where_equal}
use Rattle.sets.proofs.Halving.{halved, none_behind, none_before}
use Rattle.sets.proofs.search.search.Goals as goal

pub probe-requires : goal.probe-requires
probe-requires g c =
    let small : length c.args.row.now < 2 ^ 64 = omega arith in
    let h = c.loop-from.invariant.halved 64 small in
    let half = halved h.0 _ (omega arith) h.2 in
    omega arith

pub loop-from-preserved-in-Less : goal.loop-from-preserved-in-Less
loop-from-preserved-in-Less g c =
    let stands = subst (StandsBesideElement Less (fact_of c.args.value)) c.key.ensures c.in-Less.ensures.place in
    record {
      within = omega arith;
      before = c.loop-from.invariant.before;
      behind = none_behind g.K.Keyed.key_of (fact_of c.args.value) c.args.row.now c.requires _ c.index-row-middle.result (omega arith) c.index-row-middle.is stands;
      halved = λ digits small.
          let h = c.loop-from.invariant.halved digits small in
          let half = halved h.0 _ (omega arith) h.2 in
          (half.0, omega arith, omega arith);
    }

pub loop-from-preserved : goal.loop-from-preserved
loop-from-preserved g c =
    let stands = subst (StandsBesideElement Greater (fact_of c.args.value)) c.key.ensures c.in-Greater.ensures.place in
    let none = none_before g.K.Keyed.key_of (fact_of c.args.value) c.args.row.now c.requires _ c.index-row-middle.result (omega arith) c.index-row-middle.is stands in
    record {
      within = c.loop-from.invariant.within;
      before = λ k d lt lk. none k d (omega arith);
      behind = c.loop-from.invariant.behind;
      halved = λ digits small.
          let h = c.loop-from.invariant.halved digits small in
          let half = halved h.0 _ (omega arith) h.2 in
          (half.0, omega arith, omega arith);
    }

pub returns-in-Equal-clause-found : goal.returns-in-Equal-clause-found
returns-in-Equal-clause-found g c =
    let stands = subst (StandsBesideElement Equal (fact_of c.args.value)) c.key.ensures c.in-Equal.ensures.place in
    ((_, omega arith, sym c.index-row-middle.is), in_where_equal (fact_of c.args.value) _ stands)
