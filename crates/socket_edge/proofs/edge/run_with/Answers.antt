use Rattle.std.proofs.Common.{◌≡◌, ◌+◌, [], ◌++◌, ℕ, List, Ok, Err, inl, inr, refl, arith, sym, subst, ◌∙◌}
use Rattle.packet.specs.Laws.{AreBytes}
use Rattle.socket_edge.specs.Running.{AllAnswered, Answered, EndsBy, Fares, TurnsEnd, events_in}
use Rattle.socket_edge.specs.Turns.{Gave}
use Rattle.socket_edge.proofs.Stopping.{stops-nil, walked-first, walked-then}
use Rattle.socket_edge.proofs.Talks.{Counted, counted_then, fault_then, first-nil, last_then, told}
use Rattle.socket_edge.proofs.Answers.{AnsweredFirst-nothing}
use Rattle.socket_edge.proofs.Runs.{AllAnswered-then, EndsBy-then, Served-answered, fallen-fares, going-ends, going-first, going-next, going-stops}
use Rattle.socket_edge.proofs.Fitting.{fit-then, none-fit}
use Rattle.socket_edge.proofs.Tending.{idle-fares}
use Rattle.socket_edge.proofs.edge.run_with.Goals as goal

zero_more : (n : ℕ) → n + 0 ≡ n
zero_more n = omega arith

-- it had fallen before
pub returns-then-has_fallen-clause-ran : goal.returns-then-has_fallen-clause-ran
returns-then-has_fallen-clause-ran g c = (
  [],
  g.met.P.Peer.still c.args.peer.now,
  AnsweredFirst-nothing c.args.gateway.now.told (events_in []),
  fallen-fares g.D.Disk.honest g.D.Disk.moment g.D.Disk.left g.D.Disk.failed g.met.D.Disk.earlier c.args.gateway.now (events_in []) (sym c.has_fallen.ensures.value ∙ c.if-has_fallen.true),
  first-nil c.args.gateway.now.told,
  stops-nil g.D.Disk.honest g.D.Disk.moment g.D.Disk.left g.met.D.Disk.earlier g.P.Peer.went c.args.gateway.now,
  inl tt,
  none-fit,
)

pub loop-init : goal.loop-init
loop-init g c = (
  [],
  [],
  walked-first g.D.Disk.honest g.D.Disk.moment g.D.Disk.left g.met.D.Disk.earlier g.P.Peer.went g.met.P.Peer.still c.args.gateway.now c.args.peer.now
      (idle-fares g.D.Disk.honest g.D.Disk.moment g.D.Disk.left g.D.Disk.seen g.D.Disk.failed g.met.D.Disk.reads g.met.D.Disk.earlier c.args.gateway.now c.stands.ensures (events_in [])) (Counted 0) (tt, refl),
  rw c.new-waiting.ensures (going-first g.D.Disk.honest g.D.Disk.moment g.D.Disk.left g.D.Disk.failed g.met.D.Disk.earlier c.args.gateway.now c.stands.ensures),
  none-fit,
)

pub returns-in-Ok-End-clause-ran : goal.returns-in-Ok-End-clause-ran
returns-in-Ok-End-clause-ran g c =
    let i = c.loop.invariant in
    let t = rw c.in-Ok-End.field-0-is at c.in-Ok-End.ensures.came in
    let at_end = g.P.Peer.ended c.read_once.new.peer in
    let w = walked-then g.D.Disk.honest g.D.Disk.moment g.D.Disk.left g.met.D.Disk.earlier g.P.Peer.went g.D.Disk.failed g.met.P.Peer.further c.args.gateway.now c.loop.gateway c.read_once.new.gateway c.args.peer.now c.loop.peer c.read_once.new.peer
    i.0 i.1 t.0 t.1 c.loop.waiting.unanswered c.loop.count (Counted c.loop.counter) i.2 i.3 t.4 t.5 t.2 t.6
    (TurnsEnd (Ok c.loop.count)) (last_then (Gave []) i.2.talked.turns t.2.turns i.2.are.0 t.7) in
    let k = w.talked in
    let so = told g.P.Peer.went c.args.gateway.now.told c.args.peer.now c.read_once.new.peer (i.0 ++ t.0) (i.1 ++ t.1) k in (
      k.turns,
      k.goes,
      so (λ (x y : List ℕ). AllAnswered c.loop.count c.args.gateway.now.told c.read_once.new.gateway.told x y at_end)
          (subst (λ (n : ℕ). AllAnswered n c.args.gateway.now.told c.read_once.new.gateway.told (i.0 ++ t.0) (i.1 ++ t.1) at_end) (zero_more c.loop.count)
          (AllAnswered-then c.args.gateway.now.told c.loop.gateway.told c.read_once.new.gateway.told i.0 c.loop.waiting.unanswered t.0 i.1 t.1 c.loop.count 0 at_end i.3.served t.3)),
      so (λ (x y : List ℕ). Fares g.D.Disk.honest g.D.Disk.moment g.D.Disk.left c.args.gateway.now c.read_once.new.gateway (events_in x) y)
          (going-ends g.D.Disk.honest g.D.Disk.moment g.D.Disk.left g.D.Disk.failed g.met.D.Disk.earlier c.args.gateway.now c.loop.gateway c.read_once.new.gateway i.0 c.loop.waiting.unanswered t.0 i.1 t.1 c.loop.count i.3 t.4),
      k.first,
      w.stops,
      w.are,
      so (λ (x y : List ℕ). AreBytes x) (fit-then i.0 t.0 i.4 t.8),
    )

pub returns-in-Err-clause-ran : goal.returns-in-Err-clause-ran
returns-in-Err-clause-ran g c =
    let i = c.loop.invariant in
    let t = c.in-Err.ensures.came in
    let at_end = g.P.Peer.ended c.read_once.new.peer in
    let w = walked-then g.D.Disk.honest g.D.Disk.moment g.D.Disk.left g.met.D.Disk.earlier g.P.Peer.went g.D.Disk.failed g.met.P.Peer.further c.args.gateway.now c.loop.gateway c.read_once.new.gateway c.args.peer.now c.loop.peer c.read_once.new.peer
    i.0 i.1 t.0 t.1 c.loop.waiting.unanswered c.loop.count (Counted c.loop.counter) i.2 i.3 t.4 t.5 t.2 t.6
    (TurnsEnd (Err c.in-Err.fault)) (inl (fault_then c.in-Err.fault i.2.talked.turns t.2.turns i.2.are.0 t.7)) in
    let k = w.talked in
    let so = told g.P.Peer.went c.args.gateway.now.told c.args.peer.now c.read_once.new.peer (i.0 ++ t.0) (i.1 ++ t.1) k in (
      k.turns,
      k.goes,
      so (λ (x y : List ℕ). EndsBy c.in-Err.fault c.args.gateway.now.told c.read_once.new.gateway.told x y at_end)
          (EndsBy-then c.in-Err.fault c.args.gateway.now.told c.loop.gateway.told c.read_once.new.gateway.told i.0 c.loop.waiting.unanswered t.0 i.1 t.1 c.loop.count at_end i.3.served t.3),
      so (λ (x y : List ℕ). Fares g.D.Disk.honest g.D.Disk.moment g.D.Disk.left c.args.gateway.now c.read_once.new.gateway (events_in x) y)
          (going-ends g.D.Disk.honest g.D.Disk.moment g.D.Disk.left g.D.Disk.failed g.met.D.Disk.earlier c.args.gateway.now c.loop.gateway c.read_once.new.gateway i.0 c.loop.waiting.unanswered t.0 i.1 t.1 c.loop.count i.3 t.4),
      k.first,
      w.stops,
      w.are,
      so (λ (x y : List ℕ). AreBytes x) (fit-then i.0 t.0 i.4 t.8),
    )

pub loop-preserved : goal.loop-preserved
loop-preserved g c =
    let i = c.loop.invariant in
    let t = rw c.in-Ok-More.field-0-is at c.in-Ok-More.ensures.came in (
      i.0 ++ t.0,
      i.1 ++ t.1,
      walked-then g.D.Disk.honest g.D.Disk.moment g.D.Disk.left g.met.D.Disk.earlier g.P.Peer.went g.D.Disk.failed g.met.P.Peer.further c.args.gateway.now c.loop.gateway c.read_once.new.gateway c.args.peer.now c.loop.peer c.read_once.new.peer
          i.0 i.1 t.0 t.1 c.loop.waiting.unanswered c.loop.count (Counted c.loop.counter) i.2 i.3 t.4 t.5 t.2 t.6
          (Counted (c.loop.counter + 1)) (counted_then c.loop.counter i.2.talked.turns t.2.turns i.2.are t.7),
      rw c.sum-count.ensures (going-next g.D.Disk.honest g.D.Disk.moment g.D.Disk.left g.D.Disk.failed g.met.D.Disk.earlier c.args.gateway.now c.loop.gateway c.read_once.new.gateway i.0 c.loop.waiting.unanswered t.0 c.read_once.new.waiting.unanswered i.1 t.1 c.loop.count c.in-Ok-More.more i.3 t.3 t.4
          c.in-Ok-More.ensures.stands c.in-Ok-More.ensures.no_failure (c.in-Ok-More.ensures.grown (λ is. absurd cc))),
      fit-then i.0 t.0 i.4 t.8,
    )

pub returns-clause-ran : goal.returns-clause-ran
returns-clause-ran g c =
    let i = c.loop.invariant in
    let k = i.2.talked in
    let so = told g.P.Peer.went c.args.gateway.now.told c.args.peer.now c.loop.peer i.0 i.1 k in (
      k.turns,
      k.goes,
      so (λ (x y : List ℕ). Answered c.args.gateway.now.told c.loop.gateway.told x y)
          (Served-answered c.args.gateway.now.told c.loop.gateway.told i.0 c.loop.waiting.unanswered i.1 c.loop.count i.3.served),
      so (λ (x y : List ℕ). Fares g.D.Disk.honest g.D.Disk.moment g.D.Disk.left c.args.gateway.now c.loop.gateway (events_in x) y)
          (going-stops g.D.Disk.honest g.D.Disk.moment g.D.Disk.left g.D.Disk.failed g.met.D.Disk.earlier c.args.gateway.now c.loop.gateway i.0 c.loop.waiting.unanswered i.1 c.loop.count i.3 (idle-fares g.D.Disk.honest g.D.Disk.moment g.D.Disk.left g.D.Disk.seen g.D.Disk.failed g.met.D.Disk.reads g.met.D.Disk.earlier c.loop.gateway c.stands-2.ensures)),
      k.first,
      i.2.stops,
      inr (refl, i.2.are.0, omega (arith, i.2.are.1, c.loop-test.false, c.loop.auto.counter-end)),
      so (λ (x y : List ℕ). AreBytes x) i.4,
    )
