use Rattle.std.proofs.Common.{◌≡◌, ◌≢◌, inl, inr, ℕ, ◌+◌, ◌-◌, ◌≤◌, ◌++◌, length, take, drop, [], arith, sym, ap, ◌∙◌, List, take-add, length-drop, refl, length-take-le}
use Rattle.socket_edge.specs.Turns.{Took, WriteFailed}
use Rattle.socket_edge.proofs.Talks.{Hands-nil, Hands-once, Hands-then}
use Rattle.socket_edge.proofs.Written.{Front-stays, rest_whole}
use Rattle.socket_edge.proofs.sending.write_out.Goals as goal

pub loop-at-init : goal.loop-at-init
loop-at-init g c = (omega arith, Hands-nil g.P.Peer.went g.met.P.Peer.still c.args.peer.now)

pub loop-at-preserved : goal.loop-at-preserved
loop-at-preserved g c =
    let w = g.P.Peer.went in
    let b = c.in-Ok.ensures.went in
    let n = c.in-Ok.ensures.bound in
    let i = c.loop-at.invariant in
    let piece = take (length c.args.bytes.now - c.loop-at.at) (drop c.loop-at.at c.args.bytes.now) in
    let r : piece ≡ drop c.loop-at.at c.args.bytes.now = rest_whole c.loop-at.at c.args.bytes.now in
    let short : c.in-Ok.n ≤ length (drop c.loop-at.at c.args.bytes.now) = rw (← r) n in
    let some : take c.in-Ok.n piece ≢ [] = λ none. c.in-Ok.n-test.1 (sym (length-take-le c.in-Ok.n piece n) ∙ ap length none) in
    let e : take (c.loop-at.at + c.in-Ok.n) c.args.bytes.now ≡ take c.loop-at.at c.args.bytes.now ++ take c.in-Ok.n piece = take-add c.loop-at.at c.in-Ok.n c.args.bytes.now ∙ ap (λ (x : List ℕ). take c.loop-at.at c.args.bytes.now ++ take c.in-Ok.n x) (sym r) in (
      omega (arith, length-drop c.loop-at.at c.args.bytes.now, short),
      rw e (Hands-then w g.met.P.Peer.further c.args.peer.now c.loop-at.peer c.write.new.self (take c.loop-at.at c.args.bytes.now) (take c.in-Ok.n piece) i.1 (Hands-once w c.loop-at.peer c.write.new.self (take c.in-Ok.n piece) some b)),
    )

pub returns-in-Ok-eq0-clause-err : goal.returns-in-Ok-eq0-clause-err
returns-in-Ok-eq0-clause-err g c =
    let w = g.P.Peer.went in
    let b = rw c.in-Ok-eq0.field-0-test at c.in-Ok-eq0.ensures.went in
    let i = c.loop-at.invariant in
    (refl, Front-stays w g.met.P.Peer.further c.args.peer.now c.loop-at.peer c.write.new.self c.loop-at.at c.args.bytes.now (Took []) i.1 b tt refl (inr (record { before = []; are = refl; passed = tt })))

pub returns-in-Err-clause-err : goal.returns-in-Err-clause-err
returns-in-Err-clause-err g c =
    let w = g.P.Peer.went in
    let i = c.loop-at.invariant in
    (refl, Front-stays w g.met.P.Peer.further c.args.peer.now c.loop-at.peer c.write.new.self c.loop-at.at c.args.bytes.now WriteFailed i.1 c.in-Err.ensures.went tt refl (inl (record { before = []; are = refl; passed = tt })))
