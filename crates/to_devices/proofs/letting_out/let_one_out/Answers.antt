use Rattle.std.proofs.Common.{List, ℕ, sym, subst, arith}
use Rattle.devices.specs.Handing.{Hands}
use Rattle.to_devices.proofs.Letting.{Hands-nil}
use Rattle.to_devices.proofs.Replying.{counts_left, counts_none, counts_other, leaves, no_body, other_kind}
use Rattle.to_devices.proofs.letting_out.let_one_out.Goals as goal

pub returns-then-frame-ne-FORWARD-clause-lan : goal.returns-then-frame-ne-FORWARD-clause-lan
returns-then-frame-ne-FORWARD-clause-lan g c = λ reply is.
    let lan = g.L.Device.handed c.args.lan.now in
    subst (λ (x : List (List ℕ)). Hands lan lan x) (sym (other_kind 0 c.args.header.now c.args.frame.now reply is c.if-frame-ne-FORWARD.true)) (Hands-nil lan)

pub returns-then-frame-ne-FORWARD-clause-wan : goal.returns-then-frame-ne-FORWARD-clause-wan
returns-then-frame-ne-FORWARD-clause-wan g c = λ reply is.
    let wan = g.W.Device.handed c.args.wan.now in
    subst (λ (x : List (List ℕ)). Hands wan wan x) (sym (other_kind 1 c.args.header.now c.args.frame.now reply is c.if-frame-ne-FORWARD.true)) (Hands-nil wan)

pub returns-then-frame-lt-REPLY_FRONT-clause-lan : goal.returns-then-frame-lt-REPLY_FRONT-clause-lan
returns-then-frame-lt-REPLY_FRONT-clause-lan g c = λ reply is.
    let lan = g.L.Device.handed c.args.lan.now in
    subst (λ (x : List (List ℕ)). Hands lan lan x) (sym (no_body 0 c.args.header.now c.args.frame.now reply is (omega (arith, c.if-frame-lt-REPLY_FRONT.true)))) (Hands-nil lan)

pub returns-then-frame-lt-REPLY_FRONT-clause-wan : goal.returns-then-frame-lt-REPLY_FRONT-clause-wan
returns-then-frame-lt-REPLY_FRONT-clause-wan g c = λ reply is.
    let wan = g.W.Device.handed c.args.wan.now in
    subst (λ (x : List (List ℕ)). Hands wan wan x) (sym (no_body 1 c.args.header.now c.args.frame.now reply is (omega (arith, c.if-frame-lt-REPLY_FRONT.true)))) (Hands-nil wan)

pub returns-clause-lan : goal.returns-clause-lan
returns-clause-lan g c = λ reply is.
    let f = c.args.frame.now in
    subst (λ (x : List (List ℕ)). Hands (g.L.Device.handed c.args.lan.now) (g.L.Device.handed c.hand_on.new.lan) x)
    (sym (leaves 0 c.args.header.now f reply is (omega (arith, c.if-frame-ne-FORWARD.false)) (omega (arith, c.if-frame-lt-REPLY_FRONT.false)))) c.hand_on.ensures.lan

pub returns-clause-wan : goal.returns-clause-wan
returns-clause-wan g c = λ reply is.
    let f = c.args.frame.now in
    subst (λ (x : List (List ℕ)). Hands (g.W.Device.handed c.args.wan.now) (g.W.Device.handed c.hand_on.new.wan) x)
    (sym (leaves 1 c.args.header.now f reply is (omega (arith, c.if-frame-ne-FORWARD.false)) (omega (arith, c.if-frame-lt-REPLY_FRONT.false)))) c.hand_on.ensures.wan

pub returns-then-frame-ne-FORWARD-clause-counts : goal.returns-then-frame-ne-FORWARD-clause-counts
returns-then-frame-ne-FORWARD-clause-counts g c = λ reply is. counts_other c.args.from_wan c.args.frame.now reply c.args.counts.now c.tell.new.self is c.tell.ensures

pub returns-then-frame-lt-REPLY_FRONT-clause-counts : goal.returns-then-frame-lt-REPLY_FRONT-clause-counts
returns-then-frame-lt-REPLY_FRONT-clause-counts g c = λ reply is.
    counts_none c.args.from_wan c.args.frame.now reply c.args.counts.now is (omega (arith, c.if-frame-ne-FORWARD.false)) (omega (arith, c.if-frame-lt-REPLY_FRONT.true))

pub returns-clause-counts : goal.returns-clause-counts
returns-clause-counts g c = λ reply is.
    counts_left c.args.from_wan c.args.frame.now reply c.args.counts.now c.hand_on.new.counts is (omega (arith, c.if-frame-ne-FORWARD.false)) (omega (arith, c.if-frame-lt-REPLY_FRONT.false)) c.hand_on.ensures.counts
