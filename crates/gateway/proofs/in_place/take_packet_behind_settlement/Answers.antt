use Rattle.std.proofs.Common.{[], ◌∷◌, ◌∙◌, ap, length, sym, arith}
use Rattle.std.proofs.lemmas.Bool.{false≢true}
use Rattle.std.proofs.lemmas.Result.{IfErr-weaker, IfOk-weaker, err_from_is_err_and}
use Rattle.machine.specs.declared.event.Event.{Event}
use Rattle.machine.specs.declared.event.What.TheVariants.{Packet}
use Rattle.gateway.proofs.Proceeding.{fails-before, fails-then, proceeds-then, safe-then}
use Rattle.gateway.proofs.in_place.take_packet_behind_settlement.Goals as goal

pub returns-in_err-settle_held_full-clause-err : goal.returns-in_err-settle_held_full-clause-err
returns-in_err-settle_held_full-clause-err g c =
    let event : Event = record { moment = c.args.moment; what = Packet c.args.iface c.args.packet.now } in
    let p = err_from_is_err_and c.from_residual.result c.from_residual.ensures.1 in
    rw (p.1, p.2) (fails-before (event ∷ []) c.in_err-settle_held_full.ensures.err)

pub returns-in-Ok-clause-ok : goal.returns-in-Ok-clause-ok
returns-in-Ok-clause-ok g c = proceeds-then c.in_ok-settle_held_full.ensures.ok c.in-Ok.ensures.ok

pub returns-in-Ok-clause-any_moment : goal.returns-in-Ok-clause-any_moment
returns-in-Ok-clause-any_moment g c =
    let s = c.in_ok-settle_held_full.ensures in
    safe-then s.ok c.offer_packet.new.gateway g.met.D.Disk.earlier s.any_moment c.offer_packet.ensures.any_moment

-- it is refused for another reason

pub returns-then-not-is_full-clause-err : goal.returns-then-not-is_full-clause-err
returns-then-not-is_full-clause-err g c =
    let s = c.in_ok-settle_held_full.ensures in
    let refused = c.in-Err.ensures.err in
    fails-then s.ok s.state s.last (refused.2 (λ full. absurd (false≢true (sym c.if-not-is_full.true ∙ c.is_full.ensures.1 full))) (refused.4 s.few))

pub returns-then-not-is_full-clause-any_moment : goal.returns-then-not-is_full-clause-any_moment
returns-then-not-is_full-clause-any_moment g c =
    let s = c.in_ok-settle_held_full.ensures in
    safe-then s.ok c.offer_packet.new.gateway g.met.D.Disk.earlier s.any_moment c.offer_packet.ensures.any_moment

-- the file was full

pub returns-in_err-make_room-clause-err : goal.returns-in_err-make_room-clause-err
returns-in_err-make_room-clause-err g c =
    let event : Event = record { moment = c.args.moment; what = Packet c.args.iface c.args.packet.now } in
    let s = c.in_ok-settle_held_full.ensures in
    let p = err_from_is_err_and c.from_residual-in_err-make_room.result c.from_residual-in_err-make_room.ensures.1 in
    rw (p.1, p.2) (fails-before (event ∷ []) (fails-then s.ok s.state s.last (rw c.in-Err.ensures.err.0 at c.in_err-make_room.ensures.err)))

pub returns-in_err-make_room-clause-any_moment : goal.returns-in_err-make_room-clause-any_moment
returns-in_err-make_room-clause-any_moment g c =
    let s = c.in_ok-settle_held_full.ensures in
    safe-then s.ok c.make_room.new.gateway g.met.D.Disk.earlier s.any_moment (rw c.in-Err.ensures.err.0 at c.in_err-make_room.ensures.any_moment)

pub returns-clause-ok : goal.returns-clause-ok
returns-clause-ok g c =
    let refused = c.in-Err.ensures.err in
    IfOk-weaker c.offer_packet-2.result _ _ (λ taken t.
    proceeds-then c.in_ok-settle_held_full.ensures.ok (proceeds-then (rw refused.0 at c.in_ok-make_room.ensures.ok) (rw refused.1 at t)))
    c.offer_packet-2.ensures.ok

pub returns-clause-err : goal.returns-clause-err
returns-clause-err g c =
    let refused = c.in-Err.ensures.err in
    let s = c.in_ok-settle_held_full.ensures in
    let r = c.in_ok-make_room.ensures in
    IfErr-weaker c.offer_packet-2.result _ _ (λ why again. fails-then s.ok s.state s.last
    (fails-then (rw refused.0 at r.ok) (rw refused.0 at r.state) (rw refused.0 at r.last) (rw refused.1 at (again.2 (again.3 r.roomy) (again.4 (omega (arith, ap length r.none)))))))
    c.offer_packet-2.ensures.err

pub returns-clause-any_moment : goal.returns-clause-any_moment
returns-clause-any_moment g c =
    let refused = c.in-Err.ensures.err in
    let s = c.in_ok-settle_held_full.ensures in
    let r = c.in_ok-make_room.ensures in
    let room = rw refused.0 at r.any_moment in
    safe-then s.ok c.offer_packet-2.new.gateway g.met.D.Disk.earlier s.any_moment
    (safe-then (rw refused.0 at r.ok) c.offer_packet-2.new.gateway g.met.D.Disk.earlier room c.offer_packet-2.ensures.any_moment)
