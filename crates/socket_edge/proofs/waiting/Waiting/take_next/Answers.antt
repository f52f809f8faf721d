use Rattle.std.proofs.Common.{◌≡◌, ◌≤◌, ◌+◌, ◌-◌, ◌++◌, ◌∷◌, [], List, ℕ, length, take, drop, ap, sym, subst, ◌∙◌, arith, drop-drop}
use Rattle.std.proofs.lemmas.List.{with_items_is}
use Rattle.std.proofs.lemmas.Slice.{take-put_mid_below}
use Rattle.machine.specs.declared.event.Event.{Event}
use Rattle.gateway.specs.Running.{BreaksOff, CarriesOn}
use Rattle.frames.specs.Requests.{Whole, what_of}
use Rattle.socket_edge.specs.Exchange.{Exchange}
use Rattle.socket_edge.proofs.Memory.{between_size, ends_within, packet_in, part_size, seen_passed, view}
use Rattle.socket_edge.proofs.Placing.{refused-in, taken-in}
use Rattle.socket_edge.proofs.waiting.Waiting.take_next.Goals as goal
use borrow.Rule.Slice.PartMut.{put_mid}

pub returns-in-Ok : goal.returns-in-Ok
returns-in-Ok g c =
    let self = c.self.inside in
    let i = c.self.invariant in
    let n = c.args.size in
    let k = c.in-Ok.len in
    let bytes = c.args.self.now.unanswered in
    let xs = c.as_mut_slice-bytes.result.now in
    let ys = c.answer_request.new.bytes in
    let two = c.move_down.new.bytes in
    let same = c.as_mut_slice-bytes.ensures.value in
    let fits : self.end ≤ length xs = omega (arith, i.3, ap length same) in
    let was : view self.answered self.held self.start self.end xs ≡ c.args.self.now = ap (view self.answered self.held self.start self.end) same ∙ c.self.view_is in
    let waits : drop self.start (take self.end xs) ≡ bytes = ap (λ (x : Exchange). x.unanswered) was in
    let front = c.requires.front in
    let ends : self.start + n ≤ self.end = ends_within self.start self.end n xs bytes i.2 fits (sym waits) front.2 in
    let size : length ys ≡ n = c.in-Ok.ensures.length ∙ part_size self.start (self.start + n) xs (omega arith) (omega (arith, ends, fits)) ∙ (omega arith) in
    let few : k ≤ n = omega (arith, c.in-Ok.ensures.within, size) in
    let seen = seen_passed self.held self.start k n self.end xs two ys i.1 ends fits size few c.move_down.ensures.there c.move_down.ensures.behind in
    let long : length two ≡ length xs = c.move_down.ensures.size ∙ between_size self.start (self.start + n) xs ys (omega arith) (omega (arith, ends, fits)) (size ∙ (omega arith)) in
    let now = with_items_is self.bytes two (long ∙ c.as_mut_slice-bytes.ensures.len) in
    let packet = packet_in self.start n self.end xs bytes front.1 ends waits in
    let p = c.in-Ok.ensures.ok in
    let out = p.2.out in
    let from = c.held_from-self-inside.ensures in
    let count = c.held.ensures.value in
    let parts = taken-in self.answered self.held xs c.args.self.now.answered c.args.gateway.now.told.held c.answer_request.new.gateway.told.held out c.held_from-self-inside.result i.0 (omega (arith, fits, i.1, i.2))
    (ap (λ (x : Exchange). x.answered) was) (ap (λ (x : Exchange). x.held) was ∙ c.requires.held) k two p.0 (omega (arith, few, ends, fits, long, i.1)) (seen.0 ∙ ap (λ (zs : List ℕ). take self.held xs ++ zs) p.1)
    p.2.order p.2.few (λ z. from.none (count ∙ z)) (λ z. from.one (count ∙ z)) (λ z. from.more (omega (arith, count, z))) from.within in
    let event : Event = record { moment = c.args.moment; what = what_of c.args.kind (take (n - 14) (drop 14 bytes)) } in
    record {
      ok = (
        event,
        out,
        front.0 ∙ ap (Whole event) (ap (drop n) (sym waits) ∙ drop-drop n self.start (take self.end xs) ∙ sym (ap (λ (zs : List ℕ). drop (self.start + n) (take self.end zs)) now ∙ seen.1)),
        ap (take c.held_from-self-inside.result) now ∙ parts.0,
        λ before.
            subst (λ (body : List ℕ). CarriesOn g.D.Disk.honest g.D.Disk.moment g.D.Disk.left g.D.Disk.failed c.args.gateway.now c.answer_request.new.gateway (record { moment = c.args.moment; what = what_of c.args.kind body } ∷ []) before (before ++ out))
            packet (p.2.carries before),
      );
      err = tt;
      held = ap (λ (zs : List ℕ). drop c.held_from-self-inside.result (take (self.held + k) zs)) now ∙ parts.1;
      stands = c.in-Ok.ensures.stands;
      in_place = c.in-Ok.ensures.in_place;
    }

pub returns-in-Err : goal.returns-in-Err
returns-in-Err g c =
    let self = c.self.inside in
    let i = c.self.invariant in
    let n = c.args.size in
    let bytes = c.args.self.now.unanswered in
    let xs = c.as_mut_slice-bytes.result.now in
    let ys = c.answer_request.new.bytes in
    let same = c.as_mut_slice-bytes.ensures.value in
    let fits : self.end ≤ length xs = omega (arith, i.3, ap length same) in
    let was : view self.answered self.held self.start self.end xs ≡ c.args.self.now = ap (view self.answered self.held self.start self.end) same ∙ c.self.view_is in
    let waits : drop self.start (take self.end xs) ≡ bytes = ap (λ (x : Exchange). x.unanswered) was in
    let front = c.requires.front in
    let ends : self.start + n ≤ self.end = ends_within self.start self.end n xs bytes i.2 fits (sym waits) front.2 in
    let size : length ys ≡ self.start + n - self.start = c.in-Err.ensures.length ∙ part_size self.start (self.start + n) xs (omega arith) (omega (arith, ends, fits)) in
    let two = put_mid self.start (self.start + n - self.start) xs ys in
    let long : length two ≡ length xs = between_size self.start (self.start + n) xs ys (omega arith) (omega (arith, ends, fits)) size in
    let now = with_items_is self.bytes two (long ∙ c.as_mut_slice-bytes.ensures.len) in
    let packet = packet_in self.start n self.end xs bytes front.1 ends waits in
    let p = c.in-Err.ensures.err in
    let from = c.held_from-self-inside-in-Err.ensures in
    let count = c.held-in-Err.ensures.value in
    let parts = refused-in self.answered self.held xs c.args.self.now.answered c.args.gateway.now.told.held c.answer_request.new.gateway.told.held p.out c.held_from-self-inside-in-Err.result i.0 (omega (arith, fits, i.1, i.2))
    (ap (λ (x : Exchange). x.answered) was) (ap (λ (x : Exchange). x.held) was ∙ c.requires.held) two (omega (arith, fits, long, i.1, i.2)) (take-put_mid_below self.start (self.start + n - self.start) xs ys self.held i.1 (omega (arith, ends, fits)))
    p.order p.few (λ z. from.none (count ∙ z)) (λ z. from.one (count ∙ z)) (λ z. from.more (omega (arith, count, z))) from.within in
    let event : Event = record { moment = c.args.moment; what = what_of c.args.kind (take (n - 14) (drop 14 bytes)) } in
    record {
      ok = tt;
      err = (
        event,
        drop n bytes,
        p.out,
        front.0,
        ap (take c.held_from-self-inside-in-Err.result) now ∙ parts.0,
        λ before.
            subst (λ (body : List ℕ). BreaksOff g.D.Disk.honest g.D.Disk.moment g.D.Disk.left g.D.Disk.failed c.args.gateway.now c.answer_request.new.gateway (record { moment = c.args.moment; what = what_of c.args.kind body } ∷ []) before (before ++ p.out) c.in-Err.fault)
            packet (p.breaks before),
      );
      held = ap (λ (zs : List ℕ). drop c.held_from-self-inside-in-Err.result (take self.held zs)) now ∙ parts.1;
      stands = tt;
      in_place = c.in-Err.ensures.in_place;
    }
