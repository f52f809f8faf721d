use Rattle.std.proofs.Common.{◌≡◌, ◌+◌, ◌++◌, [], List, ℕ, take, drop, ap, sym, ◌∙◌, arith, append-nil}
use Rattle.std.proofs.lemmas.List.{with_items_is}
use Rattle.socket_edge.specs.Exchange.{Exchange}
use Rattle.socket_edge.proofs.Memory.{alike, view}
use Rattle.socket_edge.proofs.waiting.Waiting.read.Goals as goal

pub returns-in-Ok-clause-ok : goal.returns-in-Ok-clause-ok
returns-in-Ok-clause-ok g c =
    let self = c.self.inside in
    let i = c.self.invariant in
    let old = self.bytes.items in
    let mid = c.as_mut_slice.result.now in
    let new = c.read_behind.new.bytes in
    let it = c.in-Ok.ensures.ok in
    let value = c.as_mut_slice.ensures.value in
    let same : take self.end mid ≡ take self.end old = ap (take self.end) value ∙ c.make_room.ensures.front in
    let now = with_items_is c.make_room.new.bytes new (c.in-Ok.ensures.len ∙ c.as_mut_slice.ensures.len) in
    let seen = alike self.answered self.held self.start self.end c.in-Ok.n old new it.0 i.0 i.1 i.2 i.3 (it.2 ∙ ap (λ (zs : List ℕ). zs ++ it.0) same) in (
      it.0,
      it.1,
      ap (view self.answered self.held self.start (self.end + c.in-Ok.n)) now ∙ seen
          ∙ ap (λ (x : Exchange). record { answered = x.answered; held = x.held; unanswered = x.unanswered ++ it.0 }) (c.self.view_is ∙ c.move_to_front.ensures),
      it.3,
      omega (arith, it.4, i.5),
      it.5,
    )

pub returns-in-Err-clause-err : goal.returns-in-Err-clause-err
returns-in-Err-clause-err g c =
    let self = c.self.inside in
    let i = c.self.invariant in
    let old = self.bytes.items in
    let new = c.read_behind.new.bytes in
    let value = c.as_mut_slice.ensures.value in
    let same : take self.end new ≡ take self.end old = c.in-Err.ensures.err ∙ ap (take self.end) value ∙ c.make_room.ensures.front in
    let now = with_items_is c.make_room.new.bytes new (c.in-Err.ensures.len ∙ c.as_mut_slice.ensures.len) in
    let none : self.end + 0 ≡ self.end = omega arith in
    let seen = alike self.answered self.held self.start self.end 0 old new [] i.0 i.1 i.2 i.3 (ap (λ (n : ℕ). take n new) none ∙ same ∙ sym (append-nil (take self.end old))) in
    ap (view self.answered self.held self.start self.end) now ∙ ap (λ (n : ℕ). view self.answered self.held self.start n new) (sym none) ∙ seen
    ∙ ap (λ (zs : List ℕ). record { answered = take self.answered old; held = drop self.answered (take self.held old); unanswered = zs }) (append-nil (drop self.start (take self.end old)))
    ∙ c.self.view_is ∙ c.move_to_front.ensures
