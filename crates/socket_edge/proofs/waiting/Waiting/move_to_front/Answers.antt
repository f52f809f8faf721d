use Rattle.std.proofs.Common.{◌-◌, [], List, ℕ, length, take, drop, ap, ◌∙◌, arith}
use Rattle.std.proofs.lemmas.List.{with_items_is}
use Rattle.socket_edge.specs.Exchange.{Exchange}
use Rattle.socket_edge.proofs.Memory.{moved}
use Rattle.socket_edge.proofs.waiting.Waiting.move_to_front.Goals as goal

pub returns-then-self-gt0 : goal.returns-then-self-gt0
returns-then-self-gt0 c =
    let self = c.self.inside in
    let xs = c.as_mut_slice.result.now in
    let i = c.self.invariant in
    let same = c.as_mut_slice.ensures.value in
    let now = with_items_is self.bytes c.copy_within.new.self (c.copy_within.ensures.len ∙ c.as_mut_slice.ensures.len) ∙ c.copy_within.ensures.after in
    ap (λ (zs : List ℕ). record { answered = []; held = []; unanswered = zs })
    (ap (take (self.end - self.start)) now ∙ moved self.start self.end xs i.2 (omega (arith, i.3, ap length same)) ∙ ap (λ (zs : List ℕ). drop self.start (take self.end zs)) same ∙ ap (λ (x : Exchange). x.unanswered) c.self.view_is)

pub returns-else-self-gt0 : goal.returns-else-self-gt0
returns-else-self-gt0 c = ap (λ (x : Exchange). record { answered = []; held = []; unanswered = x.unanswered }) c.self.view_is
