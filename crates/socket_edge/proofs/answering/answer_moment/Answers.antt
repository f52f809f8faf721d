use Rattle.std.proofs.Common.{◌≤◌, [], ℕ, length, refl, sym, ◌∙◌, arith}
use Rattle.std.proofs.lemmas.List.{take-append-le}
use Rattle.gateway.specs.Given.{answer_given}
use Rattle.machine.specs.declared.event.Answer.{Answer}
use Rattle.socket_edge.proofs.answering.answer_moment.Goals as goal

pub returns-in-Ok-clause-ok : goal.returns-in-Ok-clause-ok
returns-in-Ok-clause-ok g c =
    let answer : ℕ × Answer = answer_given c.in-Ok.taken [] in
    let it = c.write_given in
    let within : it.result ≤ length it.new.front = omega (arith, it.ensures.within, it.ensures.size, c.split_at_mut-front.ensures.front_len) in (
      answer,
      take-append-le it.result it.new.front c.split_at_mut-front.result.1.now within ∙ sym (take-append-le it.result it.new.front [] within) ∙ it.ensures.frame [] refl,
      c.in-Ok.ensures.ok,
    )
