use Rattle.std.proofs.Common.{◌≤◌, [], ◌∷◌, List, ℕ, length, subst, refl, sym, ◌∙◌, arith}
use Rattle.std.proofs.lemmas.List.{take-append-le}
use Rattle.gateway.specs.Given.{answer_given}
use Rattle.gateway.specs.Running.{Proceeds, Fails}
use Rattle.machine.specs.declared.event.Answer.{Answer}
use Rattle.machine.specs.declared.event.What.TheVariants.{Load}
use Rattle.socket_edge.proofs.answering.answer_load.Goals as goal

pub returns-in-Ok-clause-ok : goal.returns-in-Ok-clause-ok
returns-in-Ok-clause-ok g c =
    let answer : ℕ × Answer = answer_given c.in-Ok.taken [] in
    let it = c.write_given in
    let within : it.result ≤ length it.new.front = omega (arith, it.ensures.within, it.ensures.size, c.split_at_mut-front.ensures.front_len) in (
      answer,
      take-append-le it.result it.new.front c.split_at_mut-front.result.1.now within ∙ sym (take-append-le it.result it.new.front [] within) ∙ it.ensures.frame [] refl,
      subst (λ (was : List ℕ). Proceeds g.D.Disk.honest g.D.Disk.moment g.D.Disk.left g.D.Disk.failed c.args.gateway.now c.take_load.new.gateway (record { moment = c.args.moment; what = Load was } ∷ []) (answer ∷ []))
          c.split_at_mut-front.ensures.back c.in-Ok.ensures.ok,
    )

pub returns-in-Err-clause-err : goal.returns-in-Err-clause-err
returns-in-Err-clause-err g c =
    subst (λ (was : List ℕ). Fails g.D.Disk.honest g.D.Disk.moment g.D.Disk.left g.D.Disk.failed c.args.gateway.now c.take_load.new.gateway (record { moment = c.args.moment; what = Load was } ∷ []) c.in-Err.fault)
    c.split_at_mut-front.ensures.back c.in-Err.ensures.err
