use Rattle.std.proofs.Common.{◌≡◌, ◌≤◌, ℕ, length, take, refl, ap, sym, ◌∙◌, arith}
use Rattle.std.proofs.lemmas.List.{take-append-le}
use Rattle.std.proofs.Math.Seq.{take-length}
use Rattle.machine.specs.Fates.{answer_of}
use Rattle.machine.specs.declared.event.Answer.TheVariants.{Loaded, Refused, Ticked}
use Rattle.machine.specs.declared.event.Fate.{Fate}
use Rattle.frames.specs.Answers.{frame}
use Rattle.frames.proofs.Parts.{frame_alone}
use Rattle.frames.proofs.answer.write_short.Goals as goal

pub returns-in-Dropped-clause-frame : goal.returns-in-Dropped-clause-frame
returns-in-Dropped-clause-frame c = λ packet.
    let it = c.copy_from_slice in
    let front = it.new.self in
    let long : length front ≡ 14 = it.ensures.len ∙ c.requires.size in
    take-append-le 14 front packet (omega (arith, long)) ∙ ap (λ (n : ℕ). take n front) (sym long) ∙ take-length front ∙ it.ensures.after ∙ c.drop_frame.ensures
    ∙ ap (λ (f : Fate). frame (c.args.number, answer_of f packet)) (sym c.in-Dropped.is)

pub returns-in-Loaded-clause-frame : goal.returns-in-Loaded-clause-frame
returns-in-Loaded-clause-frame c = λ packet.
    let it = c.write_bare in
    let within : it.result ≤ length it.new.front = omega (arith, it.ensures.size, it.ensures.length, c.requires.size) in
    take-append-le it.result it.new.front packet within ∙ it.ensures.frame ∙ frame_alone (c.args.number, Loaded) refl ∙ ap (λ (f : Fate). frame (c.args.number, answer_of f packet)) (sym c.in-Loaded.is)

pub returns-in-Refused-clause-frame : goal.returns-in-Refused-clause-frame
returns-in-Refused-clause-frame c = λ packet.
    let it = c.write_bare-in-Refused in
    let within : it.result ≤ length it.new.front = omega (arith, it.ensures.size, it.ensures.length, c.requires.size) in
    take-append-le it.result it.new.front packet within ∙ it.ensures.frame ∙ frame_alone (c.args.number, Refused) refl ∙ ap (λ (f : Fate). frame (c.args.number, answer_of f packet)) (sym c.in-Refused.is)

pub returns-in-Ticked-clause-frame : goal.returns-in-Ticked-clause-frame
returns-in-Ticked-clause-frame c = λ packet.
    let it = c.write_bare-in-Ticked in
    let within : it.result ≤ length it.new.front = omega (arith, it.ensures.size, it.ensures.length, c.requires.size) in
    take-append-le it.result it.new.front packet within ∙ it.ensures.frame ∙ frame_alone (c.args.number, Ticked) refl ∙ ap (λ (f : Fate). frame (c.args.number, answer_of f packet)) (sym c.in-Ticked.is)
