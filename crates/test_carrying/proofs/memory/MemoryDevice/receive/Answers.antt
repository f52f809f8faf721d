use Rattle.std.proofs.Common.{◌≡◌, ◌⊎◌, inl, inr, ◌∷◌, ℕ, ◌+◌, ◌<◌, List, drop, length, ap, subst, sym, ◌∙◌, arith}
use Rattle.std.proofs.lemmas.List.{take_at}
use Rattle.test_carrying.specs.Contents.{HasNoFrame, bodies_of}
use Rattle.test_carrying.proofs.Bodies.{next_body}
use Rattle.test_carrying.proofs.memory.MemoryDevice.receive.Goals.{then-len-lt-HEADER-via-then-len-lt-HEADER, then-len-lt-HEADER-via-else-len-lt-HEADER+then-len-gt-LONGEST_FRAME}
use Rattle.test_carrying.proofs.memory.MemoryDevice.receive.Goals as goal

pub returns-clause-gave : goal.returns-clause-gave
returns-clause-gave c =
    let given = c.args.self.now.given.items in
    let gave = c.args.self.now.gave in
    let copied : c.copy_from_slice.new.self ≡ c.as_slice-frame.result.now = c.copy_from_slice.ensures.after in
    next_body given gave c.index.result.now (omega (arith, c.if-self-len.false)) c.index.ensures
    ∙ ap (λ (x : List ℕ). x ∷ drop (gave + 1) (bodies_of given)) (sym c.as_slice-frame.ensures.value ∙ sym copied ∙ sym (take_at c.copy_from_slice.new.self _ _ (ap length copied)))

pub returns-then-len-lt-HEADER-clause-none : goal.returns-then-len-lt-HEADER-clause-none
returns-then-len-lt-HEADER-clause-none c =
    let given = c.args.self.now.given.items in
    let gave = c.args.self.now.gave in
    let frame = c.index.result.now.items in
    let next = next_body given gave c.index.result.now (omega (arith, c.if-self-len.false)) c.index.ensures in
    let none : (length frame < 10) ⊎ (65545 < length frame) → HasNoFrame (drop gave (bodies_of given)) = λ size. subst HasNoFrame (sym next) size in
    elim c.then-len-lt-HEADER.branch [
      | then-len-lt-HEADER-via-then-len-lt-HEADER w ↦ rw w.self-is (none (inl (omega (arith, w.if-len-lt-HEADER, c.as_slice-frame.ensures.len))))
      | then-len-lt-HEADER-via-else-len-lt-HEADER+then-len-gt-LONGEST_FRAME w ↦ rw w.self-is (none (inr (omega (arith, w.if-len-gt-LONGEST_FRAME, c.as_slice-frame.ensures.len))))
    ]
