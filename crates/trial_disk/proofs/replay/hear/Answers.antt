use Rattle.std.proofs.Common.{◌∙◌, sym, subst, ℕ, List}
use Rattle.std.specs.Prelude.{OnOk}
use Rattle.trial_disk.specs.declared.call.Call.{Call}
use Rattle.trial_disk.specs.Recorded.{Since, Wrote, heard}
use Rattle.trial_disk.specs.DoneCalls.{done_of}
use Rattle.trial_disk.specs.Following.{Follows}
use Rattle.trial_disk.proofs.Steps.{after_write}
use Rattle.trial_disk.proofs.replay.hear.Goals as goal

pub returns-then-is_same : goal.returns-then-is_same
returns-then-is_same c =
    let r = c.args.replay.now in
    let new = c.hear_write.new.replay in
    let bytes = c.deref.result.now in
    let stepped : OnOk c.hear_write.result ((since : Since) → Follows c.args.choice since r.read.items r.left.items r.number → Follows c.args.choice (heard c.args.file (Wrote c.in-Write.of c.in-Write.at bytes) since) new.read.items new.left.items new.number) =
    after_write c.args.choice c.args.file c.in-Write.of c.in-Write.at bytes r.read.items r.left.items new.read.items new.left.items r.number new.number (sym c.is_same.ensures ∙ c.if-is_same.true) c.hear_write.result c.hear_write.ensures.read c.hear_write.ensures.left c.hear_write.ensures.number in
    subst (λ (call : Call). OnOk c.hear_write.result ((since : Since) → Follows c.args.choice since r.read.items r.left.items r.number → Follows c.args.choice (heard c.args.file (done_of call) since) new.read.items new.left.items new.number)) (sym c.in-Write.is)
    (subst (λ (b : List ℕ). OnOk c.hear_write.result ((since : Since) → Follows c.args.choice since r.read.items r.left.items r.number → Follows c.args.choice (heard c.args.file (Wrote c.in-Write.of c.in-Write.at b) since) new.read.items new.left.items new.number)) c.deref.ensures.value stepped)
