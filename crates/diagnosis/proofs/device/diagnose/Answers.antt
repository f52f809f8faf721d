use Rattle.std.proofs.Common.{◌≡◌, ◌∙◌, ℕ, List, subst}
use Rattle.disk_model.specs.declared.disk.FileId.TheVariants.{A, B}
use Rattle.disk_model.proofs.Moments.{looks_then}
use Rattle.disk_model.specs.Disk.{pair}
use Rattle.diagnosis.specs.Finding.{IsFinding}
use Rattle.diagnosis.proofs.device.diagnose.Goals as goal

pub returns-in_err-b-clause-looks : goal.returns-in_err-b-clause-looks
returns-in_err-b-clause-looks g c = λ h0.
    let mid = c.contents.new.disk in
    let h1 = c.in_ok-a.ensures.stays_honest (λ told. absurd cc) h0 in
    looks_then g.D.Disk.moment g.D.Disk.left g.D.Disk.seen c.args.disk.now mid c.contents-2.new.disk (g.met.D.Disk.earlier mid) (c.contents.ensures.looks h0) (c.contents-2.ensures.looks h1)

pub returns-in_err-finding-clause-looks : goal.returns-in_err-finding-clause-looks
returns-in_err-finding-clause-looks g c = λ h0.
    let mid = c.contents.new.disk in
    let h1 = c.in_ok-a.ensures.stays_honest (λ told. absurd cc) h0 in
    looks_then g.D.Disk.moment g.D.Disk.left g.D.Disk.seen c.args.disk.now mid c.contents-2.new.disk (g.met.D.Disk.earlier mid) (c.contents.ensures.looks h0) (c.contents-2.ensures.looks h1)

pub returns-clause-looks : goal.returns-clause-looks
returns-clause-looks g c = λ h0.
    let mid = c.contents.new.disk in
    let h1 = c.in_ok-a.ensures.stays_honest (λ told. absurd cc) h0 in
    looks_then g.D.Disk.moment g.D.Disk.left g.D.Disk.seen c.args.disk.now mid c.contents-2.new.disk (g.met.D.Disk.earlier mid) (c.contents.ensures.looks h0) (c.contents-2.ensures.looks h1)

pub returns-clause-ok : goal.returns-clause-ok
returns-clause-ok g c = λ h0.
    let config = c.args.bounds.now in
    let finding = c.in_ok-finding.finding in
    let h1 = c.in_ok-a.ensures.stays_honest (λ told. absurd cc) h0 in
    let first : c.deref.result.now ≡ g.D.Disk.seen c.args.disk.now A = c.deref.ensures.value ∙ c.in_ok-a.ensures.ok h0 in
    let second : c.deref-2.result.now ≡ g.D.Disk.seen c.args.disk.now B = c.deref-2.ensures.value ∙ c.in_ok-b.ensures.ok h1 ∙ (c.contents.ensures.looks h0).stays B in
    subst (λ (l : List ℕ). IsFinding config (pair l (g.D.Disk.seen c.args.disk.now B)) finding) first (subst (λ (l : List ℕ). IsFinding config (pair c.deref.result.now l) finding) second c.in_ok-finding.ensures)
