use Rattle.std.proofs.Common.{rules, ◌≡◌, Bool, true, subst}
use Rattle.diagnosis.specs.Probing.{TellsBegin}
use Rattle.diagnosis.proofs.reading.fault_of.Goals as goal

pub returns : goal.returns
returns c =
    let is : c.in_ok-begins.field-0 ≡ true = search rules in
    let told = subst (λ (b : Bool). TellsBegin c.args.file.now b) is c.in_ok-begins.ensures in
    (told.0, told.1, told.2, λ d end. c.requires.nothing told.0 d end)
