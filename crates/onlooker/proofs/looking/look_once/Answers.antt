use Rattle.std.proofs.lemmas.Result.{IfErr-weaker, IfOk-weaker}
use Rattle.disk_model.specs.Disk.{pair}
use Rattle.durable.specs.Entering.{durable}
use Rattle.onlooker.specs.Looking.{IsUnfit, IsWhy, SeesState, StandsFor}
use Rattle.onlooker.specs.declared.fault.LookFault.{LookFault}
use Rattle.onlooker.specs.declared.looking.Seen.{Seen}
use Rattle.onlooker.proofs.Whys.{sees_as, why_of_unfit}
use Rattle.onlooker.proofs.looking.look_once.Goals as goal

pub returns-clause-ok : goal.returns-clause-ok
returns-clause-ok g c =
    let config = c.args.bounds.now in
    let files = pair c.deref.result.now c.deref-2.result.now in
    let sees = sees_as g.F.Readable.gives c.args.files.now c.see.new.files _ _ _ _ c.deref.ensures.value c.deref-2.ensures.value c.in_ok-read.ensures.ok in
    IfOk-weaker c.state_of.result (λ (seen : Seen). StandsFor config files (durable seen.text.items seen.sessions.items))
    (λ (seen : Seen). SeesState g.F.Readable.gives config c.args.files.now c.see.new.files (durable seen.text.items seen.sessions.items))
    (λ seen stands. record { files = files; sees = sees; stands = stands }) c.state_of.ensures.ok

pub returns-clause-err : goal.returns-clause-err
returns-clause-err g c =
    let config = c.args.bounds.now in
    let files = pair c.deref.result.now c.deref-2.result.now in
    let sees = sees_as g.F.Readable.gives c.args.files.now c.see.new.files _ _ _ _ c.deref.ensures.value c.deref-2.ensures.value c.in_ok-read.ensures.ok in
    IfErr-weaker c.state_of.result (λ (fault : LookFault). IsUnfit config files fault) (λ (fault : LookFault). IsWhy g.F.Readable.gives config c.args.files.now c.see.new.files fault)
    (why_of_unfit g.F.Readable.gives config c.args.files.now c.see.new.files files sees) c.state_of.ensures.err
