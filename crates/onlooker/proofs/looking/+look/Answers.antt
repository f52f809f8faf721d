use Rattle.std.proofs.Common.{arith, inl, inr, subst, ◌-◌, ◌<◌, ◌≤◌, ◌+◌}
use Rattle.durable.specs.Entering.{durable}
use Rattle.onlooker.specs.Looking.{IsWhy, SeesState}
use Rattle.onlooker.specs.declared.fault.LookFault.{LookFault}
use Rattle.onlooker.specs.declared.looking.Seen.{Seen}
use Rattle.onlooker.proofs.Whys.{first_ok, last_all, more_all, more_err, more_ok}
use Rattle.onlooker.proofs.looking.+look.Goals as goal

pub returns-in-Err-Changing-clause-ok : goal.returns-in-Err-Changing-clause-ok
returns-in-Err-Changing-clause-ok g t c =
    let gives = g.F.Readable.gives in
    let config = c.args.bounds.now in
    let old = c.args.files.now in
    let mid = c.look_once.new.files in
    let vain = subst (λ (fault : LookFault). IsWhy gives config old mid fault) c.in-Err-Changing.field-0-is c.in-Err-Changing.ensures.err in
    let less : (c.args.most - 1) + 1 ≤ c.args.most = omega (arith, c.if-most-gt1.true) in
    more_ok gives c.look.result (λ from (seen : Seen). SeesState gives config from c.look.new.files (durable seen.text.items seen.sessions.items))
    c.args.most (c.args.most - 1) old mid (inl vain) less c.look.ensures.ok

pub returns-in-Err-Changing-clause-err : goal.returns-in-Err-Changing-clause-err
returns-in-Err-Changing-clause-err g t c =
    let gives = g.F.Readable.gives in
    let config = c.args.bounds.now in
    let old = c.args.files.now in
    let mid = c.look_once.new.files in
    let vain = subst (λ (fault : LookFault). IsWhy gives config old mid fault) c.in-Err-Changing.field-0-is c.in-Err-Changing.ensures.err in
    let less : (c.args.most - 1) + 1 ≤ c.args.most = omega (arith, c.if-most-gt1.true) in
    more_err gives c.look.result (λ from (fault : LookFault). IsWhy gives config from c.look.new.files fault)
    c.args.most (c.args.most - 1) old mid (inl vain) less c.look.ensures.err

pub returns-in-Err-Damaged-clause-ok : goal.returns-in-Err-Damaged-clause-ok
returns-in-Err-Damaged-clause-ok g t c =
    let gives = g.F.Readable.gives in
    let config = c.args.bounds.now in
    let old = c.args.files.now in
    let mid = c.look_once.new.files in
    let vain = subst (λ (fault : LookFault). IsWhy gives config old mid fault) c.in-Err-Damaged.field-0-is c.in-Err-Damaged.ensures.err in
    let less : (c.args.most - 1) + 1 ≤ c.args.most = omega (arith, c.if-most-gt1-2.true) in
    more_ok gives c.look-in-Err-Damaged.result (λ from (seen : Seen). SeesState gives config from c.look-in-Err-Damaged.new.files (durable seen.text.items seen.sessions.items))
    c.args.most (c.args.most - 1) old mid (inr vain) less c.look-in-Err-Damaged.ensures.ok

pub returns-in-Err-Damaged-clause-err : goal.returns-in-Err-Damaged-clause-err
returns-in-Err-Damaged-clause-err g t c =
    let gives = g.F.Readable.gives in
    let config = c.args.bounds.now in
    let old = c.args.files.now in
    let mid = c.look_once.new.files in
    let vain = subst (λ (fault : LookFault). IsWhy gives config old mid fault) c.in-Err-Damaged.field-0-is c.in-Err-Damaged.ensures.err in
    let less : (c.args.most - 1) + 1 ≤ c.args.most = omega (arith, c.if-most-gt1-2.true) in
    more_err gives c.look-in-Err-Damaged.result (λ from (fault : LookFault). IsWhy gives config from c.look-in-Err-Damaged.new.files fault)
    c.args.most (c.args.most - 1) old mid (inr vain) less c.look-in-Err-Damaged.ensures.err

pub returns-in_default-4-clause-ok : goal.returns-in_default-4-clause-ok
returns-in_default-4-clause-ok g t c =
    let gives = g.F.Readable.gives in
    let config = c.args.bounds.now in
    first_ok gives c.look_once.result (λ from (seen : Seen). SeesState gives config from c.look_once.new.files (durable seen.text.items seen.sessions.items))
    c.args.most c.args.files.now c.requires c.look_once.ensures.ok

pub returns-in-Err-Changing-clause-all : goal.returns-in-Err-Changing-clause-all
returns-in-Err-Changing-clause-all g t c =
    let gives = g.F.Readable.gives in
    let mid = c.look_once.new.files in
    let vain = subst (λ (fault : LookFault). IsWhy gives c.args.bounds.now c.args.files.now mid fault) c.in-Err-Changing.field-0-is c.in-Err-Changing.ensures.err in
    let more : 1 < c.args.most = omega (arith, c.if-most-gt1.true) in
    more_all gives c.look.result c.args.most c.args.files.now mid c.look.new.files more (inl vain) c.look.ensures.all

pub returns-in-Err-Damaged-clause-all : goal.returns-in-Err-Damaged-clause-all
returns-in-Err-Damaged-clause-all g t c =
    let gives = g.F.Readable.gives in
    let mid = c.look_once.new.files in
    let vain = subst (λ (fault : LookFault). IsWhy gives c.args.bounds.now c.args.files.now mid fault) c.in-Err-Damaged.field-0-is c.in-Err-Damaged.ensures.err in
    let more : 1 < c.args.most = omega (arith, c.if-most-gt1-2.true) in
    more_all gives c.look-in-Err-Damaged.result c.args.most c.args.files.now mid c.look-in-Err-Damaged.new.files more (inr vain) c.look-in-Err-Damaged.ensures.all

pub returns-in_default-2-clause-all : goal.returns-in_default-2-clause-all
returns-in_default-2-clause-all g t c =
    let few : c.args.most ≤ 1 = omega (arith, c.if-most-gt1-2.false) in
    last_all g.F.Readable.gives c.args.bounds.now c.in-Err-Damaged.field-0 c.args.most c.args.files.now c.look_once.new.files c.requires few c.in-Err-Damaged.ensures.err
