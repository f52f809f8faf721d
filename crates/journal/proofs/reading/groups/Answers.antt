use Rattle.std.proofs.Common.{◌≡◌, ◌+◌, ◌∙◌, ℕ, List, get_or, sym, ap, subst, arith}
use borrow.Author.Rules.{rules}
use Rattle.std.proofs.lemmas.List.{map_push}
use Rattle.std.proofs.lemmas.Result.{err_from_is_err_and}
use Rattle.std.specs.Prelude.{Result, Ok, Err}
use Rattle.disk_model.proofs.Moments.{looks_then}
use Rattle.journal.specs.Groups.{bodies_of, IsRead, IsBrokenAt, GroupAt}
use Rattle.journal.proofs.Leading.{Read, no_more, read_on, torn_there, first_byte, first_open}
use Rattle.disk_model.proofs.Looking.{looks_once}
use Rattle.journal.proofs.reading.groups.Goals as goal

error_or : {T E : Type 0} → E → Result T E → E
error_or other (Ok x) = other
error_or other (Err e) = e

same_error : {T E : Type 0} (r : Result T E) (x y : E) → r ≡ Err x → r ≡ Err y → x ≡ y
unfolding error_or
same_error r x y first second = ap (λ q. error_or x q) (sym first ∙ second)

pub returns-in_err-end-clause-looks : goal.returns-in_err-end-clause-looks
returns-in_err-end-clause-looks g c =
    looks_once g.D.Disk.honest g.D.Disk.seen g.D.Disk.moment g.D.Disk.left g.met.D.Disk.earlier _ _
    (record { stays = c.len.ensures.seen; goes = c.len.ensures.crash })

pub returns-in_err-body-clause-looks : goal.returns-in_err-body-clause-looks
returns-in_err-body-clause-looks g c = λ h0.
    let h = c.loop-bodies.invariant.honest.0 h0 in
    looks_then g.D.Disk.moment g.D.Disk.left g.D.Disk.seen _ c.loop-bodies.disk _ (g.met.D.Disk.earlier c.loop-bodies.disk) (c.loop-bodies.invariant.looks h0) (c.read_group.ensures.looks h)

pub returns-in_err-push-clause-looks : goal.returns-in_err-push-clause-looks
returns-in_err-push-clause-looks g c = λ h0.
    let h = c.loop-bodies.invariant.honest.0 h0 in
    looks_then g.D.Disk.moment g.D.Disk.left g.D.Disk.seen _ c.loop-bodies.disk _ (g.met.D.Disk.earlier c.loop-bodies.disk) (c.loop-bodies.invariant.looks h0) (c.read_group.ensures.looks h)

pub returns-clause-looks : goal.returns-clause-looks
returns-clause-looks g c = λ h0.
    let h = c.loop-bodies.invariant.honest.0 h0 in
    looks_then g.D.Disk.moment g.D.Disk.left g.D.Disk.seen _ c.loop-bodies.disk _ (g.met.D.Disk.earlier c.loop-bodies.disk) (c.loop-bodies.invariant.looks h0) (c.read_group.ensures.looks h)

pub returns-in_err-body-clause-damaged : goal.returns-in_err-body-clause-damaged
returns-in_err-body-clause-damaged g c = λ h0 damaged others end groups.
    let h = c.loop-bodies.invariant.honest.0 h0 in
    let p = err_from_is_err_and c.from_residual-in_err-body.result c.from_residual-in_err-body.ensures.1 in
    let file = c.args.file in
    let torn = c.in_err-body.ensures.broken h (ap Err (sym p.2 ∙ same_error _ _ _ p.1 damaged)) in
    let here = subst (λ l. IsBrokenAt l c.loop-bodies.place) ((c.loop-bodies.invariant.looks h0).stays file) torn in
    torn_there _ c.args.at c.loop-bodies.place _ (c.loop-bodies.invariant.read h0) here others end groups

pub returns-in_err-body-clause-memory : goal.returns-in_err-body-clause-memory
returns-in_err-body-clause-memory g c = λ h0 memory.
    let h = c.loop-bodies.invariant.honest.0 h0 in
    let p = err_from_is_err_and c.from_residual-in_err-body.result c.from_residual-in_err-body.ensures.1 in
    let gate = c.in_err-body.ensures.memory h (ap Err (sym p.2 ∙ same_error _ _ _ p.1 memory)) in
    let here = subst (λ (l : List ℕ). get_or l c.loop-bodies.place 0 ≡ 1) ((c.loop-bodies.invariant.looks h0).stays c.args.file) gate in
    first_open _ c.args.at c.loop-bodies.place _ (c.loop-bodies.invariant.read h0) here

pub returns-in_err-push-clause-memory : goal.returns-in_err-push-clause-memory
returns-in_err-push-clause-memory g c = λ h0 memory.
    let h = c.loop-bodies.invariant.honest.0 h0 in
    let file = c.args.file in
    let group : GroupAt (g.D.Disk.seen c.loop-bodies.disk file) c.loop-bodies.place c.in-Some.body.items = subst (λ o. IsRead (g.D.Disk.seen c.loop-bodies.disk file) c.loop-bodies.place o) c.in-Some.is (c.in_ok-body.ensures.ok h) in
    let here = subst (λ l. GroupAt l c.loop-bodies.place c.in-Some.body.items) ((c.loop-bodies.invariant.looks h0).stays file) group in
    first_open _ c.args.at c.loop-bodies.place _ (c.loop-bodies.invariant.read h0) (first_byte _ c.loop-bodies.place 1 _ here.split)

pub loop-bodies-init : goal.loop-bodies-init
loop-bodies-init g c = record {
  honest = (c.in_ok-end.ensures.stays_honest, c.len.ensures.honest);
  looks =
      looks_once g.D.Disk.honest g.D.Disk.seen g.D.Disk.moment g.D.Disk.left g.met.D.Disk.earlier _ _
      (record { stays = c.len.ensures.seen; goes = c.len.ensures.crash });
  read = λ h0. rw c.new-bodies.ensures.items (no_more _ _ (c.requires h0));
  size = search rules;
  failures = search rules;
}

pub loop-bodies-preserved : goal.loop-bodies-preserved
loop-bodies-preserved g c = record {
  honest = (λ h. c.in_ok-body.ensures.stays_honest (λ told. absurd cc) (c.loop-bodies.invariant.honest.0 h), λ h. c.loop-bodies.invariant.honest.1 (c.read_group.ensures.honest h));
  looks = λ h0.
      let h = c.loop-bodies.invariant.honest.0 h0 in
      looks_then g.D.Disk.moment g.D.Disk.left g.D.Disk.seen _ c.loop-bodies.disk _ (g.met.D.Disk.earlier c.loop-bodies.disk) (c.loop-bodies.invariant.looks h0) (c.read_group.ensures.looks h);
  read = λ h0.
      let h = c.loop-bodies.invariant.honest.0 h0 in
      let file = c.args.file in
      let group : GroupAt (g.D.Disk.seen c.loop-bodies.disk file) c.loop-bodies.place c.in-Some.body.items = subst (λ o. IsRead (g.D.Disk.seen c.loop-bodies.disk file) c.loop-bodies.place o) c.in-Some.is (c.in_ok-body.ensures.ok h) in
      let here = subst (λ l. GroupAt l c.loop-bodies.place c.in-Some.body.items) ((c.loop-bodies.invariant.looks h0).stays file) group in
      let more = read_on (g.D.Disk.seen c.args.disk.now file) c.args.at c.loop-bodies.place (c.loop-bodies.place + (5 + c.len-in-Some.result)) (bodies_of c.loop-bodies.bodies.items) c.in-Some.body.items (c.loop-bodies.invariant.read h0) here (omega (arith, c.len-in-Some.ensures)) in
      subst (λ l. Read (g.D.Disk.seen c.args.disk.now file) c.args.at l (c.loop-bodies.place + (5 + c.len-in-Some.result))) (sym (ap bodies_of c.in_ok-push.ensures.items ∙ map_push _ c.loop-bodies.bodies.items c.in-Some.body)) more;
  size = c.loop-bodies.invariant.size;
  failures = c.in_ok-body.ensures.cause.others (λ told. absurd cc) ∙ c.loop-bodies.invariant.failures;
}
