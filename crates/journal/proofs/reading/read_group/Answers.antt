use Rattle.std.proofs.Common.{◌≡◌, ◌+◌, ◌∙◌, ℕ, ap, arith, take, drop, length, length-take}
use Rattle.std.proofs.lemmas.List.{take_at}
use Rattle.journal.proofs.Whole.{too_long, whole, gate_is}
use Rattle.disk_model.proofs.Looking.{looks_once, looks_twice, looks_thrice}
use Rattle.journal.proofs.reading.read_group.Goals as goal

pub returns-in_err-read_at-clause-looks : goal.returns-in_err-read_at-clause-looks
returns-in_err-read_at-clause-looks g c =
    looks_once g.D.Disk.honest g.D.Disk.seen g.D.Disk.moment g.D.Disk.left g.met.D.Disk.earlier _ _
    (record { stays = c.read_at.ensures.seen; goes = c.read_at.ensures.crash })

pub returns-then-gate-ne1-clause-looks : goal.returns-then-gate-ne1-clause-looks
returns-then-gate-ne1-clause-looks g c =
    looks_once g.D.Disk.honest g.D.Disk.seen g.D.Disk.moment g.D.Disk.left g.met.D.Disk.earlier _ _
    (record { stays = c.read_at.ensures.seen; goes = c.read_at.ensures.crash })

pub returns-then-at-end-clause-looks : goal.returns-then-at-end-clause-looks
returns-then-at-end-clause-looks g c =
    looks_once g.D.Disk.honest g.D.Disk.seen g.D.Disk.moment g.D.Disk.left g.met.D.Disk.earlier _ _
    (record { stays = c.read_at.ensures.seen; goes = c.read_at.ensures.crash })

pub returns-in_err-read_at-2-clause-looks : goal.returns-in_err-read_at-2-clause-looks
returns-in_err-read_at-2-clause-looks g c =
    looks_twice g.D.Disk.honest g.D.Disk.seen g.D.Disk.moment g.D.Disk.left g.met.D.Disk.earlier _ _ _
    (record { stays = c.read_at.ensures.seen; goes = c.read_at.ensures.crash })
    c.in_ok-read_at.ensures.stays_honest
    (record { stays = c.read_at-2.ensures.seen; goes = c.read_at-2.ensures.crash })

pub returns-then-end-at-clause-looks : goal.returns-then-end-at-clause-looks
returns-then-end-at-clause-looks g c =
    looks_twice g.D.Disk.honest g.D.Disk.seen g.D.Disk.moment g.D.Disk.left g.met.D.Disk.earlier _ _ _
    (record { stays = c.read_at.ensures.seen; goes = c.read_at.ensures.crash })
    c.in_ok-read_at.ensures.stays_honest
    (record { stays = c.read_at-2.ensures.seen; goes = c.read_at-2.ensures.crash })

pub returns-in_err-body-clause-looks : goal.returns-in_err-body-clause-looks
returns-in_err-body-clause-looks g c =
    looks_twice g.D.Disk.honest g.D.Disk.seen g.D.Disk.moment g.D.Disk.left g.met.D.Disk.earlier _ _ _
    (record { stays = c.read_at.ensures.seen; goes = c.read_at.ensures.crash })
    c.in_ok-read_at.ensures.stays_honest
    (record { stays = c.read_at-2.ensures.seen; goes = c.read_at-2.ensures.crash })

pub returns-in_err-read_at-3-clause-looks : goal.returns-in_err-read_at-3-clause-looks
returns-in_err-read_at-3-clause-looks g c =
    looks_thrice g.D.Disk.honest g.D.Disk.seen g.D.Disk.moment g.D.Disk.left g.met.D.Disk.earlier _ _ _ _
    (record { stays = c.read_at.ensures.seen; goes = c.read_at.ensures.crash })
    c.in_ok-read_at.ensures.stays_honest
    (record { stays = c.read_at-2.ensures.seen; goes = c.read_at-2.ensures.crash })
    c.in_ok-read_at-2.ensures.stays_honest
    (record { stays = c.read_at-3.ensures.seen; goes = c.read_at-3.ensures.crash })

pub returns-clause-looks : goal.returns-clause-looks
returns-clause-looks g c =
    looks_thrice g.D.Disk.honest g.D.Disk.seen g.D.Disk.moment g.D.Disk.left g.met.D.Disk.earlier _ _ _ _
    (record { stays = c.read_at.ensures.seen; goes = c.read_at.ensures.crash })
    c.in_ok-read_at.ensures.stays_honest
    (record { stays = c.read_at-2.ensures.seen; goes = c.read_at-2.ensures.crash })
    c.in_ok-read_at-2.ensures.stays_honest
    (record { stays = c.read_at-3.ensures.seen; goes = c.read_at-3.ensures.crash })

pub returns-then-at-end-clause-broken : goal.returns-then-at-end-clause-broken
returns-then-at-end-clause-broken g c = λ h0 damaged.
    let file = g.D.Disk.seen c.args.disk.now c.args.file in
    record {
      open_gate = gate_is file c.read_at.new.bytes c.args.at (c.in_ok-read_at.ensures.read h0) c.if-gate-ne1.false;
      no_group = λ body group. omega (arith, group.within, c.requires.size h0);
    }

pub returns-then-end-at-clause-broken : goal.returns-then-end-at-clause-broken
returns-then-end-at-clause-broken g c = λ h0 damaged.
    let h1 = c.in_ok-read_at.ensures.stays_honest h0 in
    let file = g.D.Disk.seen c.args.disk.now c.args.file in
    let same1 = c.read_at.ensures.seen h0 c.args.file in
    let gate = gate_is file c.read_at.new.bytes c.args.at (c.in_ok-read_at.ensures.read h0) c.if-gate-ne1.false in
    let size = c.number_of-count.ensures ∙ c.in_ok-read_at-2.ensures.read h1 ∙ ap (λ l. take 4 (drop (c.args.at + 1) l)) same1 in
    too_long file c.args.at c.number_of-count.result gate (omega (arith, c.requires.size h0)) (omega arith) size (omega (arith, c.requires.size h0, c.from.ensures))

pub returns-in_err-body-clause-memory : goal.returns-in_err-body-clause-memory
returns-in_err-body-clause-memory g c = λ h0 memory.
    gate_is (g.D.Disk.seen c.args.disk.now c.args.file) c.read_at.new.bytes c.args.at (c.in_ok-read_at.ensures.read h0) c.if-gate-ne1.false

pub returns-clause-ok : goal.returns-clause-ok
returns-clause-ok g c = λ h0.
    let h1 = c.in_ok-read_at.ensures.stays_honest h0 in
    let file = g.D.Disk.seen c.args.disk.now c.args.file in
    let same1 = c.read_at.ensures.seen h0 c.args.file in
    let gate = gate_is file c.read_at.new.bytes c.args.at (c.in_ok-read_at.ensures.read h0) c.if-gate-ne1.false in
    let size = c.number_of-count.ensures ∙ c.in_ok-read_at-2.ensures.read h1 ∙ ap (λ l. take 4 (drop (c.args.at + 1) l)) same1 in
    let h2 = c.in_ok-read_at-2.ensures.stays_honest h1 in
    let same2 = c.read_at-2.ensures.seen h1 c.args.file ∙ same1 in
    let count : length c.deref_mut.result.now ≡ c.number_of-count.result = omega (arith, c.deref_mut.ensures.value, c.deref_mut.ensures.len, c.in_ok-body.ensures.len) in
    let read = c.in_ok-read_at-3.ensures.read h2 ∙ ap (λ l. take (length c.deref_mut.result.now) (drop (c.args.at + 5) l)) same2 ∙ ap (λ k. take k (drop (c.args.at + 5) file)) count in
    let body = take_at c.read_at-3.new.bytes (drop (length c.read_at-3.new.bytes) c.in_ok-body.body.items) c.in_ok-body.body.len (omega (arith, c.read_at-3.auto.bytes, c.deref_mut.ensures.len)) in
    whole file _ c.args.at c.number_of-count.result gate size (omega arith) (omega (arith, c.requires.size h0, c.from.ensures)) (body ∙ read)

pub returns-clause-within : goal.returns-clause-within
returns-clause-within g c = omega (arith, length-take {A = ℕ}, c.in_ok-body.ensures.len, c.from.ensures)
