use Rattle.std.proofs.Common.{Some, Result, Ok, Err, OnOk, OnErr, true, sym, ◌∙◌, subst}
use Rattle.std.proofs.lemmas.Result.{on_ok_weaker, on_err_weaker}
use Rattle.rows.specs.Held.{Puts}
use Rattle.buckets.specs.Places.{all_in}
use Rattle.buckets.specs.ByPort.{ArePlaced}
use Rattle.buckets.proofs.Placed.{put-placed, put-puts, others-placed, others-same, kept-placed}
use Rattle.buckets.proofs.Values.{overflow-puts, all-nowhere, all-none, none-nowhere}
use Rattle.buckets.proofs.by_port.put_in.Goals as goal

pub returns-then-put_at_home-clause-placed : goal.returns-then-put_at_home-clause-placed
returns-then-put_at_home-clause-placed c =
    let put = c.if-put_at_home.ensures in
    put-placed c.args.places.now c.put_at_home.new.places (record { key = c.args.key; value = c.args.value }) c.args.others.now.held put.put c.requires.placed.home c.requires.placed.once put.free c.requires.absent c.args.has_others.now c.requires.placed.none

pub returns-then-put_at_home-clause-ok : goal.returns-then-put_at_home-clause-ok
returns-then-put_at_home-clause-ok c =
    let put = c.if-put_at_home.ensures in
    put-puts c.args.places.now c.put_at_home.new.places (record { key = c.args.key; value = c.args.value }) c.args.others.now.held put.put c.requires.placed.home c.requires.placed.once put.free c.requires.absent

pub insert-requires : goal.insert-requires
insert-requires c =
    let places = c.args.places.now in
    let others = c.args.others.now.held in
    sym (all-none places others c.args.key (all-nowhere places others c.args.key c.requires.absent)) ∙ c.requires.absent

either_way : {A E P Q R : Type 0} (r : Result A E) → OnOk r P → OnErr r Q → (P → R) → (Q → R) → R
either_way (Ok x) p q f g = f p
either_way (Err e) p q f g = g q

pub returns-clause-placed : goal.returns-clause-placed
returns-clause-placed c =
    let places = c.args.places.now in
    let others = c.args.others.now.held in
    let nowhere = none-nowhere places c.args.key (all-nowhere places others c.args.key c.requires.absent) in
    subst (λ ps. ArePlaced ps c.insert.new.self.held true) (sym c.if-put_at_home.ensures.kept) (either_way c.insert.result c.insert.ensures.ok c.insert.ensures.err
    (λ puts. others-placed places others c.insert.new.self.held c.args.key (Some c.args.value) nowhere puts c.requires.placed.home c.requires.placed.once)
    (λ same. kept-placed places others c.insert.new.self.held same c.requires.placed.home c.requires.placed.once))

pub returns-clause-ok : goal.returns-clause-ok
returns-clause-ok c =
    let places = c.args.places.now in
    let others = c.args.others.now.held in
    let nowhere = none-nowhere places c.args.key (all-nowhere places others c.args.key c.requires.absent) in
    on_ok_weaker c.insert.result (λ puts. subst (λ ps. Puts (all_in places others) (all_in ps c.insert.new.self.held) c.args.key (Some c.args.value)) (sym c.if-put_at_home.ensures.kept)
    (overflow-puts places others c.insert.new.self.held c.args.key (Some c.args.value) nowhere puts)) c.insert.ensures.ok

pub returns-clause-err : goal.returns-clause-err
returns-clause-err c =
    on_err_weaker c.insert.result (λ same other. others-same c.args.places.now c.put_at_home.new.places c.args.others.now.held c.insert.new.self.held other c.if-put_at_home.ensures.kept (same other)) c.insert.ensures.err
