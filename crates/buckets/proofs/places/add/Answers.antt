use Rattle.std.proofs.Common.{Some, Result, Ok, Err, OnOk, OnErr, sym, ◌∙◌, subst}
use Rattle.std.proofs.lemmas.Result.{on_ok_weaker}
use Rattle.rows.specs.Held.{Puts}
use Rattle.buckets.specs.Places.{HasNowhere, AreSound, all_in}
use Rattle.buckets.proofs.Values.{more-sound, more-puts, all-nowhere, all-none, none-nowhere, overflow-puts, overflow-sound}
use Rattle.buckets.proofs.places.add.Goals as goal

pub returns-then-put_in_place-clause-sound : goal.returns-then-put_in_place-clause-sound
returns-then-put_in_place-clause-sound c =
    let put = c.if-put_in_place.ensures.put in
    more-sound c.args.places.now c.put_in_place.new.places put.0 (record { key = c.args.key; value = c.args.value }) c.args.overflow.now.held put.2 c.requires.sound put.1 c.requires.absent

pub returns-then-put_in_place-clause-ok : goal.returns-then-put_in_place-clause-ok
returns-then-put_in_place-clause-ok c =
    let put = c.if-put_in_place.ensures.put in
    more-puts c.args.places.now c.put_in_place.new.places put.0 (record { key = c.args.key; value = c.args.value }) c.args.overflow.now.held put.2 c.requires.sound put.1 c.requires.absent

pub insert-requires : goal.insert-requires
insert-requires c =
    let places = c.args.places.now in
    let over = c.args.overflow.now.held in
    sym (all-none places over c.args.key (all-nowhere places over c.args.key c.requires.absent)) ∙ c.requires.absent

-- no place has the key
nowhere : (c : goal.After-insert) → HasNowhere c.args.places.now c.args.key
nowhere c = none-nowhere c.args.places.now c.args.key (all-nowhere c.args.places.now c.args.overflow.now.held c.args.key c.requires.absent)

either_way : {A E P Q R : Type 0} (r : Result A E) → OnOk r P → OnErr r Q → (P → R) → (Q → R) → R
either_way (Ok x) p q f g = f p
either_way (Err e) p q f g = g q

pub returns-clause-sound : goal.returns-clause-sound
returns-clause-sound c =
    let places = c.args.places.now in
    subst (λ ps. AreSound ps c.insert.new.self.held) (sym c.if-put_in_place.ensures.kept) (either_way c.insert.result c.insert.ensures.ok c.insert.ensures.err
    (λ puts. overflow-sound places c.args.overflow.now.held c.insert.new.self.held c.args.key (Some c.args.value) (nowhere c) puts c.requires.sound)
    (λ same. subst (AreSound places) (sym same) c.requires.sound))

pub returns-clause-ok : goal.returns-clause-ok
returns-clause-ok c =
    let places = c.args.places.now in
    on_ok_weaker c.insert.result (λ puts. subst (λ ps. Puts (all_in places c.args.overflow.now.held) (all_in ps c.insert.new.self.held) c.args.key (Some c.args.value)) (sym c.if-put_in_place.ensures.kept)
    (overflow-puts places c.args.overflow.now.held c.insert.new.self.held c.args.key (Some c.args.value) (nowhere c) puts)) c.insert.ensures.ok
