use Rattle.std.proofs.Common.{refl}
use Rattle.std.proofs.lemmas.Bool.{OnFalse_at, OnTrue_at}
use Rattle.hairpin.proofs.Following.{before_release, after_release, freed_none, freed_one, was_taken}
use Rattle.hairpin.proofs.translations.Translations.release_mapping.Goals as goal

pub free-requires-clause-is_taken : goal.free-requires-clause-is_taken
free-requires-clause-is_taken c =
    let map = c.release_told.new.self in
    let ports = c.self.inside.ports in
    was_taken map c.args.mapping ports ports (before_release c.self.inside.map map c.args.mapping ports ports c.self.invariant c.release_told.ensures.loses)

pub invariant_of-self : goal.invariant_of-self
invariant_of-self c =
    let map = c.release_told.new.self in
    let ports = c.self.inside.ports in
    let old = c.self.inside.map in
    let taken = before_release old map c.args.mapping ports ports c.self.invariant c.release_told.ensures.loses in
    let gone = OnTrue_at c.if-release_told.true c.release_told.ensures.gone in
    after_release old map c.args.mapping ports c.free.new.self c.self.invariant c.release_told.ensures.loses c.free.ensures.addresses
    (freed_one map c.args.mapping ports c.free.new.self taken gone c.free.ensures.others c.free.ensures.is_free)

pub invariant_of-self-else-release_told : goal.invariant_of-self-else-release_told
invariant_of-self-else-release_told c =
    let map = c.release_told.new.self in
    let ports = c.self.inside.ports in
    let old = c.self.inside.map in
    let p = c.args.mapping in
    let taken = before_release old map p ports ports c.self.invariant c.release_told.ensures.loses in
    let held = OnFalse_at c.if-release_told.false c.release_told.ensures.stays in
    after_release old map p ports ports c.self.invariant c.release_told.ensures.loses refl
    (freed_none map p ports ports taken (p.inside, held))
