use Rattle.std.proofs.Common.{◌≡◌, ◌+◌, ◌<◌, Some, None, IsSomeAnd, refl, sym, ap, ◌∙◌, subst, arith}
use Rattle.rows.specs.Held.{Entries, Puts, value_at}
use Rattle.mappings.specs.declared.map.Counted.{Counted}
use Rattle.mappings.specs.Indexed.{number_of, mappings_in}
use Rattle.mappings.specs.Map.{times_in}
use Rattle.mappings.proofs.Changed.{Updates-write, Gains-up, Gains-new, AreIndexed-counts, AreIndexed-more, AreIndexed-same}
use Rattle.mappings.proofs.Found.{found_is, inside_free}
use Rattle.mappings.proofs.PairSlots.{pairs-more, pairs-same}
use Rattle.mappings.proofs.Slots.{times-slot}
use Rattle.mappings.proofs.index.add_reserved.Goals as goal

one_more : Counted → Counted
one_more entry = record entry { count = entry.count + 1 }

pub count_up-requires : goal.count_up-requires
count_up-requires c =
    let index = c.args.index.now in
    let slot = c.in-Ok-Some.there in
    let told = rw c.in-Ok-Some.field-0-is at c.in-Ok-Some.ensures.found in
    let found : value_at index.outside.held (number_of c.args.mapping) ≡ Some slot = ap (value_at index.outside.held) (sym c.mapping_key-key.ensures.value) ∙ sym told in
    let there = found_is _ _ c.requires.indexed c.args.mapping c.requires.one_to_one slot c.mapping_key-key.ensures.endpoint found in
    let few : there.0.count < 65536 = omega (arith, times-slot index.mappings.slots slot there.0 there.1, ap (times_in (mappings_in index.mappings.slots)) there.2, c.requires.few) in
    subst (λ o. IsSomeAnd o (λ (e : Counted). e.count < 65536)) (sym there.1) few

pub returns-in-Ok-Some-clause-indexed : goal.returns-in-Ok-Some-clause-indexed
unfolding one_more
returns-in-Ok-Some-clause-indexed c =
    let index = c.args.index.now in
    let mappings = index.mappings in
    let slot = c.in-Ok-Some.there in
    let told = rw c.in-Ok-Some.field-0-is at c.in-Ok-Some.ensures.found in
    let same_map = (rw c.in-Ok-Some.field-0-is at c.in-Ok-Some.ensures.kept) refl in
    let found : value_at index.outside.held (number_of c.args.mapping) ≡ Some slot = ap (value_at index.outside.held) (sym c.mapping_key-key.ensures.value) ∙ sym told in
    let there = found_is _ _ c.requires.indexed c.args.mapping c.requires.one_to_one slot c.mapping_key-key.ensures.endpoint found in
    let indexed = AreIndexed-same mappings.slots index.outside.held c.get_or_insert.new.self.held (λ number. ap (λ (m : Entries). value_at m.held number) same_map) c.requires.indexed in
    let written = Updates-write mappings c.count_up.new.mappings slot one_more there.0 there.1 c.count_up.ensures in
    AreIndexed-counts mappings c.count_up.new.mappings slot _ indexed there.0 (one_more there.0) written there.1 refl (omega arith)

pub returns-in-Ok-Some-clause-gains : goal.returns-in-Ok-Some-clause-gains
unfolding one_more
returns-in-Ok-Some-clause-gains c =
    let index = c.args.index.now in
    let mappings = index.mappings in
    let slot = c.in-Ok-Some.there in
    let told = rw c.in-Ok-Some.field-0-is at c.in-Ok-Some.ensures.found in
    let found : value_at index.outside.held (number_of c.args.mapping) ≡ Some slot = ap (value_at index.outside.held) (sym c.mapping_key-key.ensures.value) ∙ sym told in
    let there = found_is _ _ c.requires.indexed c.args.mapping c.requires.one_to_one slot c.mapping_key-key.ensures.endpoint found in
    let written = Updates-write mappings c.count_up.new.mappings slot one_more there.0 there.1 c.count_up.ensures in
    Gains-up mappings c.count_up.new.mappings slot there.0 (one_more there.0) c.args.mapping written there.1 there.2 there.2 refl

pub returns-in-Ok-Some-clause-stayed : goal.returns-in-Ok-Some-clause-stayed
unfolding one_more
returns-in-Ok-Some-clause-stayed c =
    let index = c.args.index.now in
    let mappings = index.mappings in
    let slot = c.in-Ok-Some.there in
    let told = rw c.in-Ok-Some.field-0-is at c.in-Ok-Some.ensures.found in
    let found : value_at index.outside.held (number_of c.args.mapping) ≡ Some slot = ap (value_at index.outside.held) (sym c.mapping_key-key.ensures.value) ∙ sym told in
    let there = found_is _ _ c.requires.indexed c.args.mapping c.requires.one_to_one slot c.mapping_key-key.ensures.endpoint found in
    let written = Updates-write mappings c.count_up.new.mappings slot one_more there.0 there.1 c.count_up.ensures in
    pairs-same mappings.slots c.count_up.new.mappings.slots slot written.others there.0 (one_more there.0) there.1 written.changed refl

pub returns-in-Ok-None-clause-indexed : goal.returns-in-Ok-None-clause-indexed
returns-in-Ok-None-clause-indexed c =
    let index = c.args.index.now in
    let p = c.args.mapping in
    let map = c.get_or_insert.new.self in
    let told = rw c.in-Ok-None.field-0-is at c.in-Ok-None.ensures.found in
    let put_told = (rw c.in-Ok-None.field-0-is at c.in-Ok-None.ensures.put) refl in
    let free : value_at index.outside.held (number_of p) ≡ None = ap (value_at index.outside.held) (sym c.mapping_key-key.ensures.value) ∙ sym told in
    let slot : c.vacant_key-slot.result ≡ c.insert_reserved.result = c.vacant_key-slot.ensures.value ∙ sym c.insert_reserved.ensures.key in
    let put = subst (λ n. Puts index.outside.held map.held n (Some c.vacant_key-slot.result)) c.mapping_key-key.ensures.value put_told in
    AreIndexed-more index.mappings c.insert_reserved.new.self c.insert_reserved.result index.outside.held c.requires.indexed map.held (record { mapping = p; count = 1 })
    c.insert_reserved.ensures.updates c.insert_reserved.ensures.was_vacant free (inside_free _ _ c.requires.indexed p c.requires.one_to_one free)
    (subst (λ s. Puts index.outside.held map.held (number_of p) (Some s)) slot put) (record { held = omega arith; inside = c.mapping_key.ensures.endpoint; outside = c.mapping_key-key.ensures.endpoint })

pub returns-in-Ok-None-clause-gains : goal.returns-in-Ok-None-clause-gains
returns-in-Ok-None-clause-gains c =
    Gains-new c.args.index.now.mappings c.insert_reserved.new.self c.insert_reserved.result (record { mapping = c.args.mapping; count = 1 }) c.insert_reserved.ensures.updates c.insert_reserved.ensures.was_vacant refl

pub returns-in-Ok-None-clause-came : goal.returns-in-Ok-None-clause-came
returns-in-Ok-None-clause-came c =
    let updates = c.insert_reserved.ensures.updates in
    pairs-more c.args.index.now.mappings.slots c.insert_reserved.new.self.slots c.insert_reserved.result updates.others (record { mapping = c.args.mapping; count = 1 }) c.insert_reserved.ensures.was_vacant updates.changed
