use Rattle.std.proofs.Common.{◌≡◌, Bool, None, true}
use Rattle.std.specs.Bool.{OnTrue}
use Rattle.std.proofs.lemmas.Bool.{OnTrue_at, OnTrue_from}
use Rattle.packet.specs.declared.endpoint.Endpoint.{Endpoint}
use Rattle.rows.specs.Held.{value_at}
use Rattle.mappings.specs.declared.index.Index.{Index}
use Rattle.mappings.specs.declared.map.Mapping.{Mapping}
use Rattle.mappings.specs.Indexed.{IsIndexed, held_in, number_of}
use Rattle.mappings.specs.Map.{mapping, times_in}
use Rattle.mappings.proofs.Found.{not_held}
use Rattle.mappings.proofs.map.release.Goals as goal

-- no mapping is held that has this one's outside endpoint
abbrev NoneHas : Index → Mapping → Type 0
NoneHas index p = (inside : Endpoint) → times_in (held_in index) (mapping p.proto inside p.outside) ≡ 0

-- once the map doesn't lead from there
none_has : (index : Index) (p : Mapping) (gone : Bool) → IsIndexed index → OnTrue gone (value_at index.outside.held (number_of p) ≡ None) → OnTrue gone (NoneHas index p)
none_has index p gone indexed free =
    let none : gone ≡ true → NoneHas index p = λ is inside. not_held index.mappings.slots index.outside.held indexed.by_outside (mapping p.proto inside p.outside) (OnTrue_at is free) in
    OnTrue_from gone (NoneHas index p) none

pub returns-then-hosts-clause-gone : goal.returns-then-hosts-clause-gone
returns-then-hosts-clause-gone c = none_has c.take_one-is_gone.new.index c.args.held c.take_one-is_gone.result c.take_one-is_gone.ensures.indexed c.take_one-is_gone.ensures.free

pub returns-else-is_gone-clause-gone : goal.returns-else-is_gone-clause-gone
returns-else-is_gone-clause-gone c = none_has c.take_one-is_gone.new.index c.args.held c.take_one-is_gone.result c.take_one-is_gone.ensures.indexed c.take_one-is_gone.ensures.free
