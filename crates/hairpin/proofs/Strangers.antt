-- Strangers are filtered.
use Rattle.std.proofs.Common.{Bool, Option, Some, None, is_some, Result, Ok, Err, if◌then◌else◌, ap, ◌∙◌}
use Rattle.std.specs.Prelude.{find}
use Rattle.packet.specs.declared.bounds.Filtering.{Filtering}
use Rattle.packet.specs.declared.endpoint.Endpoint.{Endpoint}
use Rattle.packet.specs.declared.endpoint.Iface.TheVariants.{Wan}
use Rattle.sessions.specs.declared.session.Session.{Session}
use Rattle.verdict.specs.Hooks.{prerouting_verdict}
use Rattle.verdict.specs.declared.facts.State.TheVariants.{New}
use Rattle.hairpin.specs.Legs.{begun_in, by_mapping, facts_of, in_by, inside_by_rules, inside_for, maps_outside, then_with}
use Rattle.hairpin.specs.Strangers.{StrangersAreFiltered}
use Rattle.hairpin.specs.declared.cause.Cause.{Cause}
use Rattle.hairpin.specs.declared.cause.Cause.TheVariants.{Filtered, NoSession}

pub strangers : StrangersAreFiltered
strangers config rules sessions now view m by none udp outside asked found unknown =
    let remote = view.src.addr in
    ap (in_by config rules sessions now view) none
    ∙ ap (λ (b : Bool). if b then Err NoSession else then_with (inside_for config rules sessions now view) (begun_in config rules sessions now view)) udp
    ∙ ap (λ (o : Result Endpoint Cause). then_with o (begun_in config rules sessions now view))
    (ap (λ (b : Bool). if b then Ok view.dst else inside_by_rules config rules sessions now view sessions remote (find (maps_outside view.proto view.dst) sessions)
    (prerouting_verdict config (facts_of config rules sessions now view Wan None view.src view.dst New) rules)) outside
    ∙ ap (inside_by_rules config rules sessions now view sessions remote (find (maps_outside view.proto view.dst) sessions)) asked ∙ ap (by_mapping config.filtering sessions remote) found
    ∙ ap (λ (f : Filtering). by_mapping f sessions remote (Some m)) by ∙ ap (λ (o : Option Session). if is_some o then Ok m.inside else Err Filtered) unknown)
