-- Each leg is the former one.
use Rattle.std.proofs.Common.{◌≡◌, ℕ, List, [], ◌∷◌, Option, Some, None, Result, Ok, Err, if◌then◌else◌, refl, sym, ap, ◌∙◌}
use Rattle.std.specs.Prelude.{find}
use Rattle.packet.specs.Config.{Config, Pool, is_inside}
use Rattle.packet.specs.Same.{same_endpoint}
use Rattle.packet.specs.declared.bounds.Filtering.{Filtering}
use Rattle.packet.specs.declared.bounds.Filtering.TheVariants as filtering
use Rattle.packet.specs.declared.endpoint.Endpoint.{Endpoint}
use Rattle.packet.specs.declared.endpoint.Iface.TheVariants.{Lan, Wan}
use Rattle.packet.specs.declared.view.View.{View}
use Rattle.portpick.specs.Pool.{near_choice, pool_choice}
use Rattle.portpick.proofs.Pooled.{one_address}
use Rattle.ruletree.specs.declared.tree.Spelled.{Spelled}
use Rattle.sessions.specs.Listing.{has_inside, has_outside, put}
use Rattle.sessions.specs.declared.session.Opener.TheVariants.{Inside}
use Rattle.sessions.specs.declared.session.Session.{Session}
use Rattle.verdict.specs.Hooks.{prerouting_verdict, postrouting_verdict}
use Rattle.verdict.specs.declared.facts.State.TheVariants.{New}
use Rattle.verdict.specs.declared.hook.Destination.{Destination}
use Rattle.verdict.specs.declared.hook.Destination.TheVariants as destination
use Rattle.verdict.specs.declared.hook.Source.{Source}
use Rattle.verdict.specs.declared.hook.Source.TheVariants as source
use Rattle.hairpin.specs.AsBefore.{OneAddressIsAsBefore}
use Rattle.hairpin.specs.Former as former
use Rattle.hairpin.specs.Legs.{begun_in, begun_second, by_mapping, counted, facts_of, first_by, first_state, forwarded, hairpin_by, in_by, inside_by_rules, inside_far, inside_for, is_taken, maps_inside, maps_outside, needs_session, new_session, or_no_port, out_by, outside_by_rules, outside_for, outside_near, outward, second, second_by, then_with, through, uses_in}
use Rattle.hairpin.specs.declared.cause.Cause.{Cause}
use Rattle.hairpin.specs.declared.cause.Cause.TheVariants.{NoSession, SelfMapped}

-- what follows two answers that are the same is the same, where each follows alike
then-same : {A B : Type 0} (r : Result A Cause) (f g : A → Result B Cause) → ((a : A) → f a ≡ g a) → then_with r f ≡ then_with r g
then-same (Err cause) f g same = refl
then-same (Ok a) f g same = same a

by-endpoint : (held : List Session) (remote : ℕ) (found : Option Session) → by_mapping filtering.Endpoint held remote found ≡ former.or_no_mapping found
by-endpoint held remote None = refl
by-endpoint held remote (Some m) = refl

module _ (only : ℕ) (config : Config) (rules : Spelled) (sessions : List Session) (now : ℕ) (view : View) where
  -- ---- out
  module _ (one : config.external ≡ only ∷ []) where
    rules-out : (s : Source) → outside_by_rules config rules sessions now view s ≡ former.outside_by_rules only config rules sessions now view s
    rules-out source.None = refl
    rules-out (source.From addr) = refl
    rules-out source.Masquerade = ap or_no_port
        (ap (λ (p : Pool). pool_choice (uses_in sessions view.src.addr) (is_taken sessions view.proto) p view.src.port) one
        ∙ one_address.pool (uses_in sessions view.src.addr) (is_taken sessions view.proto) only view.src.port)
    rules-out source.Drop = refl

    for-out : (m : Option Session) → outside_for config rules sessions now view m ≡ former.outside_for only config rules sessions now view m
    for-out (Some m) = refl
    for-out None = rules-out (postrouting_verdict config (facts_of config rules sessions now view Lan (Some Wan) view.src view.dst New) rules)

    out-by : (s : Option Session) → out_by config rules sessions now view s ≡ former.out_by only config rules sessions now view s
    out-by (Some s) = refl
    out-by None = ap (λ (o : Result Endpoint Cause). if needs_session view then Err NoSession
        else forwarded config rules sessions now view Lan Wan view.src view.dst New
        (then_with o (λ outside. counted config rules sessions now view (outward (new_session config rules sessions now view Inside view.src outside view.dst)))))
        (for-out (find (maps_inside view.proto view.src) sessions))

    near : view.dst.addr ≡ only → (m : Option Session) → outside_near config rules sessions now view m ≡ former.outside_near only config rules sessions now view m
    near at (Some m) = refl
    near at None = ap or_no_port
        (ap (λ (p : Pool). near_choice (uses_in sessions view.src.addr) (is_taken sessions view.proto) p view.dst.addr view.src.port) (one ∙ ap (λ (a : ℕ). a ∷ []) (sym at))
        ∙ one_address.near (uses_in sessions view.src.addr) (is_taken sessions view.proto) view.dst.addr view.src.port)

    first-by : view.dst.addr ≡ only → (s : Option Session) → first_by config rules sessions now view s ≡ former.first_by only config rules sessions now view s
    first-by at (Some s) = refl
    first-by at None = ap (λ (o : Result Endpoint Cause). if needs_session view then Err NoSession
        else then_with o (λ outside. Ok (new_session config rules sessions now view Inside view.src outside view.dst)))
        (near at (find (maps_inside view.proto view.src) sessions))

  -- ---- in
  module _ (by : config.filtering ≡ filtering.Endpoint) where
    rules-in : (held : List Session) (remote : ℕ) (found : Option Session) (d : Destination) → inside_by_rules config rules sessions now view held remote found d ≡ former.inside_by_rules only config rules sessions now view found d
    rules-in held remote found destination.None = ap (λ (f : Filtering). by_mapping f held remote found) by ∙ by-endpoint held remote found
    rules-in held remote found (destination.To inside) = refl
    rules-in held remote found destination.Drop = refl

    for-in : inside_for config rules sessions now view ≡ former.inside_for only config rules sessions now view
    for-in = ap (λ (o : Result Endpoint Cause). if is_inside config view.dst.addr then Ok view.dst else o)
        (rules-in sessions view.src.addr (find (maps_outside view.proto view.dst) sessions)
        (prerouting_verdict config (facts_of config rules sessions now view Wan None view.src view.dst New) rules))

    in-by : (s : Option Session) → in_by config rules sessions now view s ≡ former.in_by only config rules sessions now view s
    in-by (Some s) = refl
    in-by None = ap (λ (o : Result Endpoint Cause). if needs_session view then Err NoSession else then_with o (begun_in config rules sessions now view)) for-in

    -- ---- hairpin's second leg
    far : (first : Session) (with_first : List Session) → inside_far config rules sessions now view first with_first ≡ former.inside_far only config rules sessions now view first with_first
    far first with_first = rules-in with_first first.outside.addr (find (maps_outside view.proto view.dst) with_first)
        (prerouting_verdict config (facts_of config rules sessions now view Lan None view.src view.dst New) rules)

    second-by : (first : Session) (with_first : List Session) (s : Option Session) → second_by config rules sessions now view first with_first s ≡ former.second_by only config rules sessions now view first with_first s
    second-by first with_first (Some s) = refl
    second-by first with_first None = ap (λ (o : Result Endpoint Cause). if needs_session view then Err NoSession
        else then_with o (begun_second config rules sessions now view first with_first)) (far first with_first)

    second-same : (first : Session) (with_first : List Session) → second config rules sessions now view first with_first ≡ former.second only config rules sessions now view first with_first
    second-same first with_first = ap (λ (o : Result Session Cause). if same_endpoint first.outside view.dst then Err SelfMapped else o)
        (second-by first with_first (find (has_outside view.proto view.dst first.outside) with_first))

  both : config.external ≡ only ∷ [] → config.filtering ≡ filtering.Endpoint → view.dst.addr ≡ only → (s : Option Session) → hairpin_by config rules sessions now view s ≡ former.hairpin_by only config rules sessions now view s
  both one by at s =
      ap (λ (o : Result Session Cause). then_with o (λ first. then_with (second config rules sessions now view first (put first sessions))
      (λ t. forwarded config rules sessions now view Lan Lan view.src t.inside (first_state config rules sessions now view s)
      (counted config rules sessions now view (through first t))))) (first-by one at s)
      ∙ then-same (former.first_by only config rules sessions now view s) _ _ (λ first. ap (λ (o : Result Session Cause). then_with o
      (λ t. forwarded config rules sessions now view Lan Lan view.src t.inside (first_state config rules sessions now view s)
      (counted config rules sessions now view (through first t)))) (second-same by first (put first sessions)))

pub as_before : OneAddressIsAsBefore
as_before = record {
  out = λ only config rules sessions now view one. out-by only config rules sessions now view one (find (has_inside view.proto view.src view.dst) sessions);
  inward = λ only config rules sessions now view by. in-by only config rules sessions now view by (find (has_outside view.proto view.dst view.src) sessions);
  hairpin = λ only config rules sessions now view one by at. both only config rules sessions now view one by at (find (has_inside view.proto view.src view.dst) sessions);
}
