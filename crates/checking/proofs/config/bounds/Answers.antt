use Rattle.std.proofs.Common.{◌≡◌, IsFalse, ap, inr, subst, sym}
use Rattle.std.proofs.lemmas.Result.{IfErr-weaker, IfOk-weaker}
use Rattle.packet.specs.Config.{Config as Bounds, config_of, is_config}
use Rattle.refusals.specs.declared.refusal.Refusal.TheVariants.{Config}
use Rattle.refusals.specs.declared.stop.Stop.{Stop}
use Rattle.checking.specs.Spelling.{IsNoConfig, SpellsAddresses, SpellsFiltering, SpellsPrefixes}
use Rattle.checking.proofs.config.bounds.Goals as goal

pub returns-clause-names : goal.returns-clause-names
unfolding config_of
returns-clause-names c =
    let given = config_of c.args.sides.now.lan.now c.args.sides.now.wan.now c.in_ok-inside.inside.items c.in_ok-external.external.items c.in_ok-filtering.filtering in
    let lan = c.args.sides.now.lan.now in
    let wan = c.args.sides.now.wan.now in
    IfOk-weaker c.bounds_of.result (λ (b : Bounds). b ≡ given) (λ (b : Bounds). (b.lan ≡ lan) × (b.wan ≡ wan)) (λ b is. (ap (λ (x : Bounds). x.lan) is, ap (λ (x : Bounds). x.wan) is)) c.bounds_of.ensures.ok

pub returns-clause-inside : goal.returns-clause-inside
unfolding config_of
returns-clause-inside c =
    let given = config_of c.args.sides.now.lan.now c.args.sides.now.wan.now c.in_ok-inside.inside.items c.in_ok-external.external.items c.in_ok-filtering.filtering in
    let text = c.args.sides.now.inside.now in
    IfOk-weaker c.bounds_of.result (λ (b : Bounds). b ≡ given) (λ (b : Bounds). SpellsPrefixes text b.inside) (λ b is. subst (λ (x : Bounds). SpellsPrefixes text x.inside) (sym is) c.in_ok-inside.ensures.ok) c.bounds_of.ensures.ok

pub returns-clause-external : goal.returns-clause-external
unfolding config_of
returns-clause-external c =
    let given = config_of c.args.sides.now.lan.now c.args.sides.now.wan.now c.in_ok-inside.inside.items c.in_ok-external.external.items c.in_ok-filtering.filtering in
    let text = c.args.sides.now.external.now in
    IfOk-weaker c.bounds_of.result (λ (b : Bounds). b ≡ given) (λ (b : Bounds). SpellsAddresses text b.external) (λ b is. subst (λ (x : Bounds). SpellsAddresses text x.external) (sym is) c.in_ok-external.ensures.ok) c.bounds_of.ensures.ok

pub returns-clause-filtering : goal.returns-clause-filtering
unfolding config_of
returns-clause-filtering c =
    let given = config_of c.args.sides.now.lan.now c.args.sides.now.wan.now c.in_ok-inside.inside.items c.in_ok-external.external.items c.in_ok-filtering.filtering in
    let text = c.args.sides.now.filtering.now in
    IfOk-weaker c.bounds_of.result (λ (b : Bounds). b ≡ given) (λ (b : Bounds). SpellsFiltering text b.filtering) (λ b is. subst (λ (x : Bounds). SpellsFiltering text x.filtering) (sym is) c.in_ok-filtering.ensures.ok) c.bounds_of.ensures.ok

pub returns-clause-config : goal.returns-clause-config
returns-clause-config c =
    let lan = c.args.sides.now.lan.now in
    let wan = c.args.sides.now.wan.now in
    let inside = c.in_ok-inside.inside.items in
    let external = c.in_ok-external.external.items in
    let filtering = c.in_ok-filtering.filtering in
    let no = λ (stop : Stop). stop.refusal ≡ Config → IsFalse (is_config (config_of lan wan inside external filtering)) in
    let none = λ (stop : Stop). stop.refusal ≡ Config → IsNoConfig lan wan c.args.sides.now.inside.now c.args.sides.now.external.now c.args.sides.now.filtering.now in
    IfErr-weaker c.bounds_of.result no none (λ stop unfit is. inr (inr (inr (inside, external, filtering, c.in_ok-inside.ensures.ok, c.in_ok-external.ensures.ok, c.in_ok-filtering.ensures.ok, unfit is)))) c.bounds_of.ensures.config
