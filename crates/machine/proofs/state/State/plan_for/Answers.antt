use Rattle.packet.specs.declared.route.Route.TheVariants.{Out, In, Hairpin}
use Rattle.packet.proofs.Routes.{routed_is_on_route}
use Rattle.machine.proofs.Soundness.{bounded, comes-to, external-is}
use Rattle.machine.proofs.state.State.plan_for.Goals as goal

pub out_leg-requires-clause-inside : goal.out_leg-requires-clause-inside
out_leg-requires-clause-inside c =
    let routed = rw (← c.self.view_is) at c.requires.routed in
    (routed_is_on_route c.self.inside.bounds routed.0 c.args.view.now Out (rw c.in-Out.is at routed.1)).1.1

pub out_leg-requires-clause-bounded : goal.out_leg-requires-clause-bounded
out_leg-requires-clause-bounded c = bounded c.self.inside.bounds c.self.inside.in_force.text c.self.inside.in_force.rules c.self.invariant.sound.in_force

pub in_leg-requires-clause-routed : goal.in_leg-requires-clause-routed
in_leg-requires-clause-routed c =
    let routed = rw (← c.self.view_is) at c.requires.routed in
    comes-to c.self.inside.bounds c.args.view.now.dst.addr (routed_is_on_route c.self.inside.bounds routed.0 c.args.view.now In (rw c.in-In.is at routed.1)).1.3

pub in_leg-requires-clause-bounded : goal.in_leg-requires-clause-bounded
in_leg-requires-clause-bounded c = bounded c.self.inside.bounds c.self.inside.in_force.text c.self.inside.in_force.rules c.self.invariant.sound.in_force

pub hairpin_leg-requires-clause-inside : goal.hairpin_leg-requires-clause-inside
hairpin_leg-requires-clause-inside c =
    let routed = rw (← c.self.view_is) at c.requires.routed in
    (routed_is_on_route c.self.inside.bounds routed.0 c.args.view.now Hairpin (rw c.in-Hairpin.is at routed.1)).1.1

pub hairpin_leg-requires-clause-bounded : goal.hairpin_leg-requires-clause-bounded
hairpin_leg-requires-clause-bounded c = bounded c.self.inside.bounds c.self.inside.in_force.text c.self.inside.in_force.rules c.self.invariant.sound.in_force

pub hairpin_leg-requires-clause-external_destination : goal.hairpin_leg-requires-clause-external_destination
hairpin_leg-requires-clause-external_destination c =
    let routed = rw (← c.self.view_is) at c.requires.routed in
    external-is c.self.inside.bounds c.args.view.now.dst.addr (routed_is_on_route c.self.inside.bounds routed.0 c.args.view.now Hairpin (rw c.in-Hairpin.is at routed.1)).1.2
