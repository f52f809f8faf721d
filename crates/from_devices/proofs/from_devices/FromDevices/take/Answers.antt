use Rattle.std.proofs.Common.{rules, ◌≡◌, ◌+◌, ◌∷◌, ◌++◌, [], true, length, take, ap, ◌∙◌, arith, length-append}
use Rattle.from_devices.specs.Requests.{Gathered, with_packets}
use Rattle.from_devices.proofs.Gathering.{Gives-then, all-then, packets-then}
use Rattle.from_devices.proofs.from_devices.FromDevices.take.Goals as goal

pub loop-taken-preserved : goal.loop-taken-preserved
loop-taken-preserved g c =
    let coming = g.D.Device.coming in
    let yes : c.take_one.result ≡ true = search rules in
    let it = c.take_one.ensures.took yes in
    let i = c.loop-taken.invariant.0 in
    let iface = c.args.iface in
    let now : c.take_one.new.self ≡ with_packets iface (i.0 ++ it.0 ∷ []) c.args.self.now =
    it.3 ∙ ap (λ (g : Gathered). with_packets iface (it.0 ∷ []) g) i.3 ∙ packets-then iface i.0 (it.0 ∷ []) c.args.self.now in
    let many : length c.take_one.new.self.headers ≡ length c.args.self.now.headers + (c.loop-taken._taken + 1) =
    omega (arith, ap (λ (g : Gathered). length g.headers) it.3, length-append c.loop-taken.self.headers (take 10 it.0 ∷ []), c.loop-taken.invariant.1) in
    ((i.0 ++ it.0 ∷ [], Gives-then (coming c.args.device.now) (coming c.loop-taken.device) (coming c.take_one.new.device) i.0 (it.0 ∷ []) i.1 it.1, all-then i.0 it.0 i.2 it.2, now), many, c.take_one.ensures.handed ∙ c.loop-taken.invariant.2, c.take_one.ensures.waited ∙ c.loop-taken.invariant.3)
