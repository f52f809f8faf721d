use Rattle.std.proofs.Common.{◌≡◌, ◌-◌, length}
use Rattle.to_devices.proofs.Letting.{Passed}
use Rattle.to_devices.proofs.letting_out.let_all_out.Given as goal

abbrev pub invariant-loop-len : goal.invariant-loop-len
invariant-loop-len g l =
    Passed l.fn.answers l.answers l.headers l.at l.number (g.L.Device.handed l.fn.lan) (g.L.Device.handed l.lan) (g.W.Device.handed l.fn.wan) (g.W.Device.handed l.wan) l.wan_from l.fn.counts l.counts
    × (g.L.Device.coming l.lan ≡ g.L.Device.coming l.fn.lan) × (g.W.Device.coming l.wan ≡ g.W.Device.coming l.fn.wan)
    × (g.L.Device.waited l.lan ≡ g.L.Device.waited l.fn.lan) × (g.W.Device.waited l.wan ≡ g.W.Device.waited l.fn.wan)

abbrev pub decreases-loop-len : goal.decreases-loop-len
decreases-loop-len g l = length l.answers - l.at
