use Rattle.std.proofs.Common.{◌≡◌, false}
use Rattle.devices.specs.Handing.{GaveAll, Waits}
use Rattle.carrying.specs.Runs.{Stood}
use Rattle.carrying.proofs.Going.{Going}
use Rattle.carrying.proofs.carrier.Carrier.carry.Given as goal

abbrev pub invariant-loop-turn : goal.invariant-loop-turn
invariant-loop-turn g l =
    Going g.D.Disk.honest g.D.Disk.moment g.D.Disk.left (GaveAll g.L.Device.coming g.L.Device.waited g.L.Device.has_none l.fn.devices.lan) (GaveAll g.W.Device.coming g.W.Device.waited g.W.Device.has_none l.fn.devices.wan) (Stood g.L.Device.coming g.L.Device.handed g.L.Device.waited g.W.Device.coming g.W.Device.handed g.W.Device.waited l.fn.devices) l.fn.gateway l.gateway l.fn.self.told l.self.told l._turn (g.P.Pace.asks l.fn.pace) (g.P.Pace.asks l.pace)
    (g.L.Device.coming l.fn.devices.lan) (g.L.Device.coming l.devices.lan) (g.W.Device.coming l.fn.devices.wan) (g.W.Device.coming l.devices.wan)
    (g.L.Device.handed l.fn.devices.lan) (g.L.Device.handed l.devices.lan) (g.W.Device.handed l.fn.devices.wan) (g.W.Device.handed l.devices.wan) l.fn.self.counts l.self.counts
    × (l.gateway.fallen ≡ false) × (g.D.Disk.failed l.gateway.disk ≡ g.D.Disk.failed l.fn.gateway.disk)
    × Waits l._turn (g.L.Device.waited l.fn.devices.lan) (g.L.Device.waited l.devices.lan) × Waits l._turn (g.W.Device.waited l.fn.devices.wan) (g.W.Device.waited l.devices.wan)
