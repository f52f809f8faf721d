use Rattle.std.proofs.Common.{◌≡◌, ℕ, ◌+◌, List, length}
use Rattle.std.specs.List.{AllByRecursion}
use Rattle.devices.specs.Handing.{Gives}
use Rattle.from_devices.specs.Requests.{IsPacket, with_packets}
use Rattle.from_devices.proofs.from_devices.FromDevices.take.Given as goal

abbrev pub invariant-loop-taken : goal.invariant-loop-taken
invariant-loop-taken g l = ((given : List (List ℕ)) × Gives (g.D.Device.coming l.fn.device) (g.D.Device.coming l.device) given
    × AllByRecursion IsPacket given × (l.self ≡ with_packets l.iface given l.fn.self))
    × (length l.self.headers ≡ length l.fn.self.headers + l._taken)
    × (g.D.Device.handed l.device ≡ g.D.Device.handed l.fn.device)
    × (g.D.Device.waited l.device ≡ g.D.Device.waited l.fn.device)
