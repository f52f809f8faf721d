use Rattle.std.proofs.Common.{◌≡◌, ◌<◌, ◌^◌, ◌-◌, ◌++◌, ℕ, List, length, sym, ap, subst, ◌∙◌}
use Rattle.std.specs.List.{AllByRecursion}
use Rattle.std.proofs.lemmas.List.{append-nil}
use Rattle.machine.specs.Machine.{later}
use Rattle.frames.specs.Streams.{FitsFrame}
use Rattle.from_devices.specs.Requests.{Gathered}
use Rattle.to_devices.specs.Counting.{AreCounted}
use Rattle.socket_edge.specs.Running.{Answered, Fares, events_in}
use Rattle.carrying.specs.Counted.{Carrying}
use Rattle.carrying.specs.Turns.{events_of}
use Rattle.carrying.proofs.Settled.{carried, counted, failed, rest_is}
use Rattle.carrying.proofs.Streamed.{Streams, streams, text_short, turn_fits}
use Rattle.carrying.proofs.Short.{turn_short}
use Rattle.carrying.proofs.Unfaulty.{of_turn}
use Rattle.carrying.proofs.carrier.Carrier.turn.Goals as goal

pub returns-in-Err-clause-turned : goal.returns-in-Err-clause-turned
returns-in-Err-clause-turned g c =
    let p = c.gather-wan_from.ensures.gave in
    let turn = p.0 in
    let old = c.self.inside.from in
    let s : Streams old.told turn c.gather-wan_from.new.from = subst (λ (x : Gathered). Streams old.told turn x) (sym p.4) (streams turn old) in
    let soon : turn.moment < 2 ^ 64 = subst (λ (m : ℕ). m < 2 ^ 64) (sym p.1) c.ranges.moment.fits in
    let fits : later old.told turn.moment < 2 ^ 64 = subst (λ (m : ℕ). later old.told m < 2 ^ 64) (sym p.1) c.gather-wan_from.ensures.fits in
    let fit : AllByRecursion FitsFrame (events_of old.told turn) = turn_fits old.told turn soon fits (text_short c.args.text turn.text c.requires.short p.2) p.3.lan_packets p.3.wan_packets in
    let view : old.told ≡ c.args.self.now.told = ap (λ (x : Carrying). x.told) c.self.view_is in
    let were : c.self.inside.counts ≡ c.args.self.now.counts = ap (λ (x : Carrying). x.counts) c.self.view_is in
    let a = c.in-Err.ensures.ran in (
      turn,
      p.1,
      p.2,
      p.3,
      rw (← view) (failed g.D.Disk.honest g.D.Disk.moment g.D.Disk.left c.args.gateway.now c.answer.new.gateway old.told turn c.gather-wan_from.new.from c.requests.result.now a.0 a.1 c.answer.new.to
          (g.L.Device.handed c.args.devices.now.lan) (g.L.Device.handed c.gather-wan_from.new.devices.lan) (g.W.Device.handed c.args.devices.now.wan) (g.W.Device.handed c.gather-wan_from.new.devices.wan)
          s fit c.requests.ensures a.2 a.3 c.gather-wan_from.ensures.to_lan c.gather-wan_from.ensures.to_wan),
      rw (← view) p.5,
      were,
    )

pub returns-in-Err-clause-causes : goal.returns-in-Err-clause-causes
returns-in-Err-clause-causes g c =
    let p = c.gather-wan_from.ensures.gave in
    let turn = p.0 in
    let old = c.self.inside.from in
    let s : Streams old.told turn c.gather-wan_from.new.from = subst (λ (x : Gathered). Streams old.told turn x) (sym p.4) (streams turn old) in
    let soon : turn.moment < 2 ^ 64 = subst (λ (m : ℕ). m < 2 ^ 64) (sym p.1) c.ranges.moment.fits in
    let fits : later old.told turn.moment < 2 ^ 64 = subst (λ (m : ℕ). later old.told m < 2 ^ 64) (sym p.1) c.gather-wan_from.ensures.fits in
    let fit : AllByRecursion FitsFrame (events_of old.told turn) = turn_fits old.told turn soon fits (text_short c.args.text turn.text c.requires.short p.2) p.3.lan_packets p.3.wan_packets in
    let e = c.in-Err.ensures.ended in
    of_turn c.requests.result.now e.0 e.1 e.2 (rest_is old.told turn c.gather-wan_from.new.from c.requests.result.now s fit c.requests.ensures) c.in-Err.fault c.args.gateway.now.told c.answer.new.gateway.told c.answer.new.to e.3 (c.in-Err.ensures.causes c.requires.stands)
    (c.in-Err.ensures.reads (subst (λ (xs : List ℕ). length xs < 2 ^ 64 - 1) (sym (c.requests.ensures ∙ s.requests)) (turn_short old.told turn p.5.few_of_lan p.5.few_of_wan fit)))

pub returns-clause-turned : goal.returns-clause-turned
returns-clause-turned g c =
    let p = c.gather-wan_from.ensures.gave in
    let turn = p.0 in
    let old = c.self.inside.from in
    let s : Streams old.told turn c.gather-wan_from.new.from = subst (λ (x : Gathered). Streams old.told turn x) (sym p.4) (streams turn old) in
    let soon : turn.moment < 2 ^ 64 = subst (λ (m : ℕ). m < 2 ^ 64) (sym p.1) c.ranges.moment.fits in
    let fits : later old.told turn.moment < 2 ^ 64 = subst (λ (m : ℕ). later old.told m < 2 ^ 64) (sym p.1) c.gather-wan_from.ensures.fits in
    let fit : AllByRecursion FitsFrame (events_of old.told turn) = turn_fits old.told turn soon fits (text_short c.args.text turn.text c.requires.short p.2) p.3.lan_packets p.3.wan_packets in
    let a = c.in-Ok.ensures.ran in
    let requests = c.requests.result.now in
    let all : a.0 ≡ requests = sym (a.2 ∙ ap (λ (x : List ℕ). a.0 ++ x) a.4.0 ∙ append-nil a.0) in
    let fares = subst (λ (x : List ℕ). Fares g.D.Disk.honest g.D.Disk.moment g.D.Disk.left c.args.gateway.now c.answer.new.gateway (events_in x) c.answer.new.to) all a.3 in
    let answered = subst (λ (x : List ℕ). Answered c.args.gateway.now.told c.answer.new.gateway.told x c.answer.new.to) all a.4.1 in
    let o = c.let_out.ensures.left in
    let view : old.told ≡ c.args.self.now.told = ap (λ (x : Carrying). x.told) c.self.view_is in
    let were : c.self.inside.counts ≡ c.args.self.now.counts = ap (λ (x : Carrying). x.counts) c.self.view_is in
    let lan : g.L.Device.handed c.gather-wan_from.new.devices.lan ≡ g.L.Device.handed c.args.devices.now.lan = c.gather-wan_from.ensures.to_lan in
    let wan : g.W.Device.handed c.gather-wan_from.new.devices.wan ≡ g.W.Device.handed c.args.devices.now.wan = c.gather-wan_from.ensures.to_wan in (
      turn,
      p.1,
      p.2,
      rw (c.let_out.ensures.from_lan, c.let_out.ensures.from_wan) p.3,
      rw (← view, ← lan, ← wan) (carried g.D.Disk.honest g.D.Disk.moment g.D.Disk.left c.args.gateway.now c.answer.new.gateway old.told turn c.gather-wan_from.new.from requests c.answer.new.to c.headers.result.now o.0 o.1
          (g.L.Device.handed c.gather-wan_from.new.devices.lan) (g.L.Device.handed c.let_out.new.lan) (g.W.Device.handed c.gather-wan_from.new.devices.wan) (g.W.Device.handed c.let_out.new.wan)
          s fit c.requests.ensures c.headers.ensures fares answered c.requires.none c.answer.ensures.short o.2 o.4 o.3 o.5 o.6),
      rw (← view) p.5,
      rw (← view, ← were) (counted g.D.Disk.honest g.D.Disk.moment g.D.Disk.left c.args.gateway.now c.answer.new.gateway old.told turn c.gather-wan_from.new.from requests c.answer.new.to o.0 o.1 c.self.inside.counts c.let_out.new.counts
          s fit c.requests.ensures answered c.answer.ensures.short o.2 o.4 o.3
          (subst (λ (k : ℕ). AreCounted k 0 o.0 c.self.inside.counts c.let_out.new.counts) p.6 o.7)),
    )
